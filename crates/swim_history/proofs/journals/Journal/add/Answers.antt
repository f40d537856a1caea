use Rattle.std.proofs.Common.{◌<◌, reverse, length, min, arith}
use Rattle.std.specs.HashMap.{spare}
use Rattle.swim_history.specs.Run.{Continues}
use Rattle.swim_history.proofs.Summing.{has_room, run_longer}
use Rattle.swim_history.proofs.journals.Journal.add.Goals as goal

pub note-requires : goal.note-requires
note-requires c =
    let j = c.self.inside in
    let e = c.args.entry.now in
    let follows : Continues j.opening (reverse j.entries.items) e = rw (← c.self.view_is) at c.requires.continues in
    let count : length (reverse j.entries.items) < 4294967295 = rw (← c.self.view_is) at c.requires.count in
    let there : 0 < min j.entries.room (spare j.summary.gaps) = rw (← c.self.view_is) at c.requires.room in
    let room : 0 < spare j.summary.gaps = omega arith in
    has_room j.opening (reverse j.entries.items) e j.summary c.self.invariant.0 c.self.invariant.1 follows count room
    c.self.invariant.3

pub invariant_of-self : goal.invariant_of-self
invariant_of-self c =
    let j = c.self.inside in
    let e = c.args.entry.now in
    let follows : Continues j.opening (reverse j.entries.items) e = rw (← c.self.view_is) at c.requires.continues in
    let count : length (reverse j.entries.items) < 4294967295 = rw (← c.self.view_is) at c.requires.count in
    run_longer j.opening j.entries.items c.push.new.self.items e j.summary c.note.new.self c.self.invariant.0
    c.self.invariant.1 count c.self.invariant.3 follows c.note.ensures c.push.ensures.items
