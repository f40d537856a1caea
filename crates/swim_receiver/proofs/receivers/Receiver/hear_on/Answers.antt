use Rattle.std.proofs.Common.{◌∙◌, ap, refl}
use Rattle.swim_work.specs.Posts.{at_sender}
use Rattle.swim_receiver.specs.Receiving.{at_turn}
use Rattle.swim_receiver.proofs.Receiving.{last_heard, learnt_first, none_heard, one_more_heard}
use Rattle.swim_receiver.proofs.Showing.{more_shown, none_shown}
use Rattle.swim_receiver.proofs.receivers.Receiver.hear_on.Goals as goal

pub returns-in-Some-hear_next-clause-heard : goal.returns-in-Some-hear_next-clause-heard
returns-in-Some-hear_next-clause-heard g c =
    let first = c.args.self.now in
    let began = c.args.hearing.now in
    let old = c.loop-turn.self in
    let was = c.loop-turn.hearing in
    let look = c.show-in-loop-turn in
    let mid = look.new.self in
    let new = c.hear_next.new.self in
    let hearing = c.hear_next.new.hearing in
    let last = at_turn (at_sender hearing.caller.seat new.post hearing.caller.counts) hearing.faults.in_a_row
    (g.L.Line.received new.line) new.returning hearing.viewer in
    let now = at_turn (at_sender was.caller.seat old.post was.caller.counts) was.faults.in_a_row
    (g.L.Line.received old.line) old.returning was.viewer in
    last_heard g.N.Naming.opening g.N.Naming.limit
    (at_turn (at_sender began.caller.seat first.post began.caller.counts) began.faults.in_a_row
    (g.L.Line.received first.line) first.returning began.viewer) now last c.in-Some-hear_next.end
    c.loop-turn.invariant.heard c.loop-turn.invariant.same
    (learnt_first g.N.Naming.opening g.N.Naming.limit now
    (at_turn (at_sender was.caller.seat mid.post was.caller.counts) was.faults.in_a_row (g.L.Line.received mid.line)
    mid.returning look.new.viewer) _ last look.ensures.learns look.ensures.same
    look.ensures.received (ap (λ post. at_sender was.caller.seat post was.caller.counts) look.ensures.post)
    refl c.in-Some-hear_next.ensures.turn)

pub returns-in-Some-hear_next-clause-sent : goal.returns-in-Some-hear_next-clause-sent
returns-in-Some-hear_next-clause-sent g c = λ start is.
    let look = c.show-in-loop-turn in
    c.in-Some-hear_next.ensures.sent start (rw look.ensures.post (c.loop-turn.invariant.sent start is))

pub returns-in-Some-hear_next-clause-same : goal.returns-in-Some-hear_next-clause-same
returns-in-Some-hear_next-clause-same g c =
    let before = c.loop-turn.invariant.same in
    let looked = c.show-in-loop-turn.ensures.same in
    let same = c.in-Some-hear_next.ensures.same in
    same ∙ (looked ∙ before)

pub returns-in-Some-hear_next-clause-shown : goal.returns-in-Some-hear_next-clause-shown
returns-in-Some-hear_next-clause-shown g c =
    let look = c.show-in-loop-turn in
    let first = g.L.Line.listed c.args.self.now.line in
    let mid = g.L.Line.listed look.new.self.line in
    let last = g.L.Line.listed c.hear_next.new.self.line in
    let opening = g.N.Naming.opening in
    more_shown opening c.args.hearing.now.viewer look.new.viewer c.hear_next.new.hearing.viewer first mid last
    (more_shown opening c.args.hearing.now.viewer c.loop-turn.hearing.viewer look.new.viewer first
    (g.L.Line.listed c.loop-turn.self.line) mid c.loop-turn.invariant.shown look.ensures.shown)
    c.in-Some-hear_next.ensures.shown

pub loop-turn-init : goal.loop-turn-init
loop-turn-init g c =
    let first = c.args.self.now in
    let began = c.args.hearing.now in
    record {
      heard = none_heard g.N.Naming.opening g.N.Naming.limit
          (at_turn (at_sender began.caller.seat first.post began.caller.counts) began.faults.in_a_row
          (g.L.Line.received first.line) first.returning began.viewer);
      sent = λ start is. is;
      same = refl;
      shown = none_shown g.N.Naming.opening began.viewer (g.L.Line.listed first.line);
      number = refl;
    }

pub loop-turn-preserved : goal.loop-turn-preserved
loop-turn-preserved g c =
    let first = c.args.self.now in
    let began = c.args.hearing.now in
    let old = c.loop-turn.self in
    let was = c.loop-turn.hearing in
    let look = c.show-in-loop-turn in
    let mid = look.new.self in
    let new = c.hear_next.new.self in
    let hearing = c.hear_next.new.hearing in
    let before = c.loop-turn.invariant.same in
    let looked = look.ensures.same in
    let same = c.in_default.ensures.same in
    let last = at_turn (at_sender hearing.caller.seat new.post hearing.caller.counts) hearing.faults.in_a_row
    (g.L.Line.received new.line) new.returning hearing.viewer in
    let now = at_turn (at_sender was.caller.seat old.post was.caller.counts) was.faults.in_a_row
    (g.L.Line.received old.line) old.returning was.viewer in
    record {
      heard = one_more_heard g.N.Naming.opening g.N.Naming.limit
          (at_turn (at_sender began.caller.seat first.post began.caller.counts) began.faults.in_a_row
          (g.L.Line.received first.line) first.returning began.viewer) now last c.loop-turn.invariant.heard before
          (learnt_first g.N.Naming.opening g.N.Naming.limit now
          (at_turn (at_sender was.caller.seat mid.post was.caller.counts) was.faults.in_a_row
          (g.L.Line.received mid.line) mid.returning look.new.viewer) _ last look.ensures.learns looked
          look.ensures.received
          (ap (λ post. at_sender was.caller.seat post was.caller.counts) look.ensures.post) refl
          c.in_default.ensures.turn);
      sent = λ start is.
          c.in_default.ensures.sent start (rw look.ensures.post (c.loop-turn.invariant.sent start is));
      same = same ∙ (looked ∙ before);
      shown = more_shown g.N.Naming.opening began.viewer look.new.viewer hearing.viewer
          (g.L.Line.listed first.line) (g.L.Line.listed mid.line) (g.L.Line.listed new.line)
          (more_shown g.N.Naming.opening began.viewer was.viewer look.new.viewer (g.L.Line.listed first.line)
          (g.L.Line.listed old.line) (g.L.Line.listed mid.line) c.loop-turn.invariant.shown look.ensures.shown)
          c.in_default.ensures.shown;
      number = c.in_default.ensures.number ∙ c.loop-turn.invariant.number;
    }
