use Rattle.std.proofs.Common.{arith, refl, rules}
use Rattle.swim_detector.proofs.Counting.{calls_within, counted}
use Rattle.swim_detector.proofs.recorder.Recorder.record_ready.Goals as goal

pub overflow_add-self : goal.overflow_add-self
overflow_add-self g c =
    let s = c.self.inside in
    let limit = rw (← c.self.view_is) at c.requires.limit in
    let counts = c.self.invariant.1 in
    omega (arith, counts.seats c.args.seat c.requires.seat, calls_within c.args.seat s.journal.past, limit)

pub invariant_of-self : goal.invariant_of-self
invariant_of-self g c =
    let s = c.self.inside in
    let limit = rw (← c.self.view_is) at c.requires.limit in
    rw (c.add.ensures.opening, c.add.ensures.past) (
      c.answer.ensures.2 c.args.seat _,
      counted s.journal.past _ s.counts s.limit c.self.invariant.1 (search rules) c.requires.seat limit,
      refl,
    )
