use Rattle.std.proofs.Common.{take, arith}
use Rattle.std.proofs.lemmas.List.{length-reverse, length-take-le}
use Rattle.swim_history.specs.Laws.InOrder.{next_continues}
use Rattle.swim_history_tests.specs.Worked.Gaps.{no_relays}
use Rattle.swim_history_tests.proofs.tests.gaps.replayed.Goals as goal

pub append-requires-clause-count : goal.append-requires-clause-count
append-requires-clause-count g c =
    let i = c.loop-entry.entry-index in
    let entries = c.args.entries.now in
    rw c.loop-entry.invariant.past_is
    (omega (arith, length-reverse (take i entries), length-take-le i entries (omega arith), c.requires.count))

pub append-requires-clause-continues : goal.append-requires-clause-continues
append-requires-clause-continues g c =
    rw (c.loop-entry.invariant.opening_is, c.loop-entry.invariant.past_is)
    (next_continues no_relays c.args.entries.now c.loop-entry.entry-index c.entry-item.result c.loop-entry-test.true
    c.entry-item.is c.requires.run)
