use Rattle.std.proofs.Common.{◌≡◌, reverse, take}
use Rattle.swim_history_tests.specs.Worked.Gaps.{no_relays}
use Rattle.swim_history_tests.proofs.tests.gaps.replayed.Given as goal

-- the entries so far
abbrev pub invariant-loop-entry : goal.invariant-loop-entry
invariant-loop-entry g l = record {
  opening_is : l.journal.opening ≡ no_relays;
  past_is : l.journal.past ≡ reverse (take l.entry-index l.entries);
}
