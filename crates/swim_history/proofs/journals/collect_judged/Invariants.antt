use Rattle.std.proofs.Common.{◌≡◌, reverse, take}
use Rattle.swim_history.specs.Clock.{period_number}
use Rattle.swim_history.specs.Judgement.{judgements}
use Rattle.swim_history.proofs.journals.collect_judged.Given as goal

-- the judgements of the entries so far, and the number of the period that runs after them
abbrev pub invariant-loop-place : goal.invariant-loop-place
invariant-loop-place l = record {
  told : l.judged.items ≡ judgements l.opening (reverse (take l.place l.entries.items));
  now : l.number ≡ period_number l.opening (reverse (take l.place l.entries.items));
}
