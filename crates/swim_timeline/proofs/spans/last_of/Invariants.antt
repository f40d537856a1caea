use Rattle.std.proofs.Common.{◌≡◌, None, drop}
use Rattle.swim_timeline.specs.Spans.{judged_last}
use Rattle.swim_timeline.proofs.spans.last_of.Given as goal

-- what is found so far and in the judgements to come is what is found in all
abbrev pub invariant-loop-judged : goal.invariant-loop-judged
invariant-loop-judged l = judged_last l.member l.found (drop l.judged-index l.judged) ≡
    judged_last l.member None l.judged
