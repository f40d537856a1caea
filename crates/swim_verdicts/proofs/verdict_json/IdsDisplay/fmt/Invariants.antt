use Rattle.std.proofs.Common.{◌≡◌, ℕ, List, [], ◌++◌, drop}
use Rattle.std.specs.Fmt.{HasWritten, IsPlainFormatter}
use denote.Shadow.{shadow}
use denote.Text.{Utf8}
use Rattle.swim_verdicts.specs.VerdictJson.{ids_behind}
use Rattle.swim_verdicts.proofs.verdict_json.IdsDisplay.fmt.Given as goal

-- what was written, and the ids that are left, are all ids
abbrev pub invariant-loop-relay : goal.invariant-loop-relay
invariant-loop-relay g l = shadow (Utf8 l.before)
    × (IsPlainFormatter l.initial.f → (done : List ℕ) × HasWritten g.W.Write.write_str_gives l.initial.f done l.f
    × (done ++ ids_behind l.before (drop l.relay-index l.relay-items) ≡ ids_behind [] l.relay-items))
