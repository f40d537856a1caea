-- What is concluded of a probe after which its target was judged failed.
use Rattle.std.specs.Prelude.{ℕ, ◌==◌, ◌+◌, ◌&&◌, Bool, true, false, List, [], ◌∷◌, Option, Some, None, length, filter}
use Rattle.std.specs.Prelude.{nat_lt, if◌then◌else◌}
use Rattle.swim_wire.specs.declared.messages.Kind.TheVariants.{Ping}
use Rattle.swim_history.specs.declared.replies.Relay.{Relay}
use Rattle.swim_trace.specs.declared.acts.Act.{Act}
use Rattle.swim_trace.specs.declared.acts.Deed.{Deed}
use Rattle.swim_trace.specs.declared.acts.Deed.TheVariants.{Probed, Heard}
use Rattle.swim_trace.specs.declared.acts.ProbeName.{ProbeName}
use Rattle.swim_trace.specs.declared.legs.Leg.{Leg}
use Rattle.swim_trace.specs.declared.fates.Fate.{Fate}
use Rattle.swim_trace.specs.declared.fates.Fate.TheVariants as fates
use Rattle.swim_trace.specs.declared.fates.Way.{Way}
use Rattle.swim_trace.specs.declared.conclusions.Conclusion.{Conclusion}
use Rattle.swim_trace.specs.declared.conclusions.Conclusion.TheVariants.{Twofold, Contradicted, Missing, Answered}
use Rattle.swim_trace.specs.declared.conclusions.Conclusion.TheVariants.{Unreached}
use Rattle.swim_trace.specs.Fates.{same_kind, same_probe, is_passing, is_told}

abbrev pub is_probing : Deed → Bool
is_probing Probed = true
is_probing (Heard hearing) = false

-- the entry began the probe
abbrev pub is_start_of : ProbeName → Act → Bool
is_start_of p act = same_probe act.probe p && is_probing act.deed

abbrev pub is_ping : Deed → Bool
is_ping Probed = false
is_ping (Heard hearing) = same_kind hearing.kind Ping

-- by the entry its target answered a ping of the probe
abbrev pub is_answer_of : ProbeName → Act → Bool
is_answer_of p act = same_probe act.probe p && act.member == p.target && is_ping act.deed && is_passing act.deed

abbrev pub contradicted_or : Fate → Leg → Option Leg → Option Leg
contradicted_or fates.Contradicted leg later = Some leg
contradicted_or fate leg later = later

-- the first way whose datagram came and wasn't sent
abbrev pub first_contradicted : List Way → Option Leg
first_contradicted [] = None
first_contradicted (way ∷ more) = contradicted_or way.fate way.leg (first_contradicted more)

-- so many pings were answered, or none came on so many paths
abbrev pub by_answers : ℕ → ℕ → Conclusion
by_answers paths answers = if answers == 0 then Unreached paths else Answered answers

abbrev pub by_files : Bool → ℕ → ℕ → Conclusion
by_files true paths answers = by_answers paths answers
by_files false paths answers = Missing

abbrev pub unless_contradicted : Option Leg → Conclusion → Conclusion
unless_contradicted None conclusion = conclusion
unless_contradicted (Some leg) conclusion = Contradicted leg

abbrev pub conclusion : ProbeName → List Relay → List Act → List ℕ → List Way → Conclusion
conclusion p relays acts told ways =
    if nat_lt 1 (length (filter (is_start_of p) acts)) then Twofold
    else unless_contradicted (first_contradicted ways)
    (by_files (is_told told p.target) (length relays + 1) (length (filter (is_answer_of p) acts)))
