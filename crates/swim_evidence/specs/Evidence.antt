-- What a history tells of its judgements. A history is a list of entries, newest first; the place of an entry is how
-- many stand before it.
use Rattle.std.specs.Prelude.{ℕ, ◌-◌, ◌==◌, Bool, false, List, [], ◌∷◌, ◌++◌, Option, Some, None, length, map}
use Rattle.std.specs.Prelude.{slice_get, if◌then◌else◌}
use Rattle.std.specs.Option.{option_map}
use Rattle.swim_history.specs.declared.calls.Call.{Call}
use Rattle.swim_history.specs.declared.calls.Call.TheVariants.{Hear}
use Rattle.swim_history.specs.declared.replies.Probe.{Probe}
use Rattle.swim_history.specs.declared.replies.Reply.{Reply}
use Rattle.swim_history.specs.declared.replies.Reply.TheVariants.{Started, Asked, Dropped}
use Rattle.swim_history.specs.declared.replies.DropReason.TheVariants.{Stray as AsStray}
use Rattle.swim_history.specs.declared.entries.Entry.{Entry}
use Rattle.swim_history.specs.Setting.{Setting}
use Rattle.swim_history.specs.Events.{is_start, probe_in, judged_in}
use Rattle.swim_history.specs.declared.journals.Judged.{Judged}
use Rattle.swim_evidence.specs.declared.findings.Ask.{Ask}
use Rattle.swim_evidence.specs.declared.findings.Stray.{Stray}
use Rattle.swim_evidence.specs.declared.findings.Finding.{Finding}
use Rattle.swim_evidence.specs.declared.findings.Finding.TheVariants.{Judged as AsJudged, Other, Late}
use Rattle.swim_evidence.specs.declared.trails.Probing.{Probing}

-- a start at that place, where it probed
abbrev pub probing_by : ℕ → Option Probe → Option Probing
probing_by place probe = option_map (λ probe. record { place = place; probe = probe }) probe

-- the start of the period that runs, where it probed
abbrev pub probing : List Entry → Option Probing
probing [] = None
probing (e ∷ before) = if is_start e then probing_by (length before) (probe_in e.reply) else probing before

-- the ask of an entry at that place
abbrev pub ask_in : ℕ → Reply → Option Ask → Option Ask
ask_in place (Asked target peer number relays) earlier = Some (record { place = place; relays = relays })
ask_in place reply earlier = earlier

-- the ask of the period that runs
abbrev pub asked : List Entry → Option Ask
asked [] = None
asked (e ∷ before) = if is_start e then None else ask_in (length before) e.reply (asked before)

-- an ack that came in an entry at that place, and wasn't one of the aim for the period that ran
abbrev pub stray_in : ℕ → Call → Reply → Option Stray
stray_in place (Hear source m) (Dropped AsStray) = Some (record { place = place; member = m.target; number = m.number })
stray_in place call reply = None

-- the member is the one that was probed, if any was
abbrev pub is_probed : Option Probing → ℕ → Bool
is_probed None m = false
is_probed (Some p) m = p.probe.target == m

-- the stray, where it is one of the member that was probed
abbrev pub of_probed : Option Probing → Option Stray → List Stray
of_probed p None = []
of_probed p (Some stray) = if is_probed p stray.member then stray ∷ [] else []

-- the strays of the member that the period which runs began by probing, oldest first
abbrev pub strays : List Entry → List Stray
strays [] = []
strays (e ∷ before) =
    if is_start e then [] else strays before ++ of_probed (probing before) (stray_in (length before) e.call e.reply)

-- whom each start judged, oldest first
abbrev pub judged_by_starts : List Entry → List (Option ℕ)
judged_by_starts [] = []
judged_by_starts (e ∷ before) =
    if is_start e then judged_by_starts before ++ judged_in e.reply ∷ [] else judged_by_starts before

-- the member is the one that was judged, if any was
abbrev pub is_judged : Option (Option ℕ) → ℕ → Bool
is_judged (Some (Some judged)) m = judged == m
is_judged judged m = false

-- the stray, where its member was judged failed at the end of the period that it was for: whom starts judged is told
-- oldest first, and the last number used before; the start that ends the period behind that number is the second one
abbrev pub late : List (Option ℕ) → ℕ → Option Stray → List Finding
late judged last None = []
late judged last (Some stray) =
    if is_judged (slice_get judged (stray.number - last)) stray.member then Late stray ∷ [] else []

-- what the judgement of a start at that place rests on: the ask of the period that it ends, the strays, whom it judged,
-- and who was probed
abbrev pub evidence : ℕ → Option Ask → List Stray → Option ℕ → Option Probing → List Finding
evidence place ask strays (Some m) (Some p) =
    AsJudged (record { member = m; number = p.probe.number; probed = p.place; ask = ask; judged = place })
    ∷ map Other strays
evidence place ask strays judged p = []

-- what is found in an entry that follows that history
abbrev pub found_in : Setting → List Entry → Call → Reply → List Finding
found_in o h call (Started judged probe) = evidence (length h) (asked h) (strays h) judged (probing h)
found_in o h call reply = late (judged_by_starts h) o.last (stray_in (length h) call reply)

-- what is found in a history, oldest first
abbrev pub findings : Setting → List Entry → List Finding
findings o [] = []
findings o (e ∷ before) = findings o before ++ found_in o before e.call e.reply

-- the judgements that are told
abbrev pub told_in : Finding → List Judged
told_in (AsJudged evidence) = record { member = evidence.member; number = evidence.number } ∷ []
told_in finding = []

abbrev pub judgements_told : List Finding → List Judged
judgements_told [] = []
judgements_told (finding ∷ more) = told_in finding ++ judgements_told more
