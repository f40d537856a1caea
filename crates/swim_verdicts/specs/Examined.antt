-- What is seen of a journal file that was played.
use Rattle.std.specs.Prelude.{◌≡◌, ◌↔◌, ◌⊎◌, ◌||◌, ℕ, Bool, true, List, [], ◌∷◌, ◌++◌, reverse, take, Option, Some}
use Rattle.std.specs.Prelude.{None, IfOk, is_err, Contains}
use Rattle.std.specs.List.{All}
use Rattle.swim_evidence.specs.Evidence.{findings}
use Rattle.swim_evidence.specs.declared.confirming.Confirmations.{Confirmations}
use Rattle.swim_evidence.specs.declared.confirming.Missed.{Missed as Call}
use Rattle.swim_evidence.specs.declared.findings.Evidence.{Evidence}
use Rattle.swim_evidence.specs.declared.findings.Finding.{Finding}
use Rattle.swim_evidence.specs.declared.findings.Finding.TheVariants.{Judged}
use Rattle.swim_evidence.specs.declared.following.Heading.{Heading}
use Rattle.swim_evidence.specs.declared.sequences.Header.{Header}
use Rattle.swim_evidence.specs.declared.sequences.Left.{Left}
use Rattle.swim_evidence.specs.declared.verdicts.Standing.TheVariants.{Sound}
use Rattle.swim_evidence.specs.declared.verdicts.Verdict.{Verdict}
use Rattle.swim_evidence.specs.declared.verdicts.Verdict.TheVariants.{Whole, Cut, Missed, Faulty, Starved}
use Rattle.swim_evidence.specs.Verdicts.{IsCut, IsSound, IsWhole, standing_by}
use Rattle.swim_history.specs.After.{setting_after}
use Rattle.swim_history.specs.Storing.Written.{Written}
use Rattle.swim_script.specs.declared.faults.ScriptFault.{ScriptFault}
use Rattle.swim_verdicts.specs.declared.examining.Played.{Played}
use Rattle.swim_verdicts.specs.Verifying.{ends_in_midst, fault_met, has_calls, header_end, wants_memory}

-- what the first entries of a journal tell of judgements, so many of them
abbrev pub told_by : Option Written → ℕ → List Finding
told_by None confirmed = []
told_by (Some journal) confirmed = findings journal.opening (reverse (take confirmed (reverse journal.past)))

-- what is found in a file is what its confirmed entries tell, and nothing of later ones
abbrev pub FindsConfirmed : Played → Type 0
FindsConfirmed p = IfOk p.found (λ found. found.findings.items ≡ told_by p.journal p.witness.confirmations.confirmed)

-- that is the evidence of the verdict on that member at the end of that period, among what the confirmed entries of the
-- file tell
pub record IsEvidence (p : Played) (member number : ℕ) (e : Evidence) : Type 0 where
  pub of : e.member ≡ member
  pub at : e.number ≡ number
  pub told : Contains (told_by p.journal p.witness.confirmations.confirmed) (Judged e)

-- a finding is no evidence of that verdict
abbrev pub IsOther : ℕ → ℕ → Finding → Type 0
IsOther member number finding = (e : Evidence) → finding ≡ Judged e → e.member ≡ member → e.number ≡ number → ⊥

-- none of these findings is
abbrev pub LacksVerdict : List Finding → ℕ → ℕ → Type 0
LacksVerdict found member number = All (IsOther member number) found

-- it is the first of these findings that is evidence of that verdict
pub record IsFirst (found : List Finding) (member number : ℕ) (e : Evidence) : Type 0 where
  pub before : List Finding
  pub behind : List Finding
  pub parts : found ≡ before ++ Judged e ∷ behind
  pub none : LacksVerdict before member number

-- memory was refused: to play the file, to keep a time, or to find out what its entries tell
abbrev pub is_starved : Played → Bool
is_starved p = wants_memory p.outcome || (is_err p.witness.kept || is_err p.found)

-- the fault of the file, up to which it was played, if it has one
abbrev pub fault_in : Played → Option ScriptFault
fault_in p = fault_met p.outcome p.witness.end p.witness.lines

-- the file is whole, by what was played and what its lines confirmed
abbrev pub IsWholeFile : Played → Type 0
IsWholeFile p =
    IsWhole (fault_in p) (is_starved p) (ends_in_midst p.outcome p.witness.end) p.witness.confirmations

-- the file is cut
abbrev pub IsCutFile : Played → Type 0
IsCutFile p = IsCut (fault_in p) (is_starved p) (ends_in_midst p.outcome p.witness.end) p.witness.confirmations

-- the replay ended for want of memory, and nothing speaks against the file up to there
abbrev pub IsStarvedFile : Played → Type 0
IsStarvedFile p = IsSound (fault_in p) p.witness.confirmations × (is_starved p ≡ true)

-- the verdict on a file with this fault, if it has one: which it is, and which call has no answer, or which fault it
-- tells
pub record IsVerdictBy (fault : Option ScriptFault) (is_starved is_cut : Bool) (c : Confirmations)
    (v : Verdict ScriptFault) : Type 0 where
  pub whole : (v ≡ Whole) ↔ IsWhole fault is_starved is_cut c
  pub cut : (v ≡ Cut) ↔ IsCut fault is_starved is_cut c
  pub starved : (v ≡ Starved) ↔ (IsSound fault c × (is_starved ≡ true))
  pub missed : (call : Call) → (v ≡ Missed call) ↔ (c.missed ≡ Some call)
  pub faulty : (met : ScriptFault) → (v ≡ Faulty met) ↔ ((c.missed ≡ None) × (fault ≡ Some met))
  pub sound : (standing_by v ≡ Sound) ↔ (IsWhole fault is_starved is_cut c ⊎ IsCut fault is_starved is_cut c)

-- the verdict on the file
abbrev pub IsVerdictOn : Played → Verdict ScriptFault → Type 0
IsVerdictOn p v =
    IsVerdictBy (fault_in p) (is_starved p) (ends_in_midst p.outcome p.witness.end) p.witness.confirmations v

abbrev pub header_with : Option Written → Option Heading → Played → Option Header
header_with (Some journal) (Some heading) p =
    Some (record {
      opening = journal.opening;
      heading = heading;
      end = header_end (has_calls p.witness.confirmations) heading.draw p.witness.end;
    })
header_with journal heading p = None

-- the header of the file, where a line told an opening that isn't refused
abbrev pub header_of : Played → Option Header
header_of p = header_with p.journal p.witness.heading p

abbrev pub left_with : Option Written → Option Heading → Option Left
left_with (Some journal) (Some heading) =
    Some (record { opening = setting_after journal.opening journal.past; heading = heading })
left_with journal heading = None

-- what its life left
abbrev pub left_of : Played → Option Left
left_of p = left_with p.journal p.witness.heading
