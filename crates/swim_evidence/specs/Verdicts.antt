-- What a journal file comes to that was played.
use Rattle.std.specs.Prelude.{◌≡◌, ◌⊎◌, Bool, true, false, Option, None, IsSome}
use Rattle.swim_evidence.specs.declared.confirming.Confirmations.{Confirmations}
use Rattle.swim_evidence.specs.declared.verdicts.Standing.{Standing}
use Rattle.swim_evidence.specs.declared.verdicts.Standing.TheVariants as standings
use Rattle.swim_evidence.specs.declared.verdicts.Verdict.{Verdict}
use Rattle.swim_evidence.specs.declared.verdicts.Verdict.TheVariants.{Whole, Cut, Missed, Faulty, Starved}

-- it has no fault, and each call but perhaps the last has its answer
abbrev pub IsSound : {F : Type 0} → Option F → Confirmations → Type 0
IsSound fault c = (fault ≡ None) × (c.missed ≡ None)

-- it was played to its end, which is that of a line, and each call has its answer
abbrev pub IsWhole : {F : Type 0} → Option F → Bool → Bool → Confirmations → Type 0
IsWhole fault is_starved is_cut c = IsSound fault c × (is_starved ≡ false) × (is_cut ≡ false) × (c.waiting ≡ None)

-- it was played to its end, which isn't that of a line, or the last call has no answer
abbrev pub IsCut : {F : Type 0} → Option F → Bool → Bool → Confirmations → Type 0
IsCut fault is_starved is_cut c = IsSound fault c × (is_starved ≡ false) × ((is_cut ≡ true) ⊎ IsSome c.waiting)

-- nothing speaks against a file that is whole or cut
abbrev pub standing_by : {F : Type 0} → Verdict F → Standing
standing_by Whole = standings.Sound
standing_by Cut = standings.Sound
standing_by (Missed call) = standings.Accused
standing_by (Faulty fault) = standings.Accused
standing_by Starved = standings.Starved
