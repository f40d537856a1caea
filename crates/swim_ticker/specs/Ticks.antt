-- What became of the ticks that a pace gave.
use Rattle.std.specs.Prelude.{◌≡◌, ℕ, ◌+◌, ◌-◌, ◌^◌, min, All, List, [], ◌∷◌, length}
use Rattle.swim_history.specs.declared.calls.Call.TheVariants.{Tick}
use Rattle.swim_history.specs.declared.seats.Kept.{Kept}
use Rattle.swim_node.specs.declared.receipts.CallFault.TheVariants.{Wire}
use Rattle.swim_work.specs.declared.counts.Counts.{Counts}
use Rattle.swim_work.specs.declared.paces.Beat.{Beat}
use Rattle.swim_work.specs.declared.paces.Beat.TheVariants as beats
use Rattle.swim_work.specs.Outcomes.{Outcome, calls_among, memory_in}
use Rattle.swim_work.specs.Outcomes.Outcome.{Answered, Refused}

-- how many of these beats are ticks
abbrev pub ticks_by : Beat → ℕ
ticks_by beats.Tick = 1
ticks_by beat = 0

abbrev pub ticks_in : List Beat → ℕ
ticks_in [] = 0
ticks_in (beat ∷ rest) = ticks_by beat + ticks_in rest

-- that becomes of a tick: the call for it, or the node had no room
abbrev pub IsOfTick : Outcome → Type 0
IsOfTick (Answered k) = k.call ≡ Tick
IsOfTick (Refused (Wire fault)) = ⊥
IsOfTick (Refused fault) = Unit {0}

-- each of so many ticks, in order, became one of these calls, and there is no other call among them; or it was refused.
-- For how many there was no memory is counted, and the count stops at 2^64-1
pub record AreTicked (ticks : ℕ) (calls : List Kept) (counts : Counts) : Type 0 where
  pub outcomes : List Outcome
  pub each : All IsOfTick outcomes
  pub so_many : length outcomes ≡ ticks
  pub called : calls ≡ calls_among outcomes
  pub refused : counts.refused ≡ min (memory_in outcomes) (2 ^ 64 - 1)
  pub wire : counts.wire ≡ 0
