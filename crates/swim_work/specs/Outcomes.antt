-- What became of the calls that a worker was to make.
use Rattle.std.specs.Prelude.{ℕ, ◌+◌, List, [], ◌∷◌, flat_map}
use Rattle.swim_history.specs.declared.seats.Kept.{Kept}
use Rattle.swim_node.specs.declared.receipts.CallFault.{CallFault}
use Rattle.swim_node.specs.declared.receipts.CallFault.TheVariants.{NoMemory}

-- a call, with its place in the journal and its reply; or why there is none
pub data Outcome : Type 0 where
  Answered : (kept : Kept) → Outcome
  Refused : (fault : CallFault) → Outcome

-- the calls among them
abbrev pub call_by : Outcome → List Kept
call_by (Answered k) = k ∷ []
call_by (Refused fault) = []

abbrev pub calls_among : List Outcome → List Kept
calls_among xs = flat_map call_by xs

-- for how many there was no memory
abbrev pub memory_by : Outcome → ℕ
memory_by (Refused NoMemory) = 1
memory_by x = 0

abbrev pub memory_in : List Outcome → ℕ
memory_in [] = 0
memory_in (x ∷ xs) = memory_by x + memory_in xs
