-- What is kept of files that were gone through.
use Rattle.std.specs.Prelude.{◌≡◌, ℕ, List, ◌++◌, Option, IfSome, is_some}
use Rattle.std.specs.Prelude.{nat_eq, reverse, take, true}
use Rattle.std.specs.HashMap.{get}
use Rattle.std.specs.Option.{option_map}
use Rattle.swim_history.specs.Storing.Written.{Written}
use Rattle.swim_trace.specs.declared.acts.Act.{Act}
use Rattle.swim_trace.specs.declared.index.ActIndex.{ActIndex}
use Rattle.swim_trace.specs.Acts.{Run, acts}

-- what a journal's first entries tell, so many of them
abbrev pub run_of : Written → ℕ → Run
run_of journal confirmed =
    record { me = journal.opening.me; past = reverse (take confirmed (reverse journal.past)) }

-- what is kept of a number, with these behind it, where anything is
abbrev pub with_more : List Act → Option (List Act) → Option (List Act)
with_more more kept = option_map (λ acts. acts ++ more) kept

-- the number is wanted
abbrev pub IsWanted : ℕ → ActIndex → Type 0
IsWanted n index = is_some (get nat_eq index.acts n) ≡ true

-- no number stopped being wanted
abbrev pub KeepsWanted : ActIndex → ActIndex → Type 0
KeepsWanted old new = (n : ℕ) → IsWanted n old → IsWanted n new

-- of each number that is wanted, all of these files is kept
pub record Knows (runs : List Run) (index : ActIndex) : Type 0 where
  pub acts : (n : ℕ) → IfSome (get nat_eq index.acts n) (λ kept. kept.items ≡ acts n runs)
