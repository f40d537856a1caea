-- Lists of changes of the member table, oldest first: what a node published so far (its news), and what a viewer has
-- seen
-- of it. Of the news of one node one list begins the other.
use Rattle.std.specs.Prelude.{◌≡◌, ◌⊎◌, ℕ, List, [], ◌∷◌, ◌++◌}
use Rattle.std.specs.List.{AllByRecursion}
use Rattle.std.specs.Option.{option_to_list}
use mathlib.Core.List.{IsPrefix}
use Rattle.swim_history.specs.declared.calls.Call.{Call}
use Rattle.swim_history.specs.declared.replies.Reply.{Reply}
use Rattle.swim_history.specs.declared.rows.Change.{Change}
use Rattle.swim_history.specs.Changes.{change_by}

-- none of the four viewers of a node has seen a change
abbrev pub SawNothing : List (List Change) → Type 0
SawNothing viewers = viewers ≡ [] ∷ [] ∷ [] ∷ [] ∷ []

-- what each of these viewers has seen is a beginning of these changes
abbrev pub HaveSeen : List Change → List (List Change) → Type 0
HaveSeen changes viewers = AllByRecursion (λ seen. IsPrefix seen changes) viewers

-- one of the two lists begins the other, and the third is the longer of them
abbrev pub IsLongerOf : List Change → List Change → List Change → Type 0
IsLongerOf one other longer = (IsPrefix one other × (longer ≡ other)) ⊎ (IsPrefix other one × (longer ≡ one))

-- where the reply makes a change, the news ends with it: a member is up after a join, gone after a removal, failed
-- after
-- a judgement
abbrev pub EndsWithChange : Call → Reply → List Change → Type 0
EndsWithChange call reply news =
    (before : List Change) × (number : ℕ) × (news ≡ before ++ option_to_list (change_by call reply number))
