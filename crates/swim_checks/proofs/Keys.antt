-- What making a key does, whatever the source.
use Rattle.std.proofs.Common.{ℕ, List, Option, inl, inr}
use Rattle.swim_checks.specs.Keys.{MakesKey, MakesKeyOf}
use Rattle.swim_outcomes.specs.declared.outcomes.Outcome.{Outcome}

-- a key of these bytes is a key
pub key_made : (left_old left_new old new : Option (List ℕ)) (outcome : Outcome) →
    MakesKeyOf left_old left_new old new outcome → MakesKey old new outcome
key_made left_old left_new old new outcome makes = elim makes [
  | inl none ↦ inl none
  | inr made ↦ inr (made.0, (made.1.0, made.1.1, made.1.3), made.2)
]
