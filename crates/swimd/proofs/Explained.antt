-- What is left to stand below the line of an outcome.
use Rattle.std.proofs.Common.{◌≡◌, ℕ, List, [], Option, Some, None, refl, sym, subst, ◌∙◌, inl, inr}
use Rattle.swim_config.specs.declared.config_fault.ConfigFault.{ConfigFault}
use Rattle.swim_commands.specs.declared.forms.Form.{Form}
use Rattle.swim_commands.specs.Asking.{Asks}
use Rattle.swim_checks.specs.Keys.{MakesKey}
use Rattle.swim_checks.specs.Texts.{Helps}
use Rattle.swimd.specs.Commands.{AsksWanted}
use Rattle.swim_outcomes.specs.declared.outcomes.Outcome.{Outcome}
use Rattle.swim_outcomes.specs.declared.outcomes.Outcome.TheVariants.{Refused, NoRandom}
use Rattle.swim_outcomes.specs.Details.{Explains}
use Rattle.swim_outcomes.specs.Explaining.{explains_if}

-- nothing stands there
pub nothing_explains : (outcome : Outcome) (details : List ℕ) → details ≡ [] → Explains outcome details
nothing_explains outcome details empty = explains_if outcome details (λ fault is. inl empty)

-- a text was written
pub helped_explains : (text : List ℕ) (old new : Option (List ℕ)) (outcome : Outcome) (details : List ℕ) →
    Helps text old new outcome → Explains outcome details
helped_explains text old new outcome details helps =
    explains_if outcome details (λ fault is. absurd (subst (Helps text old new) is helps))

refused_random : (fault : ConfigFault) → NoRandom ≡ Refused fault → ⊥
refused_random fault e = absurd cc

-- a key was made
pub made_explains : (old new : Option (List ℕ)) (outcome : Outcome) (details : List ℕ) →
    MakesKey old new outcome → Explains outcome details
made_explains old new outcome details makes =
    explains_if outcome details (λ fault is. elim makes [
      | inl none ↦ absurd (refused_random fault (sym none.0 ∙ is))
      | inr made ↦ absurd (subst (Helps made.0 old new) is made.2)
    ])

-- a daemon was asked
asks_explains : (form : Form) (left_old left_new old new : Option (List ℕ)) (outcome : Outcome) (details : List ℕ) →
    Asks form left_old left_new old new outcome → Explains outcome details
asks_explains form left_old left_new old new outcome details asks =
    explains_if outcome details (λ fault is. absurd (subst (Asks form left_old left_new old new) is asks))

pub asked_explains : (form : Form) (line left_old left_new old new : Option (List ℕ)) (outcome : Outcome)
    (details : List ℕ) → AsksWanted form line left_old left_new old new outcome → Explains outcome details
asked_explains form None left_old left_new old new outcome details asks =
    asks_explains form left_old left_new old new outcome details asks
asked_explains form (Some line) left_old left_new old new outcome details asks =
    asks_explains form (Some line) asks.1.0 old new outcome details asks.1.1
