-- Below which outcomes something has to stand.
use Rattle.std.specs.Prelude.{◌≡◌, ℕ, List}
use Rattle.std.proofs.Common.{refl}
use Rattle.swim_config.specs.declared.config_fault.ConfigFault.{ConfigFault}
use Rattle.swim_outcomes.specs.declared.outcomes.Outcome.{Outcome}
use Rattle.swim_outcomes.specs.declared.outcomes.Outcome.TheVariants.{Checked, Stopped, Asked, Usage, Unread, Refused}
use Rattle.swim_outcomes.specs.declared.outcomes.Outcome.TheVariants.{Unwritten}
use Rattle.swim_outcomes.specs.declared.outcomes.Outcome.TheVariants.{NoListen, NoControl, NoMemory}
use Rattle.swim_outcomes.specs.declared.outcomes.Outcome.TheVariants.{Socket, NoPlace, NoDaemon}
use Rattle.swim_outcomes.specs.declared.outcomes.Outcome.TheVariants.{AskRefused, AskTimeout, Unanswered, AskUnwritten}
use Rattle.swim_outcomes.specs.declared.outcomes.Outcome.TheVariants.{AskUnread, Helped, NoRandom}
use Rattle.swim_outcomes.specs.declared.outcomes.Outcome.TheVariants.{NoEvents, NoTeller, WatchUnwritten}
use Rattle.swim_outcomes.specs.declared.outcomes.Outcome.TheVariants.{NoWeb, WebOver}
use Rattle.swim_outcomes.specs.Details.{Explains, IsExplained}

-- only where a configuration was refused something has to stand there
pub explains_if : (outcome : Outcome) (details : List ℕ) →
    ((fault : ConfigFault) → outcome ≡ Refused fault → IsExplained fault details) → Explains outcome details
explains_if Checked details refused = tt
explains_if Stopped details refused = tt
explains_if Asked details refused = tt
explains_if AskRefused details refused = tt
explains_if AskTimeout details refused = tt
explains_if Unanswered details refused = tt
explains_if AskUnwritten details refused = tt
explains_if AskUnread details refused = tt
explains_if Helped details refused = tt
explains_if NoRandom details refused = tt
explains_if Usage details refused = tt
explains_if Unread details refused = tt
explains_if (Refused fault) details refused = refused fault refl
explains_if Unwritten details refused = tt
explains_if NoListen details refused = tt
explains_if NoControl details refused = tt
explains_if NoEvents details refused = tt
explains_if NoMemory details refused = tt
explains_if Socket details refused = tt
explains_if NoPlace details refused = tt
explains_if NoDaemon details refused = tt
explains_if NoTeller details refused = tt
explains_if WatchUnwritten details refused = tt
explains_if NoWeb details refused = tt
explains_if WebOver details refused = tt
