-- What serving pages over HTTP does.
use Rattle.std.specs.Prelude.{◌≡◌, ◌⊎◌}
use Rattle.swim_config.specs.declared.config_fault.ConfigFault.TheVariants.{NoMemory}
use Rattle.swim_telling.specs.Notices.{Notices}
use Rattle.swim_telling.specs.Telling.{Written}
use Rattle.swim_outcomes.specs.declared.outcomes.Outcome.{Outcome}
use Rattle.swim_outcomes.specs.declared.outcomes.Outcome.TheVariants.{NoWeb, WebOver, Refused}

-- how it may end
abbrev pub IsWebEnd : Outcome → Type 0
IsWebEnd outcome = (outcome ≡ NoWeb) ⊎ ((outcome ≡ WebOver) ⊎ (outcome ≡ Refused NoMemory))

-- notices were written on standard error, or none, and nothing else
abbrev pub ServesWeb : Written → Written → Outcome → Type 0
ServesWeb old new outcome = Notices old new × IsWebEnd outcome
