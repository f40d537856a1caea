-- Lines below the line of an outcome, one after another.
use Rattle.std.proofs.Common.{◌≡◌, ℕ, true, List, [], ◌++◌, Some, refl, ◌∙◌}
use Rattle.swim_config.specs.Causes.{AreIndented, Causes, IsCause}
use Rattle.swim_config.specs.Indented.{both_indented}
use Rattle.swim_config.specs.declared.config_fault.ConfigFault.{ConfigFault}

-- a text that grew
pub grown_indented : (old new text : List ℕ) → new ≡ old ++ text → AreIndented old → AreIndented text → AreIndented new
grown_indented old new text e p q = rw e (both_indented old text p q)

-- a cause was written into a page in which nothing stood
pub cause_of : (fault : ConfigFault) (old new : List ℕ) → old ≡ [] → Causes fault (Some old) (Some new) true →
    IsCause fault new
cause_of fault old new empty causes =
    let is : new ≡ causes.text = causes.puts ∙ rw empty refl in
    rw is causes.cause
