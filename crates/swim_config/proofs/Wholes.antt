-- How the parts of a configuration make the whole.
use Rattle.std.proofs.Common.{◌≡◌, List, Result, Ok, Err, Vec, Global, refl, sym, ◌∙◌, inl, inr}
use Rattle.swim_wire.specs.Address.{Address}
use Rattle.swim_wire.specs.Arguments.{◌>>=◌}
use Rattle.std.proofs.Common.{ℕ}
use Rattle.toml.specs.Data.{Members}
use Rattle.swim_config.specs.declared.config.Config.{Config}
use Rattle.swim_config.specs.declared.config_fault.ConfigFault.{ConfigFault}
use Rattle.swim_config.specs.declared.config_fault.ConfigFault.TheVariants.{NoMemory}
use Rattle.swim_config.specs.declared.config.Settings.{Settings}
use Rattle.swim_config.specs.Configuration.{config_in, config_with, members_at, only_keys, settings_in}
use Rattle.swim_config.specs.Keys.{top_keys}
use Rattle.swim_config.specs.Reading.{OrNoMemory, Reads}

-- an unknown key, or a fault of the settings, is the first fault
pub fault_of_keys : (table : Members) (fault : ConfigFault) → only_keys top_keys table ≡ Err fault →
    config_in table ≡ Err fault
unfolding config_in
fault_of_keys table fault is = rw is refl

pub fault_of_settings : (table : Members) (fault : ConfigFault) → only_keys top_keys table ≡ Ok tt →
    settings_in table ≡ Err fault → config_in table ≡ Err fault
unfolding config_in
fault_of_settings table fault known is = rw (known, is) refl

-- then the members decide
pub by_members : (table : Members) (settings : Settings) → only_keys top_keys table ≡ Ok tt →
    settings_in table ≡ Ok settings → config_in table ≡ (members_at table >>= config_with settings)
unfolding config_in
by_members table settings known is = rw (known, is) refl

-- where they have a fault, or memory was refused
pub fault_of_members : (settings : Settings) (said : Result (List (ℕ × Address)) ConfigFault)
    (whole : Result Config ConfigFault) (read : Result (Vec (ℕ × Address) Global) ConfigFault) (fault : ConfigFault) →
    whole ≡ (said >>= config_with settings) → Reads read said → read ≡ Err fault → OrNoMemory (Err fault) whole
fault_of_members settings said whole read fault is reads failed = elim (rw failed at reads) [
  | inl refused ↦ let is : fault ≡ NoMemory = cc in inl (rw is refl)
  | inr same ↦ inr (sym (is ∙ rw (← same) refl))
]

-- and where they were read
pub whole_of_members : (settings : Settings) (said : Result (List (ℕ × Address)) ConfigFault)
    (whole : Result Config ConfigFault) (read : Result (Vec (ℕ × Address) Global) ConfigFault)
    (members : Vec (ℕ × Address) Global) → whole ≡ (said >>= config_with settings) → Reads read said →
    read ≡ Ok members → OrNoMemory (config_with settings members.items) whole
whole_of_members settings said whole read members is reads done = elim (rw done at reads) [
  | inl refused ↦ absurd cc
  | inr same ↦ inr (sym (is ∙ rw (← same) refl))
]
