-- A key that is left out and has no default.
use Rattle.std.proofs.Common.{◌≡◌, ℕ, Option, Some, None, Result, Ok, Err, refl, sym, subst, ◌∙◌}
use Rattle.std.specs.Option.{ok_or}
use Rattle.toml.specs.Data.{Data, Members, get_member}
use Rattle.swim_config.specs.declared.config_fault.ConfigFault.{ConfigFault}
use Rattle.swim_config.specs.declared.config_fault.ConfigFault.TheVariants as faults
use Rattle.swim_config.specs.declared.keys.ConfigKey.{ConfigKey}
use Rattle.swim_config.specs.Keys.{default_of, name_of}
use Rattle.swim_config.specs.Configuration.{number_at, number_in, value_at}

left_out : (key : ConfigKey) (value : Option Data) (fault : ConfigFault) → default_of key ≡ None →
    Err fault ≡ ok_or value (faults.Missing key) → Err fault ≡ number_in key value
left_out key None fault none is = let same : fault ≡ faults.Missing key = cc in rw (none, same) refl
left_out key (Some value) fault none is = absurd cc

-- what is told where its value is asked for is told of its number
pub no_number : (key : ConfigKey) (table : Members) (x : Result ℕ ConfigFault) (fault : ConfigFault) →
    default_of key ≡ None → Err fault ≡ value_at key table → x ≡ Err fault → x ≡ number_at key table
no_number key table x fault none is same = same ∙ left_out key (get_member (name_of key) table) fault none is
