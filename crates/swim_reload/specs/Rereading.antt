-- A configuration file that is read again.
use Rattle.std.specs.Prelude.{ℕ, List, Result, Ok, Err}
use Rattle.swim_wire.specs.Arguments.{◌>>=◌}
use Rattle.swim_config.specs.declared.config.Config.{Config}
use Rattle.swim_config.specs.declared.config_fault.ConfigFault.{ConfigFault}
use Rattle.swim_config.specs.Configuration.{config_of}

-- the configurations that both texts are, the one of the start first; or the fault of the other, and else its own
abbrev pub configs_of : List ℕ → List ℕ → Result (Config × Config) ConfigFault
configs_of started text = do
  read ← config_of text
  before ← config_of started
  Ok (before, read)
