-- The answer to a reload.
use Rattle.std.specs.Prelude.{ℕ, List, [], ◌∷◌, ◌++◌, codes, if◌then◌else◌}
use Rattle.swim_config.specs.declared.config.Config.{Config}
use Rattle.swim_config.specs.declared.keys.ConfigKey.{ConfigKey}
use Rattle.swim_config.specs.Keys.{name_of}
use Rattle.swim_reload.specs.InForce.{is_in_force, start_keys}

-- that a key needs a start
abbrev pub start_text : ConfigKey → List ℕ
start_text key = codes "; " ++ (name_of key ++ codes " needs a start")

-- the same where its value isn't in force
abbrev pub told_text : Config → Config → ConfigKey → List ℕ
told_text started read key = if is_in_force key started read then [] else start_text key

-- those of these keys, in order
abbrev pub told_texts : Config → Config → List ConfigKey → List ℕ
told_texts started read [] = []
told_texts started read (key ∷ others) = told_text started read key ++ told_texts started read others

-- those that need a start, and the end of the line
abbrev pub end_text : Config → Config → List ℕ
end_text started read = told_texts started read start_keys ++ codes "\n"

-- the line
abbrev pub reloaded_text : Config → Config → List ℕ
reloaded_text started read = codes "reloaded" ++ end_text started read
