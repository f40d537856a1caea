-- The texts of a configuration's faults.
use Rattle.std.specs.Prelude.{ℕ, List, ◌++◌, codes, decimal}
use Rattle.swim_history.specs.Check.{fault_number}
use Rattle.swim_history.specs.Texts.{feed}
use Rattle.swim_config.specs.declared.config_fault.ConfigFault.{ConfigFault}
use Rattle.swim_config.specs.declared.config_fault.ConfigFault.TheVariants.{Size, Document, UnknownKey, Missing, Kind}
use Rattle.swim_config.specs.declared.config_fault.ConfigFault.TheVariants.{Range, Peer, Seed, Opening, NoMemory}
use Rattle.swim_config.specs.Keys.{key_text}

-- the line of a fault: a number, and for most a key
abbrev pub fault_text : ConfigFault → List ℕ
fault_text Size = codes "configuration 1\n"
fault_text Document = codes "configuration 2\n"
fault_text UnknownKey = codes "configuration 3\n"
fault_text (Missing key) = codes "configuration 4 " ++ (key_text key ++ feed)
fault_text (Kind key) = codes "configuration 5 " ++ (key_text key ++ feed)
fault_text (Range key) = codes "configuration 6 " ++ (key_text key ++ feed)
fault_text (Peer key) = codes "configuration 7 " ++ (key_text key ++ feed)
fault_text Seed = codes "configuration 8 seed\n"
fault_text (Opening fault) = codes "configuration 9 " ++ (decimal (fault_number fault) ++ feed)
fault_text NoMemory = codes "no memory\n"
