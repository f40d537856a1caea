-- The texts of a script's faults.
use Rattle.std.specs.Prelude.{ℕ, List, ◌++◌, codes, decimal}
use Rattle.swim_history.specs.Check.{fault_number}
use Rattle.swim_script.specs.declared.faults.FaultKind.{FaultKind}
use Rattle.swim_script.specs.declared.faults.FaultKind.TheVariants.{Size, Long, Words, Opening, Unused, Memory}
use Rattle.swim_script.specs.declared.faults.FaultKind.TheVariants.{Differs, Read, Write}
use Rattle.swim_script.specs.declared.faults.ScriptFault.{ScriptFault}
use Rattle.swim_script.specs.Commands.{fault_name}

-- a kind of fault: a word, or of a refused opening the word and a number
abbrev pub kind_text : FaultKind → List ℕ
kind_text Size = codes "size"
kind_text Long = codes "long"
kind_text (Words fault) = fault_name fault
kind_text (Opening fault) = codes "opening " ++ decimal (fault_number fault)
kind_text Unused = codes "opening 6"
kind_text Memory = codes "memory"
kind_text Differs = codes "differs"
kind_text Read = codes "read"
kind_text Write = codes "write"

-- a fault: its line, and its kind
abbrev pub fault_text : ScriptFault → List ℕ
fault_text fault = codes "line " ++ (decimal fault.line ++ (codes ": " ++ kind_text fault.kind))
