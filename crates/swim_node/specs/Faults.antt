-- The numbers of the faults of a node: of a call that got no reply, and of a node that can't be opened.
use Rattle.std.specs.Prelude.{ℕ}
use Rattle.swim_node.specs.declared.receipts.CallFault.{CallFault}
use Rattle.swim_node.specs.declared.receipts.CallFault.TheVariants.{Wire, JournalFull}
use Rattle.swim_node.specs.declared.receipts.CallFault.TheVariants.{NoMemory as NoMemoryNow}
use Rattle.swim_node.specs.declared.receipts.OpenFault.{OpenFault}
use Rattle.swim_node.specs.declared.receipts.OpenFault.TheVariants.{NoMemory, NoPlace}

abbrev pub call_number : CallFault → ℕ
call_number (Wire _) = 1
call_number JournalFull = 2
call_number NoMemoryNow = 3

abbrev pub open_number : OpenFault → ℕ
open_number NoMemory = 1
open_number NoPlace = 2
