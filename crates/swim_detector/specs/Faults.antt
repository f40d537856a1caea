-- The numbers of the faults of a call that got no reply.
use Rattle.std.specs.Prelude.{ℕ}
use Rattle.swim_detector.specs.declared.recorder.ApplyFault.{ApplyFault}
use Rattle.swim_detector.specs.declared.recorder.ApplyFault.TheVariants.{JournalFull, NoMemory}

abbrev pub apply_number : ApplyFault → ℕ
apply_number JournalFull = 1
apply_number NoMemory = 2
