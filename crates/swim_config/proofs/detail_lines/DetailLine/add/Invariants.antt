use Rattle.std.proofs.Common.{take}
use Rattle.swim_config.specs.Hiding.{Adds}
use Rattle.swim_config.proofs.detail_lines.DetailLine.add.Given as goal

abbrev pub invariant-loop-byte : goal.invariant-loop-byte
invariant-loop-byte l = Adds l.initial.self (take l.byte-index l.text) l.self
