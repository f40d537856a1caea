use Rattle.std.proofs.Common.{◌≡◌, ◌-◌, length}
use Rattle.swim_config.specs.Inputs.{IsReading}
use Rattle.swim_config.proofs.inputs.read_input.Given as goal

abbrev pub invariant-loop-reader : goal.invariant-loop-reader
invariant-loop-reader g l = record {
  reading : IsReading (g.S.Source.left l.initial.reader) (g.S.Source.left l.reader) l.text.items;
  failures : g.S.Source.failures l.reader ≡ g.S.Source.failures l.initial.reader;
}

abbrev pub decreases-loop-reader : goal.decreases-loop-reader
decreases-loop-reader g l = 65537 - length l.text.items
