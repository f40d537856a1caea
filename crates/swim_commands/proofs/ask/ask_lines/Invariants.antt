use Rattle.swim_commands.proofs.Exchanges.{Going}
use Rattle.swim_commands.proofs.ask.ask_lines.Given as goal

abbrev pub invariant-loop-turn : goal.invariant-loop-turn
invariant-loop-turn g l =
    Going l.fn.form
    (record {
      left = g.S.Source.left l.initial.reader;
      written = g.W.Sink.written l.initial.writer;
      asked = g.A.Asker.asked l.initial.asker;
    })
    (record { left = g.S.Source.left l.reader; written = g.W.Sink.written l.writer; asked = g.A.Asker.asked l.asker })
    l.is_refused
