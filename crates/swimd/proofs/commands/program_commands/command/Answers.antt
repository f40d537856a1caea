use Rattle.std.proofs.Common.{refl}
use Rattle.swimd.proofs.commands.program_commands.command.Goals as goal

pub returns-clause-commanded : goal.returns-clause-commanded
returns-clause-commanded g c = record {
  outcome = c.carry_out-outcome.result;
  then = record {
    left = g.S.Source.left c.carry_out-outcome.new.streams.reader.now;
    read = g.X.Documents.read c.carry_out-outcome.new.streams.documents.now;
    written = (
      g.W.Sink.written c.carry_out-outcome.new.streams.writer.now,
      g.W.Sink.failures c.carry_out-outcome.new.streams.writer.now,
    );
    faults = (
      g.F.Sink.written c.carry_out-outcome.new.streams.faults.now,
      g.F.Sink.failures c.carry_out-outcome.new.streams.faults.now,
    );
  };
  done = c.carry_out-outcome.ensures.done;
  left = refl;
  read = refl;
  written = refl;
  told = c.tell_outcome.ensures;
}
