use Rattle.std.proofs.Common.{false, refl}
use Rattle.swim_config.specs.Summary.{summary_text}
use Rattle.swim_streams.proofs.Taken.{put_and_flushed}
use Rattle.swim_checks.proofs.checking.show.Goals as goal

pub returns-then-not-flush-clause-shows : goal.returns-then-not-flush-clause-shows
returns-then-not-flush-clause-shows g c = (
  put_and_flushed (g.W.Sink.written c.args.writer.now) (g.W.Sink.written c.summary.new.writer)
      (g.W.Sink.written c.flush.new.self) (summary_text c.args.config.now) false
      c.if-not-summary.ensures.bytes c.flush.ensures.bytes,
  refl,
)
