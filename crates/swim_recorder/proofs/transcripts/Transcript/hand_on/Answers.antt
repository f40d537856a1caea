use Rattle.std.proofs.Common.{rules}
use Rattle.swim_recorder.proofs.Written.{flushed}
use Rattle.swim_recorder.proofs.transcripts.Transcript.hand_on.Goals as goal

pub returns-clause-kept : goal.returns-clause-kept
returns-clause-kept g c = λ page was read has.
    flushed page (g.W.Sink.written c.args.self.now.sink) (g.W.Sink.written c.flush-self.new.self) was read
    c.args.self.now.is_whole c.flush-self.result (search rules) c.flush-self.ensures.bytes has
