use Rattle.std.proofs.Common.{rules}
use Rattle.swim_recorder.proofs.Written.{call_skipped, call_written}
use Rattle.swim_recorder.proofs.transcripts.Transcript.write.Goals as goal

pub returns-then-not-self : goal.returns-then-not-self
returns-then-not-self g c = λ page was read f kept has.
    call_skipped page (g.W.Sink.written c.args.self.now.sink) was read f c.args.self.now.is_whole (search rules) has

pub returns : goal.returns
returns g c = λ page was read f kept has.
    call_written page (g.W.Sink.written c.args.self.now.sink) (g.W.Sink.written c.put_kept-self.new.writer) was read f
    c.args.kept.now c.args.self.now.is_whole c.put_kept-self.result (search rules) kept c.put_kept-self.ensures.bytes
    c.put_kept-self.ensures.back has
