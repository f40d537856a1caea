use Rattle.std.proofs.Common.{rules}
use Rattle.swim_recorder.proofs.Written.{life_written}
use Rattle.swim_recorder.proofs.transcripts.hand_on.Goals as goal

pub returns-in-Some-clause-kept : goal.returns-in-Some-clause-kept
returns-in-Some-clause-kept g c = λ start read are.
    life_written g.W.Sink.written start c.args.transcript.now c.in-Some.script c.hand_on.new.self read read
    (search rules) (λ page was has. c.hand_on.ensures.kept page was read has) are
