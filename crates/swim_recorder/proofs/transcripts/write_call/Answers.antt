use Rattle.std.proofs.Common.{◌++◌, ◌∷◌, [], rules}
use Rattle.swim_recorder.proofs.Written.{life_unwritten, life_written}
use Rattle.swim_recorder.proofs.transcripts.write_call.Goals as goal

pub returns-in-Some : goal.returns-in-Some
returns-in-Some g c = λ start read f kept are.
    life_written g.W.Sink.written start c.args.transcript.now c.in-Some.script c.write.new.self read (read ++ f ∷ [])
    (search rules) (λ page was has. c.write.ensures page was read f kept has) are

pub returns-in_default : goal.returns-in_default
returns-in_default g c = λ start read f kept are.
    life_unwritten g.W.Sink.written start c.args.transcript.now read (read ++ f ∷ []) (search rules) are
