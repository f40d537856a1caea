use Rattle.std.proofs.Common.{refl}
use Rattle.swim_recorder.proofs.Keeping.{begun}
use Rattle.swim_recorder.proofs.Told.{none_told}
use Rattle.swim_recorder.proofs.Written.{none_written}
use Rattle.swim_recorder.proofs.journal_recorder.JournalRecorder.begin.Goals as goal

pub returns : goal.returns
returns g c = λ o read same none.
    let old = c.args.self.now in
    let opening = c.args.opening.now in
    begun g.W.Sink.written old.number o opening read _ _ same none (none_written g.W.Sink.written old.transcript)
    (none_told old.number opening old.gallery c.tell.new.self (g.Y.Reporter.heard old.reporter)
    (g.Y.Reporter.heard c.begins.new.self) c.new-watching.result c.new-watching.ensures c.tell.ensures.exact
    (λ lives are. c.tell.ensures.life lives old.number opening refl are) c.begins.ensures)
