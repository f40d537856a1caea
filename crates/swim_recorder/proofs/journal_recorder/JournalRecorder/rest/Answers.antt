use Rattle.swim_recorder.proofs.Told.{rested_told}
use Rattle.swim_recorder.proofs.journal_recorder.JournalRecorder.rest.Goals as goal

pub returns-clause-keeps : goal.returns-clause-keeps
returns-clause-keeps g c = λ read number o start is.
    let old = c.args.self.now in record {
      writes = c.hand_on.ensures.kept start.transcript read is.writes;
      tells = rested_told number o start.gallery start.heard (g.Y.Reporter.heard old.reporter)
          (g.Y.Reporter.heard c.rest.new.self) read old.watching old.gallery c.rest.ensures is.tells;
    }
