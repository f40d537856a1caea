use Rattle.swim_recorder.proofs.journal_recorder.JournalRecorder.serve.Goals as goal

pub returns : goal.returns
returns g c = λ read number o start is.
    let heard = g.Y.Reporter.heard c.args.self.now.reporter in record {
      writes = is.writes;
      tells = c.serve.ensures number o start.gallery start.heard heard read is.tells;
    }
