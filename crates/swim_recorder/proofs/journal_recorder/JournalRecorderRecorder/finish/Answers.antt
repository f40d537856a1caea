use Rattle.swim_node.specs.Following.{filings_of}
use Rattle.swim_recorder.specs.Recording.{at_recorder}
use Rattle.swim_recorder.proofs.journal_recorder.JournalRecorderRecorder.finish.Goals as goal

pub returns : goal.returns
returns g c = λ first is.
    let journal = c.args.journal.now in
    let start = at_recorder g.Y.Reporter.heard first in record {
      records = c.rest.ensures.keeps (filings_of journal.past) first.number journal.opening start
          (c.read_rest.ensures first.number journal.opening start is.records);
      sent = c.rest.ensures.sent;
    }
