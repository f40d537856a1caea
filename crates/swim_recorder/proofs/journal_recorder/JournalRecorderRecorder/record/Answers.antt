use Rattle.swim_recorder.specs.Recording.{at_recorder}
use Rattle.swim_recorder.proofs.journal_recorder.JournalRecorderRecorder.record.Goals as goal

pub returns : goal.returns
returns g c =
    let old = c.args.self.now in
    let heard = g.Y.Reporter.heard in
    let start = at_recorder heard old in
    let begun = c.begin.ensures g.N.Naming.opening c.args.follower c.opening.ensures c.requires in
    let was = c.record_on.ensures old.number g.N.Naming.opening start begun in record {
      records = record {
        writes = c.hand_on.ensures.kept start.transcript c.record_on.new.follower was.writes;
        tells = was.tells;
      };
      sent = c.hand_on.ensures.sent;
    }
