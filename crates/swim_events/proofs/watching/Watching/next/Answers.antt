use Rattle.swim_events.proofs.Reading.{known_then}
use Rattle.swim_events.proofs.watching.Watching.next.Goals as goal

pub returns-clause-known : goal.returns-clause-known
returns-clause-known c =
    λ o h e s run calls replies is.
    known_then o h e c.args.call.now c.args.reply.now c.read.result c.args.self.now c.read.new.self s run calls replies
    is
    c.read.ensures.change c.read.ensures.rows c.read.ensures.number
