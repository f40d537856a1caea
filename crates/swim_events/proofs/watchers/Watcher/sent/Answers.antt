use Rattle.swim_events.proofs.Streaming.{sent_keeps_up, sent_streams}
use Rattle.swim_events.proofs.watchers.Watcher.sent.Goals as goal

pub returns-clause-keeps_up : goal.returns-clause-keeps_up
returns-clause-keeps_up c = sent_keeps_up c.args.count c.args.self.now c.drop_sent.new.self c.drop_sent.ensures

pub returns-clause-stream : goal.returns-clause-stream
returns-clause-stream c =
    λ first texts sent is. rw c.drop_sent.ensures (sent_streams first texts sent c.args.count c.args.self.now is)
