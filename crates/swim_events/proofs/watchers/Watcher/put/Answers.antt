use Rattle.swim_events.proofs.Streaming.{put_keeps_up, put_streams}
use Rattle.swim_events.proofs.watchers.Watcher.put.Goals as goal

pub returns-clause-keeps_up : goal.returns-clause-keeps_up
returns-clause-keeps_up c = put_keeps_up c.args.text.now c.args.self.now c.take_text.new.self c.take_text.ensures

pub returns-clause-stream : goal.returns-clause-stream
returns-clause-stream c =
    λ first texts sent is. rw c.take_text.ensures (put_streams first texts sent c.args.text.now c.args.self.now is)
