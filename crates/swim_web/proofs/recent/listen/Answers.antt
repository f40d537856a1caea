use Rattle.swim_web.proofs.Listening.{notes_more}
use Rattle.swim_web.proofs.recent.listen.Goals as goal

pub loop-event-preserved : goal.loop-event-preserved
loop-event-preserved g c =
    notes_more (g.T.Teller.heard c.args.teller.now) (g.T.Teller.heard c.loop-event.teller)
    (g.T.Teller.heard c.hear.new.self) c.args.recent.now c.loop-event.recent c.note.new.self c.hear.new.line.items
    c.loop-event.invariant c.if-not-hear.ensures c.note.ensures
