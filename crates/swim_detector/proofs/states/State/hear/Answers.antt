use Rattle.swim_detector.proofs.states.State.hear.Goals as goal

pub returns-in-Ack : goal.returns-in-Ack
returns-in-Ack c = c.hear_ack.ensures c.args.source
