use Rattle.swim_detector.proofs.states.State.join.Goals as goal

pub returns-in-None : goal.returns-in-None
returns-in-None g c = c.list.ensures c.args.peer
