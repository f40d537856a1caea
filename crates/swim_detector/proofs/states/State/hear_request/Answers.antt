use Rattle.swim_detector.proofs.states.State.hear_request.Goals as goal

pub returns-in-Err : goal.returns-in-Err
returns-in-Err c = c.drop_request.ensures c.args.source
