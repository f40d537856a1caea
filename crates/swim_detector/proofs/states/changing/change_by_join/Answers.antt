use Rattle.swim_detector.proofs.Changing.{no_change_refused}
use Rattle.swim_detector.proofs.states.changing.change_by_join.Goals as goal

pub returns-in-Some : goal.returns-in-Some
returns-in-Some c = no_change_refused c.args.journal.now.opening c.args.journal.now.past c.args.id c.args.peer
    c.in-Some._refusal (c.in-Some.ensures c.args.peer)
