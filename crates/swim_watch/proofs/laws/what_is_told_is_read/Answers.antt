use Rattle.swim_watch.proofs.ReadBack.{told_back}
use Rattle.swim_watch.proofs.laws.what_is_told_is_read.Goals as goal

pub returns : goal.returns
returns c =
    told_back c.args.rows.now c.args.events.now c.rows_are_said.ensures c.events_are_said.ensures
