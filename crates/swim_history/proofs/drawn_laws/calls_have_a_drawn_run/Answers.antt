use Rattle.swim_history.specs.Laws.DrawnRuns.{drawn_run}
use Rattle.swim_history.proofs.drawn_laws.calls_have_a_drawn_run.Goals as goal

pub returns : goal.returns
returns g c = drawn_run g.C.Drawing.orders g.C.Drawing.places
