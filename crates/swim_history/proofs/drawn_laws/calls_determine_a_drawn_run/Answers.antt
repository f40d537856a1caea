use Rattle.swim_history.specs.Laws.Drawn.{drawn_once}
use Rattle.swim_history.proofs.drawn_laws.calls_determine_a_drawn_run.Goals as goal

pub returns : goal.returns
returns g c functional o = drawn_once g.C.Drawing.orders g.C.Drawing.places g.C.Drawing.same o functional
