use Rattle.swim_crew.specs.Crews.{crew_at}
use Rattle.swim_crew.proofs.Lived.{is_life}
use Rattle.swim_crew.proofs.named_lives.live_so.Goals as goal

pub returns-clause-life : goal.returns-clause-life
returns-clause-life g c =
    let life = c.run_life-life.result in
    let so = c.run_life-life.ensures in
    rw (c.left.ensures.past, c.left.ensures.crew) (is_life g.A.Worker.works g.B.Worker.works g.C.Worker.works
    g.D.Recorder.records c.args.opening g.N.Naming.opening c.args.limit g.N.Naming.limit (crew_at c.args.crew) life.past
    (crew_at life.crew) life.seats.first life.seats.second life.seats.third life.seats.fourth c.requires.opening
    c.requires.limit so.fourth so.opening so.within so.seats so.history so.met so.first so.second so.third so.recorder
    so.why so.full)
