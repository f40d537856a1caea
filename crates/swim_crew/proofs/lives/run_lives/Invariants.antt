use Rattle.swim_crew.specs.Crews.{rules, stand_at}
use Rattle.swim_crew.proofs.Living.{HaveLived}
use Rattle.swim_crew.proofs.lives.run_lives.Given as goal

abbrev pub invariant-loop-life : goal.invariant-loop-life
invariant-loop-life g l =
    HaveLived (rules g.A.Worker.works g.B.Worker.works g.C.Worker.works g.D.Recorder.records g.K.Keeper.opens
    g.K.Keeper.closes) l.initial.opening l.fn.terms.limit l.fn.terms.seed l.opening l.number
    (stand_at l.initial.crew l.initial.keeper) (stand_at l.crew l.keeper)
