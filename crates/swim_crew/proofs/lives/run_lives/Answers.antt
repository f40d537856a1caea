use Rattle.std.proofs.Common.{rules as all_rules}
use Rattle.swim_crew.specs.Crews.{rules, stand_at}
use Rattle.swim_crew.proofs.Living.{last_lived, last_opened, one_more_lived}
use Rattle.swim_crew.proofs.lives.run_lives.Goals as goal

pub returns-in-Err : goal.returns-in-Err
returns-in-Err g c =
    last_opened (rules g.A.Worker.works g.B.Worker.works g.C.Worker.works g.D.Recorder.records g.K.Keeper.opens
    g.K.Keeper.closes) c.args.opening c.args.terms.limit c.args.terms.seed c.loop-life.opening c.loop-life.number
    (stand_at c.args.crew c.args.keeper.now) (stand_at c.loop-life.crew c.loop-life.keeper)
    (stand_at c.live_next-past.result.1 c.live_next-past.new.keeper) c.in-Err.fault c.end_without.result
    c.loop-life.invariant (rw c.in-Err.is at c.live_next-past.ensures) c.end_without.ensures

pub returns-in-Some-end : goal.returns-in-Some-end
returns-in-Some-end g c =
    last_lived (rules g.A.Worker.works g.B.Worker.works g.C.Worker.works g.D.Recorder.records g.K.Keeper.opens
    g.K.Keeper.closes) c.args.opening c.args.terms.limit c.args.terms.seed c.loop-life.opening c.loop-life.number
    (stand_at c.args.crew c.args.keeper.now) (stand_at c.loop-life.crew c.loop-life.keeper)
    (stand_at c.live_next-past.result.1 c.live_next-past.new.keeper) c.in-Ok.past c.in-Some-end.end
    c.loop-life.invariant (rw c.in-Ok.is at c.live_next-past.ensures) (search all_rules)

pub loop-life-preserved : goal.loop-life-preserved
loop-life-preserved g c =
    one_more_lived (rules g.A.Worker.works g.B.Worker.works g.C.Worker.works g.D.Recorder.records g.K.Keeper.opens
    g.K.Keeper.closes) c.args.opening c.args.terms.limit c.args.terms.seed c.loop-life.opening c.after-opening.result
    c.loop-life.number c.saturating_add-number.result
    (stand_at c.args.crew c.args.keeper.now) (stand_at c.loop-life.crew c.loop-life.keeper)
    (stand_at c.live_next-past.result.1 c.live_next-past.new.keeper) c.in-Ok.past
    c.loop-life.invariant (rw c.in-Ok.is at c.live_next-past.ensures) (search all_rules) (search all_rules)
    (search all_rules)
