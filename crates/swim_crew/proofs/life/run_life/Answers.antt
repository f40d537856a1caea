use Rattle.std.proofs.Common.{◌∙◌}
use Rattle.swim_crew.proofs.Uncalled.{uncalled}
use Rattle.swim_crew.proofs.life.run_life.Goals as goal

pub returns-clause-first : goal.returns-clause-first
returns-clause-first g c =
    let so = c.closed.ensures.first in
    record {
      seen = c.work-over.result.first.viewer;
      begins = c.closed.ensures.seen.0;
      has_worked = rw (so.0, so.1, so.2) c.work-over.ensures.first.has_worked;
    }

pub returns-clause-second : goal.returns-clause-second
returns-clause-second g c =
    let so = c.closed.ensures.second in
    record {
      seen = c.work-over.result.second.viewer;
      begins = c.closed.ensures.seen.1.0;
      has_worked = rw (so.0, so.1, so.2) c.work-over.ensures.second.has_worked;
    }

pub returns-clause-third : goal.returns-clause-third
returns-clause-third g c =
    let so = c.closed.ensures.third in
    record {
      seen = c.work-over.result.third.viewer;
      begins = c.closed.ensures.seen.1.1.0;
      has_worked = rw (so.0, so.1, so.2) c.work-over.ensures.third.has_worked;
    }

pub returns-clause-fourth : goal.returns-clause-fourth
returns-clause-fourth g c = c.closed.ensures.fourth ∙ uncalled _ 3 c.work-over.ensures.fourth

pub returns-clause-recorder : goal.returns-clause-recorder
returns-clause-recorder g c = c.closed.ensures.recorder _ c.work-over.ensures.read
