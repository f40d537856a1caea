use Rattle.swim_targets.specs.Draws.{DrawsOrder, DrawsPlace, HaveSameWords}
use Rattle.swim_history.specs.Laws.Drawn.{drawn_once}
use Rattle.swim_history.specs.Laws.DrawnRuns.{drawn_run}
use Rattle.swim_detector.specs.OneRun.{seed_answers_once, seed_answers_always}
use Rattle.swim_detector.proofs.laws.a_seed_draws_one_run.Goals as goal

pub returns-clause-once : goal.returns-clause-once
returns-clause-once c o = drawn_once DrawsOrder DrawsPlace HaveSameWords o seed_answers_once

pub returns-clause-always : goal.returns-clause-always
returns-clause-always c = drawn_run DrawsOrder DrawsPlace seed_answers_always
