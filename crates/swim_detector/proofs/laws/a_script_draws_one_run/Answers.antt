use Rattle.std.proofs.Common.{◌≡◌}
use Rattle.swim_targets.specs.Script.{FollowsOrder, FollowsPlace}
use Rattle.swim_history.specs.Laws.Drawn.{drawn_once}
use Rattle.swim_history.specs.Laws.DrawnRuns.{drawn_run}
use Rattle.swim_detector.specs.OneRun.{script_answers_once, script_answers_always}
use Rattle.swim_detector.proofs.laws.a_script_draws_one_run.Goals as goal

pub returns-clause-once : goal.returns-clause-once
returns-clause-once c o = drawn_once FollowsOrder FollowsPlace (λ one other. one ≡ other) o script_answers_once

pub returns-clause-always : goal.returns-clause-always
returns-clause-always c = drawn_run FollowsOrder FollowsPlace script_answers_always
