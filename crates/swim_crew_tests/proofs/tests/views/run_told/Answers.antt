use Rattle.std.proofs.Common.{subst}
use Rattle.swim_crew.specs.Crews.{Stand, stand_at}
use Rattle.swim_crew.proofs.Seen.{all_moved}
use Rattle.swim_crew_tests.specs.Lines.{TellsLine}
use Rattle.swim_crew_tests.proofs.tests.views.run_told.Goals as goal

pub returns : goal.returns
returns g c = (
  c.run_lives-end.ensures.lives,
  all_moved _ (λ s. g.W.Sink.written s.keeper.sink) TellsLine (λ from number old new is. is.0)
      (λ from limit seed number old past new is.
      subst (λ x. TellsLine number past x (g.W.Sink.written new.keeper.sink)) is.opened is.closed) _ _ _ _ _ _
      c.run_lives-end.ensures,
)
