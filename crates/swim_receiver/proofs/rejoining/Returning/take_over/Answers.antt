use Rattle.std.proofs.Common.{refl, subst}
use Rattle.swim_receiver.specs.declared.rejoining.Returning.{Returning}
use Rattle.swim_receiver.proofs.Learning.{TellsOf, tidings_learnt}
use Rattle.swim_receiver.proofs.rejoining.Returning.take_over.Goals as goal

pub returns-then-is_open-clause-learns : goal.returns-then-is_open-clause-learns
returns-then-is_open-clause-learns g c = λ o seen.
    let old : Returning = c.args.self.now in
    let tidings = c.take-tidings.result in
    let new : Returning =
    record old { inbox = c.take-tidings.new.self; period = tidings.period; rejoiner = c.knocked.new.rejoiner } in
    tidings_learnt o seen old new tidings
    (subst (TellsOf old.rejoiner new.rejoiner) c.as_slice.ensures.value c.knocked.ensures.follows) refl refl refl
    c.take-tidings.ensures refl
