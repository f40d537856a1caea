use Rattle.std.proofs.Common.{refl, rules}
use Rattle.swim_receiver.specs.declared.rejoining.Returning.{Returning}
use Rattle.swim_receiver.proofs.Learning.{join_told}
use Rattle.swim_receiver.proofs.rejoining.Returning.joined.Goals as goal

pub returns-clause-joined : goal.returns-clause-joined
returns-clause-joined c =
    let old : Returning = c.args.self.now in
    let new : Returning = record old { rejoiner = c.joined.new.self; rejoins = c.saturating_add-self.result } in
    join_told old new c.args.id c.joined.ensures.follows refl (search rules) refl refl refl
