use Rattle.std.proofs.Common.{◌≡◌, [], Option, None, Some, MatchOption, IfSome}
use Rattle.swim_control.specs.declared.connections.Stand.{Stand}
use Rattle.swim_control.specs.Connections.{TakesTurn}
use Rattle.swim_control.specs.SideBySide.{HearsOn}
use Rattle.swim_control.proofs.Heard.{hears_on}
use Rattle.swim_control.proofs.queues.Connections.turn.Goals as goal

where_some : (P : Type 0) (Q H : Stand → Type 0) (r : Option Stand) → ((stand : Stand) → Q stand → H stand) →
    MatchOption r P Q → IfSome r H
where_some P Q H None each holds = tt
where_some P Q H (Some stand) each holds = each stand holds

pub returns-clause-heard : goal.returns-clause-heard
returns-clause-heard g c =
    let old = c.args.self.now in
    let new = c.take_turn.new.self in
    let desk = c.args.desk.now in
    let after = c.take_turn.new.desk in
    where_some ((old.talks ≡ []) × (new ≡ old) × (after ≡ desk))
    (λ (stand : Stand). TakesTurn g.D.Desk.asks c.args.now stand old new desk after)
    (λ (stand : Stand). HearsOn g.D.Desk.asks stand old new desk after) c.take_turn.result
    (λ stand turn. hears_on g.D.Desk.asks c.args.now stand old new desk after turn.first turn.then_so turn.others
    turn.was turn.turn turn.are c.take_turn.ensures.count)
    c.take_turn.ensures.turn
