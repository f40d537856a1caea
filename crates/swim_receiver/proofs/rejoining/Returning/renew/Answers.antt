use Rattle.std.proofs.Common.{[], ap, cond, nat_eq, refl, sym, ◌∙◌}
use Rattle.swim_receiver.specs.declared.rejoining.Returning.{Returning}
use Rattle.swim_receiver.proofs.Learning.{not_0, rule_learnt}
use Rattle.swim_receiver.proofs.rejoining.Returning.renew.Goals as goal

pub returns-then-rejoin-eq0-clause-learns : goal.returns-then-rejoin-eq0-clause-learns
returns-then-rejoin-eq0-clause-learns c = λ o seen.
    let old : Returning = c.args.self.now in
    let new : Returning =
    record old { lookup = c.rejoin-rejoin.new.self; rejoiner = c.rule.new.self; rows = c.clear.new.self } in
    rule_learnt o seen old new c.rejoin-rejoin.result c.rule.ensures.follows
    (c.clear.ensures ∙ sym (ap (λ n. cond (nat_eq n 0) [] old.rows.items) c.if-rejoin-eq0.true)) refl
    c.rejoin-rejoin.ensures refl refl

pub returns-else-rejoin-eq0-clause-learns : goal.returns-else-rejoin-eq0-clause-learns
returns-else-rejoin-eq0-clause-learns c = λ o seen.
    let old : Returning = c.args.self.now in
    let new : Returning = record old { lookup = c.rejoin-rejoin.new.self; rejoiner = c.rule.new.self } in
    rule_learnt o seen old new c.rejoin-rejoin.result c.rule.ensures.follows
    (sym (ap (λ b. cond b [] old.rows.items) (not_0 c.rejoin-rejoin.result c.if-rejoin-eq0.false))) refl
    c.rejoin-rejoin.ensures refl refl
