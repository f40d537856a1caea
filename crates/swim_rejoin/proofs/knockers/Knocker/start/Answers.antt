use Rattle.std.proofs.Common.{◌∷◌, Some, ap, sym, subst, ◌∙◌}
use Rattle.std.specs.Option.{option_map}
use Rattle.swim_rejoin.specs.Knockers.{Follows, Kept, knock_at}
use Rattle.swim_rejoin.specs.Knocking.{at_start}
use Rattle.swim_rejoin.specs.declared.knockers.KnockPing.{KnockPing}
use Rattle.swim_rejoin.proofs.Starting.{Follows-started, whom-is}
use Rattle.swim_rejoin.proofs.knockers.Knocker.start.Goals as goal

pub returns-in_err-row-clause-follows : goal.returns-in_err-row-clause-follows
returns-in_err-row-clause-follows c = λ h f.
    let P : Kept → Type 0 = λ k. Follows k (at_start c.args.rejoin c.args.rows.now ∷ h) in
    subst P (sym c.turn.ensures.after) (Follows-started c.args.self.now h c.args.rejoin c.args.rows.now f)

pub returns-clause-knock : goal.returns-clause-knock
returns-clause-knock c = λ h f.
    let k = c.args.self.now in
    ap (λ (knock : KnockPing). Some knock)
    (c.knock_at.ensures ∙
    ap (λ (k : Kept). knock_at k.me k.version c.args.number c.in_ok-row.row) c.turn.ensures.after)
    ∙ ap (option_map (knock_at k.me k.version c.args.number))
    (sym c.in_ok-row.was ∙ c.turn.ensures.whom ∙ whom-is k h c.args.rejoin c.args.rows.now f)

pub returns-clause-follows : goal.returns-clause-follows
returns-clause-follows c = λ h f.
    let P : Kept → Type 0 = λ k. Follows k (at_start c.args.rejoin c.args.rows.now ∷ h) in
    subst P (sym c.turn.ensures.after) (Follows-started c.args.self.now h c.args.rejoin c.args.rows.now f)
