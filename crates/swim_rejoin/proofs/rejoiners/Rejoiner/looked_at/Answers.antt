use Rattle.std.proofs.Common.{List, ap, map, sym, subst, ◌∙◌}
use Rattle.swim_rejoin.specs.Knowing.{known_once_looked}
use Rattle.swim_rejoin.specs.Rejoiners.{Follows, Kept}
use Rattle.swim_rejoin.specs.declared.known.Known.{Known}
use Rattle.swim_rejoin.proofs.Looking.{Follows-looked}
use Rattle.swim_rejoin.proofs.rejoiners.Rejoiner.looked_at.Goals as goal

pub returns-clause-follows : goal.returns-clause-follows
returns-clause-follows c = λ h f.
    let inside = c.self.inside in
    let rows = c.args.rows.now in
    let before : Kept = record
    { rejoin = inside.rejoin; me = inside.me; knowns = inside.knowns.items; marks = inside.marks.marks } in
    let P : Kept → Type 0 = λ k. Follows k h in
    Follows-looked before h rows c.of-self-inside.result.marks c.knowns_of-self-inside.result.items
    c.of-self-inside.ensures
    (c.knowns_of-self-inside.ensures ∙
    ap (λ (knowns : List Known). map (known_once_looked knowns) rows) c.as_slice.ensures.value)
    (subst P (sym c.self.view_is) f)
