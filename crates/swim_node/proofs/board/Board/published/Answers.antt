use Rattle.std.proofs.Common.{◌≡◌, ◌≤◌, ◌++◌, ◌∷◌, [], length, drop, fold, refl, sym, ap, subst, ◌∙◌}
use Rattle.swim_history.specs.Changes.{table_after}
use Rattle.swim_node.specs.declared.shown.Update.{Update}
use Rattle.swim_node.specs.Shown.{Showing, showing, shown_after, IsOfNode}
use Rattle.swim_node.proofs.Publishing.{published, update_of, of_ok}
use Rattle.swim_node.proofs.board.Board.published.Goals as goal

pub publish_as-writer-requires : goal.publish_as-writer-requires
publish_as-writer-requires g c next is views holds at =
    let o = g.N.Naming.opening in
    let book = g.N.Naming.log in
    let log = c.self.inside.news in
    let change = c.args.change.now in
    let shown : c.append.new.writer.desk.shown.value ≡ showing o book log =
    ap (λ d. d.shown.value) c.append.ensures.desk ∙ c.self.invariant.0 in
    let updates : drop c.append.new.writer.behind c.append.new.writer.log.items ≡ update_of book log change ∷ [] =
    c.append.ensures.pending ∙ rw (c.self.invariant.1, c.extended-longer.ensures) refl in
    let fits : length (table_after o (log ++ change ∷ [])) ≤ 128 = rw c.self.view_is c.requires.fits in
    let told : next ≡ showing o book (log ++ change ∷ []) =
    published o book log change _ next _ shown updates fits is in
    (tt, subst (λ (s : Showing). IsOfNode o book s) (sym told) (refl, refl), tt)

pub invariant_of-board : goal.invariant_of-board
invariant_of-board g c =
    let o = g.N.Naming.opening in
    let book = g.N.Naming.log in
    let log = c.self.inside.news in
    let change = c.args.change.now in
    let before = c.append.new.writer in
    let after = c.publish_as-writer.result.0 in
    let shown : before.desk.shown.value ≡ showing o book log = ap (λ d. d.shown.value) c.append.ensures.desk ∙
    c.self.invariant.0 in
    let updates : drop before.behind before.log.items ≡ update_of book log change ∷ [] =
    c.append.ensures.pending ∙ rw (c.self.invariant.1, c.extended-longer.ensures) refl in
    let fits : length (table_after o (log ++ change ∷ [])) ≤ 128 = rw c.self.view_is c.requires.fits in
    let news : c.new-news.result ≡ log ++ change ∷ [] = c.new-news.ensures ∙
    ap (λ b. b.changes) c.extended-longer.ensures in
    let values = of_ok
    ((after.desk.shown.value ≡
    fold (λ (s : Showing) (update : Update). shown_after s update.change update.shown) before.desk.shown.value
    (drop before.behind before.log.items)) × (drop after.behind after.log.items ≡ []))
    ((after.desk.shown.value ≡ before.desk.shown.value) ×
    (drop after.behind after.log.items ≡ drop before.behind before.log.items))
    c.publish_as-writer.result.1 (c.publish_as-writer.ensures.succeeds tt) c.publish_as-writer.ensures.values in
    (published o book log change _ _ _ shown updates fits values.0 ∙ ap (showing o book) (sym news), values.1)
