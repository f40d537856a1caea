use Rattle.std.proofs.Common.{sym, ◌∙◌, ap}
use Rattle.swim_node.proofs.Adding.{adds_moves}
use Rattle.swim_node.proofs.change_log.Beginning.add.Goals as goal

pub compare_exchange-found-requires : goal.compare_exchange-found-requires
compare_exchange-found-requires g c =
    let h = c.args.head.now.is in
    let offer = c.plain-offer.ensures in
    let pen = c.no_pen-pen.ensures in
    let book = ap (λ b. b.book) c.self.view_is ∙ c.requires.book in (
      ap (λ w. w.tracked) h,
      book ∙ sym (ap (λ w. w.book) h),
      pen.0 ∙ (book ∙ sym (ap (λ w. w.book) h)),
      offer.0,
      rw (ap (λ w. w.key) h, pen.1, offer.1, offer.3)
          (adds_moves c.self.inside.seen.log c.args.change.now c.self.inside.len (sym c.self.invariant)),
    )
