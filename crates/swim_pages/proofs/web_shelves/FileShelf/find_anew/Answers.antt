use Rattle.std.proofs.Common.{rules, ◌≡◌, ◌++◌, refl, subst, ◌∙◌}
use Rattle.std.specs.Prelude.{IfOk}
use Rattle.swim_verdicts.specs.Examined.{LacksVerdict, told_by}
use Rattle.swim_pages.specs.Doubts.{Doubted, doubt_text}
use Rattle.swim_pages.proofs.Doubting.{one_more_doubted}
use Rattle.swim_pages.proofs.web_shelves.FileShelf.find_anew.Goals as goal

pub returns-clause-nothing : goal.returns-clause-nothing
returns-clause-nothing g c = λ nothing.
    let p = c.play-played.result in
    let found : c.in-Ok.found.findings.items ≡ told_by p.journal p.witness.confirmations.confirmed =
    subst (λ o. IfOk o (λ f. f.findings.items ≡ told_by p.journal p.witness.confirmations.confirmed)) c.in-Ok.is
    c.play-played.ensures in
    let doubted : Doubted = record { path = c.args.place.path.bytes; objection = c.objection_to.result } in
    let said : c.doubt.new.text.text ≡ c.args.text.now.text ++ doubt_text doubted = search rules in
    one_more_doubted c.args.place.member c.args.place.number c.args.text.now.text c.doubt.new.text.text doubted
    c.requires
    (record {
      played = p;
      objection = c.objection_to.ensures;
      lacks = subst (λ l. LacksVerdict l c.args.place.member c.args.place.number) (c.as_slice.ensures.value ∙ found)
          (c.in-None.ensures.none refl);
    })
    said
