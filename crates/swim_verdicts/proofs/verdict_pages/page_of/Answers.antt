use Rattle.std.proofs.Common.{◌≡◌, subst, ◌∙◌}
use Rattle.std.specs.Prelude.{IfOk}
use Rattle.swim_verdicts.specs.VerdictPages.{page_text}
use Rattle.swim_verdicts.proofs.verdict_pages.page_of.Goals as goal

pub returns : goal.returns
returns c =
    subst (λ m. IfOk c.text_of.result
    (λ page. page.text ≡ page_text m c.args.number c.args.path.now c.args.standing.now c.args.rest.now))
    (c.from-member.ensures ∙ c.get.ensures.value) c.text_of.ensures
