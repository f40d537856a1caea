use Rattle.std.proofs.Common.{◌≡◌, subst, ◌∙◌}
use Rattle.std.specs.Prelude.{IfOk}
use Rattle.swim_verdicts.specs.VerdictPages.{rest_text}
use Rattle.swim_verdicts.proofs.verdict_pages.rest_of.Goals as goal

pub returns : goal.returns
returns c =
    subst (λ m. IfOk c.text_of.result
    (λ rest. rest.text ≡ rest_text m c.args.evidence.now.number c.args.word.now c.args.words.now
    c.args.table.now c.args.picture.now))
    (c.from.ensures ∙ c.get.ensures.value) c.text_of.ensures
