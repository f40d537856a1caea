use Rattle.std.proofs.Common.{◌≡◌, sym, ap, ◌∙◌, arith}
use Rattle.swim_history.specs.Setting.{Setting}
use Rattle.swim_evidence.proofs.Unjudged.{periods_by_number, unjudged}
use Rattle.swim_evidence.proofs.walking.nothing_found.Goals as goal

pub returns-clause-findings : goal.returns-clause-findings
returns-clause-findings c =
    c.new.ensures.items ∙ sym (unjudged c.args.journal.now.opening c.args.journal.now.past c.requires).1

pub returns-clause-periods : goal.returns-clause-periods
returns-clause-periods c =
    let o = c.args.journal.now.opening in
    let last : c.last.result ≡ o.last = c.last.ensures.value ∙ ap (λ (s : Setting). s.last) c.opening.ensures.value in
    let began = periods_by_number o c.args.journal.now.past c.last_number.ensures.limits c.last_number.ensures.run in
    omega (arith, last, began, c.last_number.ensures.value)
