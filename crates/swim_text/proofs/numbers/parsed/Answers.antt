use Rattle.std.proofs.Common.{refl, sym, ◌∙◌}
use Rattle.std.proofs.lemmas.Fmt.{parse-decimal}
use Rattle.swim_text.proofs.Decimals.{err_is, ok_is, decimal_utf8, plain_is_written}
use Rattle.swim_text.proofs.numbers.parsed.Goals as goal

pub returns-in_err-ok-clause-only : goal.returns-in_err-ok-clause-only
returns-in_err-ok-clause-only c = λ n small is.
    let failed = err_is c.from_utf8.result (sym c.ok.ensures.value ∙ c.in_err-ok.was) in
    let none = rw failed.1 at c.from_utf8.ensures.cases in
    absurd (none.0 (rw is (decimal_utf8 n small)))

pub returns-clause-only : goal.returns-clause-only
returns-clause-only c = λ n small is.
    let text = ok_is c.from_utf8.result c.in_ok-ok.field-0 (sym c.ok.ensures.value ∙ c.in_ok-ok.was) in
    let same = rw text at c.from_utf8.ensures.cases in
    let read = parse-decimal 64 n c.in_ok-ok.field-0.now c.parse.result small small (same.0 ∙ is)
    c.parse.ensures.value.0 in
    rw (c.ok-2.ensures.value, read) refl

pub returns-clause-found : goal.returns-clause-found
returns-clause-found c =
    let text = ok_is c.from_utf8.result c.in_ok-ok.field-0 (sym c.ok.ensures.value ∙ c.in_ok-ok.was) in
    let same = rw text at c.from_utf8.ensures.cases in
    rw (c.ok-2.ensures.value, ← same.0) (plain_is_written c.in_ok-ok.field-0.now c.parse.result c.parse.ensures.value.0)
