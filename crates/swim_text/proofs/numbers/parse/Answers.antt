use Rattle.std.proofs.Common.{sym, ◌∙◌, arith}
use Rattle.std.proofs.lemmas.Bool.{both_ways}
use Rattle.swim_text.specs.Numbers.{number_none}
use Rattle.swim_text.proofs.Decimals.{plain_decimal, not_read, not_written, is_number}
use Rattle.swim_text.proofs.numbers.parse.Goals as goal

pub returns-then-not-is_plain : goal.returns-then-not-is_plain
returns-then-not-is_plain c =
    sym (number_none c.args.limit c.args.text.now
    (λ n within is. both_ways _ c.if-not-is_plain.true (c.is_plain.ensures.1 (rw is (plain_decimal n (omega arith))))))

pub returns-in_err-number : goal.returns-in_err-number
returns-in_err-number c =
    c.from_residual.ensures ∙
    sym (not_read c.args.limit c.args.text.now c.parsed.result (omega arith) c.parsed.ensures.only
    c.in_err-number.was)

pub returns-then-number-limit : goal.returns-then-number-limit
returns-then-number-limit c =
    sym (not_written c.args.limit c.args.text.now c.parsed.result c.in_ok-number.number (omega arith)
    c.parsed.ensures.only c.in_ok-number.was (λ within is. omega arith))

pub returns : goal.returns
returns c =
    let written = c.in_ok-number.ensures.found (c.is_plain.ensures.0 c.if-not-is_plain.false) in
    sym (is_number c.args.limit c.args.text.now c.in_ok-number.number (omega arith) c.if-number-limit.false written)
