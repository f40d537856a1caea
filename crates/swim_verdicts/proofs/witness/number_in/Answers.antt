use Rattle.std.proofs.Common.{◌≡◌, min, ◌-◌, ◌^◌, take, get_or, ap, ◌∙◌, arith}
use Rattle.std.proofs.lemmas.List.{take_more, take_all}
use Rattle.swim_verdicts.proofs.Digits.{read_on, read_on-append, read_on-decimal}
use Rattle.swim_verdicts.proofs.witness.number_in.Goals as goal

pub loop-digit-preserved : goal.loop-digit-preserved
loop-digit-preserved c =
    let digits = c.args.digits.now in
    let i = c.loop-digit.digit-index in
    let more = read_on-append 0 (take i digits) (get_or digits i 0) in
    rw (take_more digits i 0 c.loop-digit-test.true, more) (omega arith)

pub returns : goal.returns
returns c n small is =
    let digits = c.args.digits.now in
    let all : take c.loop-digit.digit-index digits ≡ digits =
    take_all c.loop-digit.digit-index digits c.loop-digit-test.false in
    let told : read_on 0 digits ≡ n = ap (read_on 0) is ∙ read_on-decimal n small in
    c.loop-digit.invariant ∙ (ap (λ taken. min (read_on 0 taken) (2 ^ 64 - 1)) all ∙ omega arith)
