use Rattle.std.proofs.Common.{◌∙◌, arith}
use Rattle.swim_text.proofs.Decimals.{is_number}
use Rattle.swim_text.proofs.numbers.read_number.Goals as goal

pub returns-clause-only : goal.returns-clause-only
returns-clause-only c = λ n within is. c.parse.ensures ∙
    is_number c.args.limit c.args.text.now n (omega arith) within is
