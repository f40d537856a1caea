use Rattle.std.proofs.Common.{arith}
use Rattle.swim_text.specs.Cutting.{ends}
use Rattle.swim_text.proofs.lines.read_byte.Goals as goal

pub returns-in-Some-End-clause-steps : goal.returns-in-Some-End-clause-steps
returns-in-Some-End-clause-steps g c = λ old taking.
    let ended = rw c.in-Some-End.field-0-is at c.in-Some-End.ensures.bytes in
    rw c.at_end.ensures (ends old (g.R.Source.left c.args.reader.now) (g.R.Source.left c.next_byte.new.reader)
    c.args.line.now.items g.row.LIMIT c.args.start c.args.budget.now c.args.is_long.now taking ended.0 ended.1)

pub returns-in-Some-One-clause-spends : goal.returns-in-Some-One-clause-spends
returns-in-Some-One-clause-spends g c =
    λ none. c.take_part.ensures.spends none (c.first_part-is_ended.ensures.some (omega arith))
