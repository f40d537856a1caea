use Rattle.std.proofs.Common.{arith, length, ap}
use Rattle.swim_text.proofs.lines.read_ready.Goals as goal

pub returns-clause-spends : goal.returns-clause-spends
returns-clause-spends g c =
    λ none. c.take_part-met.ensures.spends none
    (c.part_within-is_ended.ensures.part.some (omega (arith, ap length c.ready.ensures.bytes, c.requires)))
