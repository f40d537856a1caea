use Rattle.std.proofs.Common.{arith}
use Rattle.std.proofs.lemmas.List.{length-take}
use Rattle.swim_text.specs.Cutting.{part_of_front}
use Rattle.swim_text.proofs.lines.part_within.Goals as goal

pub returns-clause-part : goal.returns-clause-part
returns-clause-part c =
    part_of_front c.args.bytes.now c.first_part.result.0.now c.first_part.result.1 c.min-most.result
    (λ any. omega (arith, any, c.min-most.ensures)) c.first_part.ensures

pub returns-clause-within : goal.returns-clause-within
returns-clause-within c =
    omega (arith, c.first_part.ensures.fits, c.min-most.ensures, length-take c.min-most.result c.args.bytes.now)
