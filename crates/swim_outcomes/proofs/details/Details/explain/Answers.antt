use Rattle.std.proofs.Common.{ap}
use Rattle.swim_config.specs.Indented.{cause_indented}
use Rattle.swim_outcomes.proofs.Indented.{cause_of}
use Rattle.swim_outcomes.proofs.details.Details.explain.Goals as goal

pub take-requires : goal.take-requires
take-requires c =
    rw c.text.ensures (cause_indented c.args.fault c.put_cause.new.writer.text
    (cause_of c.args.fault c.new-page.result.text c.put_cause.new.writer.text (ap (λ p. p.text) c.new-page.ensures)
    (rw c.if-put_cause.true at c.put_cause.ensures.bytes)))
