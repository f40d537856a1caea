use Rattle.swim_metrics.proofs.samples.put_odd.Goals as goal

pub returns-clause-bytes : goal.returns-clause-bytes
returns-clause-bytes g c = c.put_each.ensures.bytes
