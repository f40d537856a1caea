use Rattle.swim_config.proofs.expected.put_range.Goals as goal

pub returns-clause-bytes : goal.returns-clause-bytes
returns-clause-bytes g c = c.put_pieces.ensures.bytes
