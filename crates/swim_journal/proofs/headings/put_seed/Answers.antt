use Rattle.swim_journal.proofs.headings.put_seed.Goals as goal

pub returns-clause-bytes : goal.returns-clause-bytes
returns-clause-bytes g c = rw (← c.seed_digits-digits.ensures) c.put_pieces.ensures.bytes
