use Rattle.swim_journal.proofs.lines.put_call.Goals as goal

pub returns-in-Hear-clause-bytes : goal.returns-in-Hear-clause-bytes
returns-in-Hear-clause-bytes g c = rw c.in-Hear.is c.put_heard.ensures.bytes
