use Rattle.std.proofs.Common.{append-nil}
use Rattle.swim_script.proofs.answers.put_started.Goals as goal

pub returns-in-None-clause-bytes : goal.returns-in-None-clause-bytes
returns-in-None-clause-bytes g c = rw c.in-None.is (rw c.id_piece-judged.ensures at c.put_pieces.ensures.bytes)

pub returns-in-Some-clause-bytes : goal.returns-in-Some-clause-bytes
returns-in-Some-clause-bytes g c =
    rw c.in-Some.is (rw (c.id_piece-judged.ensures, c.from.ensures, c.get.ensures.value, append-nil) at
    c.put_pieces-in-Some.ensures.bytes)
