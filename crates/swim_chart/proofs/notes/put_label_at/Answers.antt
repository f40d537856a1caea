use Rattle.swim_chart.proofs.notes.put_label_at.Goals as goal

pub returns-clause-bytes : goal.returns-clause-bytes
returns-clause-bytes g c = rw (c.label_fall.ensures, c.kind_name.ensures) at c.put_pieces.ensures.bytes
