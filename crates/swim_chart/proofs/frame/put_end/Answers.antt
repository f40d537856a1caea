use Rattle.swim_chart.proofs.frame.put_end.Goals as goal

pub returns-clause-bytes : goal.returns-clause-bytes
returns-clause-bytes g c =
    rw (
      c.period_end-x.ensures,
      c.bottom.ensures,
      c.from.ensures,
    ) at c.put_pieces.ensures.bytes
