use Rattle.swim_chart.proofs.frame.put_root.Goals as goal

pub returns-clause-bytes : goal.returns-clause-bytes
returns-clause-bytes g c =
    rw (
      c.width-wide.ensures,
      c.height-high.ensures,
    ) at c.put_pieces.ensures.bytes
