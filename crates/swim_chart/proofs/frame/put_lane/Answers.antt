use Rattle.swim_chart.proofs.frame.put_lane.Goals as goal

pub returns-clause-bytes : goal.returns-clause-bytes
returns-clause-bytes g c =
    rw (
      c.spot-y.ensures,
      c.from.ensures,
      c.right.ensures,
      c.from-2.ensures,
      c.get.ensures.value,
      c.place_name.ensures,
    ) at c.put_pieces.ensures.bytes
