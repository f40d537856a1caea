use Rattle.swim_chart.proofs.frame.put_titled.Goals as goal

pub returns-clause-bytes : goal.returns-clause-bytes
returns-clause-bytes g c =
    rw (
      c.from-initiator.ensures,
      c.get.ensures.value,
      c.from-target.ensures,
      c.get-2.ensures.value,
      c.as_bytes.ensures.value,
    ) at c.put_pieces.ensures.bytes
