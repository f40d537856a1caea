use Rattle.swim_chart.proofs.arrows.put_opening.Goals as goal

pub returns-clause-bytes : goal.returns-clause-bytes
returns-clause-bytes g c =
    rw (
      c.kind_name-kind.ensures,
      c.fate_name.ensures,
      c.from.ensures,
      c.get.ensures.value,
      c.from-2.ensures,
      c.get-2.ensures.value,
    ) at c.put_pieces.ensures.bytes
