use Rattle.swim_chart.proofs.arrows.put_stroke.Goals as goal

pub returns-in-Lost-clause-bytes : goal.returns-in-Lost-clause-bytes
returns-in-Lost-clause-bytes g c =
    rw (c.in-Lost.is) (rw (c.first_half.ensures, c.middle.ensures) at c.put_marked-in-Lost.ensures.bytes)

pub returns-in-Contradicted-clause-bytes : goal.returns-in-Contradicted-clause-bytes
returns-in-Contradicted-clause-bytes g c =
    rw (c.in-Contradicted.is)
    (rw (c.second_half.ensures, c.middle-in-Contradicted.ensures) at c.put_marked-in-Contradicted.ensures.bytes)

pub returns-in-Untold-clause-bytes : goal.returns-in-Untold-clause-bytes
returns-in-Untold-clause-bytes g c = rw (c.in-Untold.is) c.put_path-in-Untold.ensures.bytes
