use Rattle.swim_node.proofs.seats.Seat.compare.Goals as goal

pub compare_at-requires-clause-placed : goal.compare_at-requires-clause-placed
compare_at-requires-clause-placed g c = rw (c.loop-index.invariant.1) c.requires
