use Rattle.swim_node.proofs.following.compare_each.Goals as goal

pub compare_at-requires-clause-placed : goal.compare_at-requires-clause-placed
compare_at-requires-clause-placed g c = rw (c.loop-index.invariant.1) c.requires.notes

pub note_at-note-requires-clause-placed : goal.note_at-note-requires-clause-placed
note_at-note-requires-clause-placed g c = rw (c.loop-index.invariant.0) c.requires.own
