use Rattle.std.proofs.Common.{length}
use Rattle.swim_chart.proofs.notes.+put_notes.Given as goal

abbrev pub decreases-put_notes : goal.decreases-put_notes
decreases-put_notes g l = length l.arrows.now
