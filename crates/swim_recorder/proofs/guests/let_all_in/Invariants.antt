use Rattle.swim_recorder.specs.Recording.{StillTells}
use Rattle.swim_recorder.proofs.guests.let_all_in.Given as goal

abbrev pub invariant-loop-newcomer : goal.invariant-loop-newcomer
invariant-loop-newcomer g l = StillTells l.fn.watching l.initial.gallery l.gallery
