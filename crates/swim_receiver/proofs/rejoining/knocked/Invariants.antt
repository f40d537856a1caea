use Rattle.std.proofs.Common.{◌≡◌, take}
use Rattle.swim_receiver.proofs.Learning.{TellsOf}
use Rattle.swim_receiver.proofs.rejoining.knocked.Given as goal

abbrev pub invariant-loop-note : goal.invariant-loop-note
invariant-loop-note l =
    (l.rejoiner.me ≡ l.initial.rejoiner.me) × TellsOf l.initial.rejoiner l.rejoiner (take l.note-index l.notes)
