use Rattle.std.proofs.Common.{◌∙◌, refl, subst, take_all}
use Rattle.swim_receiver.proofs.Learning.{TellsOf, none_told, one_more_told}
use Rattle.swim_receiver.proofs.rejoining.knocked.Goals as goal

pub loop-note-init : goal.loop-note-init
loop-note-init c = (refl, none_told c.args.rejoiner.now)

pub loop-note-preserved : goal.loop-note-preserved
loop-note-preserved c = (
  c.knocked.ensures.me ∙ c.loop-note.invariant.0,
  one_more_told c.args.rejoiner.now c.loop-note.rejoiner c.knocked.new.self c.args.notes.now c.loop-note.note-index
      c.note-item.result c.loop-note-test.true c.note-item.is c.loop-note.invariant.1 c.knocked.ensures.follows,
)

pub returns-clause-follows : goal.returns-clause-follows
returns-clause-follows c =
    subst (TellsOf c.args.rejoiner.now c.loop-note.rejoiner)
    (take_all c.loop-note.note-index c.args.notes.now c.loop-note-test.false) c.loop-note.invariant.1
