use Rattle.swim_commands.proofs.ControlLines.{spaced_more, taken_within}
use Rattle.swim_commands.proofs.control_lines.spaced.Goals as goal

pub add-requires-clause-line : goal.add-requires-clause-line
add-requires-clause-line c = taken_within 130 _ c.loop-word.text.items c.loop-word.invariant

pub add-requires-in-loop-word-clause-line : goal.add-requires-in-loop-word-clause-line
add-requires-in-loop-word-clause-line c = taken_within 130 _ _ c.add.ensures

pub loop-word-preserved : goal.loop-word-preserved
loop-word-preserved c =
    spaced_more c.args.words.now c.loop-word.word-index _ c.as_bytes.result.now c.loop-word.text.items
    c.add.new.line.items
    c.add-in-loop-word.new.line.items c.loop-word.invariant c.loop-word-test.true c.as_bytes.ensures.value c.add.ensures
    c.add-in-loop-word.ensures
