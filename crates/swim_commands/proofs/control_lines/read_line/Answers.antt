use Rattle.std.proofs.Common.{arith}
use Rattle.swim_commands.proofs.ControlLines.{ends_by_end, ends_by_feed, line_fits, line_within}
use Rattle.swim_commands.proofs.control_lines.read_line.Goals as goal

pub add-requires-clause-line : goal.add-requires-clause-line
add-requires-clause-line g c =
    line_within (g.S.Source.left c.args.reader.now) (g.S.Source.left c.loop-turn.reader) c.loop-turn.line.items
    c.loop-turn.is_begun
    c.loop-turn.invariant

pub push-requires : goal.push-requires
push-requires g c = (
  omega arith,
  line_fits (g.S.Source.left c.args.reader.now) (g.S.Source.left c.loop-turn.reader) c.loop-turn.line.items
      c.loop-turn.is_begun
      c.loop-turn.invariant,
)

pub returns-in-One-eq10 : goal.returns-in-One-eq10
returns-in-One-eq10 g c =
    ends_by_feed (g.S.Source.left c.args.reader.now) (g.S.Source.left c.loop-turn.reader)
    (g.S.Source.left c.byte.new.self)
    c.loop-turn.line.items c.push.new.self.items c.in-One-eq10.field-0 c.loop-turn.is_begun
    c.loop-turn.invariant c.in-One-eq10.ensures.bytes c.in-One-eq10.field-0-test c.push.ensures.items

pub returns-in-End : goal.returns-in-End
returns-in-End g c =
    ends_by_end (g.S.Source.left c.args.reader.now) (g.S.Source.left c.loop-turn.reader)
    (g.S.Source.left c.byte.new.self)
    c.loop-turn.line.items c.loop-turn.is_begun c.at_end.result c.loop-turn.invariant c.in-End.ensures.bytes.0
    c.in-End.ensures.bytes.1
    c.at_end.ensures
