use Rattle.std.proofs.Common.{◌+◌, ◌-◌, length, arith}
use Rattle.swim_text.specs.Cutting.{oversteps, comes_to_feed, part_length}
use Rattle.swim_text.proofs.lines.take_part.Goals as goal

pub returns-then-count-budget-clause-takes : goal.returns-then-count-budget-clause-takes
returns-then-count-budget-clause-takes g c =
    let line = c.args.line.now.items in
    oversteps line line c.args.part.now c.args.is_ended g.row.LIMIT c.args.budget.now c.args.budget.now
    c.args.is_long.now c.args.is_long.now c.requires.unfed
    (omega (arith, part_length c.args.part.now c.args.is_ended, c.from.ensures, c.requires.within))

pub returns-then-is_ended-clause-takes : goal.returns-then-is_ended-clause-takes
returns-then-is_ended-clause-takes g c =
    let part = c.args.part.now in
    let after = c.args.budget.now - (length part + 1) in
    let one = rw c.if-is_ended.true at c.from.ensures in
    rw (c.if-is_ended.true, c.at_end.ensures, one)
    (comes_to_feed c.args.line.now.items c.keep.new.line.items part g.row.LIMIT c.args.budget.now after
    c.args.is_long.now c.keep.result c.requires.unfed (omega (arith, one)) c.keep.ensures)
