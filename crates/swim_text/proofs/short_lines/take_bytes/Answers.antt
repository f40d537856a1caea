use Rattle.std.proofs.Common.{◌+◌, length, arith}
use Rattle.swim_text.specs.ShortLines.{part_taken}
use Rattle.swim_text.proofs.short_lines.take_bytes.Goals as goal

pub returns-clause-advances : goal.returns-clause-advances
returns-clause-advances g c =
    let part = c.first_part-is_ended.result.0.now in
    let most = c.min-most.result in
    rw c.met_at.ensures
    (part_taken c.args.line.now.items c.keep-is_kept.new.line.items part c.args.bytes.now c.first_part-is_ended.result.1
    c.keep-is_kept.result g.row.LIMIT c.args.reads.now (length part + c.from.result) most
    c.first_part-is_ended.ensures (omega (arith, c.from.ensures)) (omega (arith, c.min-most.ensures))
    (omega (arith, c.min-most.ensures, c.min.ensures, c.saturating_add-room.ensures, c.len.ensures.value))
    c.keep-is_kept.ensures)
