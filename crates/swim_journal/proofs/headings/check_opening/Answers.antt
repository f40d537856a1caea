use Rattle.std.proofs.Common.{rules, ◌≡◌, ◌<◌, ◌^◌, length}
use Rattle.hex.specs.Hex.{IsBytes}
use Rattle.swim_journal.specs.Headings.{AreTellable}
use Rattle.swim_journal.specs.Lines.{IsId}
use Rattle.swim_journal.proofs.headings.check_opening.Goals as goal

pub returns : goal.returns
returns c =
    let me : IsId c.args.opening.now.me = search rules in
    let limit : c.args.limit < 2 ^ 32 = search rules in
    let life : c.args.life < 2 ^ 64 = search rules in
    let long : length c.args.seed.now ≡ 32 = search rules in
    let bytes : IsBytes c.args.seed.now = search rules in
    let rows : AreTellable c.args.opening.now.rows = rw (← c.rows.ensures.value) c.check_rows.ensures in
    record { setting = c.rows.ensures.limits; me = me; rows = rows; numbers = (limit, life); key = (long, bytes) }
