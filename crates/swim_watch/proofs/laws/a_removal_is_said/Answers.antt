use Rattle.std.proofs.Common.{rules, ◌<◌, ◌^◌}
use Rattle.swim_watch.proofs.ReadBack.{gone_back}
use Rattle.swim_watch.proofs.laws.a_removal_is_said.Goals as goal

pub returns : goal.returns
returns c =
    let some : 0 < c.args.id = search rules in
    let small : c.args.id < 2 ^ 32 = search rules in gone_back c.args.id some small
