use Rattle.std.proofs.Common.{rules, ◌<◌, ◌^◌}
use Rattle.swim_watch.proofs.ReadBack.{failed_back}
use Rattle.swim_watch.proofs.laws.a_verdict_is_said.Goals as goal

pub returns : goal.returns
returns c =
    let some : 0 < c.args.id = search rules in
    let small : c.args.id < 2 ^ 32 = search rules in
    let fits : c.args.number < 2 ^ 64 = search rules in failed_back c.args.id c.args.number some small fits
