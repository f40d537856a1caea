use Rattle.std.proofs.Common.{rules, ◌<◌, ◌^◌}
use Rattle.swim_watch.proofs.ReadBack.{up_back}
use Rattle.swim_watch.proofs.laws.a_member_is_said.Goals as goal

pub returns : goal.returns
returns c =
    let some : 0 < c.args.id = search rules in
    let small : c.args.id < 2 ^ 32 = search rules in
    up_back c.args.id c.args.peer.now some small c.write-text.ensures.address
