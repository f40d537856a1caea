use Rattle.std.proofs.Common.{rules, ◌<◌, ◌^◌}
use Rattle.swim_watch.proofs.ReadBack.{life_back}
use Rattle.swim_watch.proofs.laws.a_life_is_said.Goals as goal

pub returns : goal.returns
returns c = let small : c.args.number < 2 ^ 64 = search rules in life_back c.args.number small
