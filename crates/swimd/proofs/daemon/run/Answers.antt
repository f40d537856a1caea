use Rattle.std.proofs.Common.{rules, inr}
use Rattle.swimd.proofs.daemon.run.Goals as goal

pub returns-in-Ok-clause-runs : goal.returns-in-Ok-clause-runs
returns-in-Ok-clause-runs g c =
    inr (c.in-Ok.config, (c.read_configuration.new.text.items, c.in-Ok.ensures.read), search rules)
