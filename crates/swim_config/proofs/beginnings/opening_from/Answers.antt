use Rattle.std.proofs.Common.{rules}
use Rattle.swim_config.proofs.LaterSettings.{parts_are_setting}
use Rattle.swim_config.proofs.beginnings.opening_from.Goals as goal

pub unwrap-requires : goal.unwrap-requires
unwrap-requires c =
    c.check-checked.ensures.accepts.1
    (parts_are_setting c.args.opening.now _ _ _ _ _ _ _ c.rows.ensures.limits c.me.ensures
    c.k.ensures.value c.rtt.ensures.value c.period.ensures.value (search rules) c.version.ensures (search rules))
