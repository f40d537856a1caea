use Rattle.std.proofs.Common.{rules}
use Rattle.toml.specs.View.{table_view}
use Rattle.swim_config.proofs.LeftOut.{no_number}
use Rattle.swim_config.proofs.values.take_small.Goals as goal

pub returns-in_err-take-clause-value : goal.returns-in_err-take-clause-value
returns-in_err-take-clause-value c =
    no_number c.args.key (table_view c.args.table.now) c.from_residual.result c.in_err-take.field-0.0 c.requires.given
    (search rules) (search rules)
