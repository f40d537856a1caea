use Rattle.std.proofs.Common.{sym, subst}
use Rattle.swim_script.specs.Commands.{LineStandsAt}
use Rattle.swim_script.proofs.StandingLines.{line_stands}
use Rattle.swim_script.proofs.commands.read_line.Goals as goal

pub returns-clause-stands : goal.returns-clause-stands
returns-clause-stands c =
    subst (LineStandsAt c.args.stage) (sym c.read_any.ensures) (line_stands c.args.form c.args.stage c.args.line.now)
