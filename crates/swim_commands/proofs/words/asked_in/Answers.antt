use Rattle.std.proofs.Common.{rules, ap, sym, ◌∙◌}
use Rattle.clap.specs.Matches.{found_of}
use Rattle.clap.specs.Walk.{rows_of}
use Rattle.swim_commands.specs.Words.{around_of, asked_in}
use Rattle.swim_commands.proofs.Given.{met}
use Rattle.swim_commands.proofs.words.asked_in.Goals as goal

pub returns-in-Some : goal.returns-in-Some
returns-in-Some c =
    c.asked_by.ensures
    ∙ ap (asked_in (around_of c.args.around))
    (sym (met c.args.matches.now c.in-Some.name.now (rows_of (found_of c.in-Some.given.now)) (search rules)
    (search rules)))
