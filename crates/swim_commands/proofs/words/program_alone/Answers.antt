use Rattle.std.proofs.Common.{◌≡◌, ap, ◌∙◌, rules}
use Rattle.std.proofs.lemmas.Result.{IfOk-weaker}
use Rattle.clap.specs.Simple.{app_of, app_of_fields}
use Rattle.swim_commands.specs.Words.{program_alone}
use Rattle.swim_commands.proofs.words.program_alone.Goals as goal

pub returns : goal.returns
returns c =
    let alone_is : app_of c.disable_help_subcommand.result ≡ program_alone = search rules in
    IfOk-weaker c.bin_name.result _ _ (λ r h. ap app_of_fields h.0 ∙ alone_is) c.bin_name.ensures
