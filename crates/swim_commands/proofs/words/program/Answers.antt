use Rattle.std.proofs.Common.{◌≡◌, ap, ap₂, ◌∙◌, codes}
use Rattle.std.proofs.lemmas.Result.{IfOk-weaker}
use Rattle.clap.specs.Simple.{App, app_of, new_shape, shape_of, with_subcommand}
use Rattle.swim_commands.specs.Words.{ask_app, check_app, program_alone, run_app, watch_app, web_app}
use Rattle.swim_commands.proofs.words.program.Goals as goal

abbrev with_check : App
with_check = with_subcommand program_alone check_app.top

abbrev with_run : App
with_run = with_subcommand with_check run_app.top

abbrev with_ask : App
with_ask = with_subcommand with_run ask_app.top

abbrev with_watch : App
with_watch = with_subcommand with_ask watch_app.top

abbrev with_web : App
with_web = with_subcommand with_watch web_app.top

pub returns : goal.returns
returns c =
    let check_is : shape_of c.in_ok-check_command.field-0 ≡ check_app.top =
    ap (λ (a : App). a.top) c.in_ok-check_command.ensures.app in
    let run_is : shape_of c.in_ok-run_command.field-0 ≡ run_app.top =
    ap (λ (a : App). a.top) c.in_ok-run_command.ensures.app in
    let ask_is : shape_of c.in_ok-ask_command.field-0 ≡ ask_app.top =
    ap (λ (a : App). a.top) c.in_ok-ask_command.ensures.app in
    let watch_is : shape_of c.in_ok-watch_command.field-0 ≡ watch_app.top =
    ap (λ (a : App). a.top) c.in_ok-watch_command.ensures.app in
    let web_is : shape_of c.in_ok-web_command.field-0 ≡ web_app.top =
    ap (λ (a : App). a.top) c.in_ok-web_command.ensures.app in
    let key_is : shape_of c.key_command.result ≡ new_shape (codes "key") =
    ap (λ (a : App). a.top) c.key_command.ensures.app in
    let checks_is : app_of c.in_ok-checking.checking ≡ with_check =
    c.in_ok-checking.ensures.shape c.in_ok-check_command.ensures.local ∙
    ap₂ with_subcommand c.in_ok-alone.ensures check_is in
    let runs_is : app_of c.in_ok-running.running ≡ with_run =
    c.in_ok-running.ensures.shape c.in_ok-run_command.ensures.local ∙ ap₂ with_subcommand checks_is run_is in
    let asks_is : app_of c.in_ok-asking.asking ≡ with_ask =
    c.in_ok-asking.ensures.shape c.in_ok-ask_command.ensures.local ∙ ap₂ with_subcommand runs_is ask_is in
    let watches_is : app_of c.in_ok-watching.watching ≡ with_watch =
    c.in_ok-watching.ensures.shape c.in_ok-watch_command.ensures.local ∙ ap₂ with_subcommand asks_is watch_is in
    let serves_is : app_of c.in_ok-serving.serving ≡ with_web =
    c.in_ok-serving.ensures.shape c.in_ok-web_command.ensures.local ∙ ap₂ with_subcommand watches_is web_is in
    IfOk-weaker c.subcommand-6.result _ _
    (λ r h. h.shape c.key_command.ensures.local ∙ ap₂ with_subcommand serves_is key_is) c.subcommand-6.ensures
