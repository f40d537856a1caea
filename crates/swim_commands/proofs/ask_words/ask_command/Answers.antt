use Rattle.std.proofs.Common.{◌≡◌, ◌||◌, ap, ap₂, ◌∙◌, codes}
use Rattle.std.proofs.lemmas.Result.{IfOk-weaker}
use Rattle.clap.specs.Simple.{app_of, app_of_fields, new_app, with_rule}
use Rattle.swim_commands.proofs.ask_words.ask_command.Goals as goal

pub returns : goal.returns
returns c =
    let alone_is : app_of c.about.result ≡ new_app (codes "ask") = ap app_of_fields c.about.ensures ∙
    c.new.ensures.app in
    let alone_local = ap (λ f. f.has_globals) c.about.ensures ∙ c.new.ensures.local in
    let control_is = c.in_ok-arg.ensures.shape c.valued.ensures.local ∙ ap₂ with_rule alone_is c.valued.ensures.rule in
    let control_local = c.in_ok-arg.ensures.globals ∙ ap₂ (λ a b. a || b) alone_local c.valued.ensures.local in
    let timeout_is = c.in_ok-arg-2.ensures.shape c.timeout.ensures.local ∙
    ap₂ with_rule control_is c.timeout.ensures.rule in
    let timeout_local = c.in_ok-arg-2.ensures.globals ∙ ap₂ (λ a b. a || b) control_local c.timeout.ensures.local in
    let explain_is = c.in_ok-arg-3.ensures.shape c.flag.ensures.local ∙ ap₂ with_rule timeout_is c.flag.ensures.rule in
    let explain_local = c.in_ok-arg-3.ensures.globals ∙ ap₂ (λ a b. a || b) timeout_local c.flag.ensures.local in
    let toml_is = c.in_ok-arg-4.ensures.shape c.flag-2.ensures.local ∙ ap₂ with_rule explain_is c.flag-2.ensures.rule in
    let toml_local = c.in_ok-arg-4.ensures.globals ∙ ap₂ (λ a b. a || b) explain_local c.flag-2.ensures.local in
    record {
      app = IfOk-weaker c.arg-5.result _ _
          (λ r h. h.shape c.line_words.ensures.local ∙ ap₂ with_rule toml_is c.line_words.ensures.rule)
          c.arg-5.ensures;
      local = IfOk-weaker c.arg-5.result _ _
          (λ r h. h.globals ∙ ap₂ (λ a b. a || b) toml_local c.line_words.ensures.local) c.arg-5.ensures;
    }
