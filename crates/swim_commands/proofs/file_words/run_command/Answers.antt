use Rattle.std.proofs.Common.{◌≡◌, ◌||◌, ap, ap₂, ◌∙◌, codes}
use Rattle.std.proofs.lemmas.Result.{IfOk-weaker}
use Rattle.clap.specs.Simple.{app_of, app_of_fields, new_app, with_rule}
use Rattle.swim_commands.proofs.file_words.run_command.Goals as goal

pub returns : goal.returns
returns c =
    let alone_is : app_of c.about.result ≡ new_app (codes "run") = ap app_of_fields c.about.ensures ∙
    c.new.ensures.app in
    let alone_local = ap (λ f. f.has_globals) c.about.ensures ∙ c.new.ensures.local in
    let file_is = c.in_ok-arg.ensures.shape c.file.ensures.local ∙ ap₂ with_rule alone_is c.file.ensures.rule in
    let file_local = c.in_ok-arg.ensures.globals ∙ ap₂ (λ a b. a || b) alone_local c.file.ensures.local in
    let config_is = c.in_ok-arg-2.ensures.shape c.valued.ensures.local ∙ ap₂ with_rule file_is c.valued.ensures.rule in
    let config_local = c.in_ok-arg-2.ensures.globals ∙ ap₂ (λ a b. a || b) file_local c.valued.ensures.local in
    record {
      app = IfOk-weaker c.arg-3.result _ _
          (λ r h. h.shape c.flag.ensures.local ∙ ap₂ with_rule config_is c.flag.ensures.rule) c.arg-3.ensures;
      local = IfOk-weaker c.arg-3.result _ _ (λ r h. h.globals ∙ ap₂ (λ a b. a || b) config_local c.flag.ensures.local)
          c.arg-3.ensures;
    }
