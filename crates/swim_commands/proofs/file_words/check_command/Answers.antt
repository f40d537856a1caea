use Rattle.std.proofs.Common.{◌≡◌, ◌||◌, ap, ap₂, ◌∙◌, codes}
use Rattle.std.proofs.lemmas.Result.{IfOk-weaker}
use Rattle.clap.specs.Simple.{app_of, app_of_fields, new_app, with_rule}
use Rattle.swim_commands.proofs.file_words.check_command.Goals as goal

pub returns : goal.returns
returns c =
    let alone_is : app_of c.about.result ≡ new_app (codes "check") = ap app_of_fields c.about.ensures ∙
    c.new.ensures.app in
    let alone_local = ap (λ f. f.has_globals) c.about.ensures ∙ c.new.ensures.local in
    record {
      app = IfOk-weaker c.arg.result _ _
          (λ r h. h.shape c.file.ensures.local ∙ ap₂ with_rule alone_is c.file.ensures.rule) c.arg.ensures;
      local = IfOk-weaker c.arg.result _ _ (λ r h. h.globals ∙ ap₂ (λ a b. a || b) alone_local c.file.ensures.local)
          c.arg.ensures;
    }
