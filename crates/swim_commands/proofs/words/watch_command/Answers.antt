use Rattle.std.proofs.Common.{◌≡◌, ◌||◌, ap, ap₂, ◌∙◌, codes}
use Rattle.std.proofs.lemmas.Result.{IfOk-weaker}
use Rattle.clap.specs.Simple.{app_of, app_of_fields, new_app, with_rule}
use Rattle.swim_commands.proofs.words.watch_command.Goals as goal

pub returns : goal.returns
returns c =
    let alone_is : app_of c.about.result ≡ new_app (codes "watch") = ap app_of_fields c.about.ensures ∙
    c.new.ensures.app in
    let alone_local = ap (λ f. f.has_globals) c.about.ensures ∙ c.new.ensures.local in
    let events_is = c.in_ok-arg.ensures.shape c.valued.ensures.local ∙ ap₂ with_rule alone_is c.valued.ensures.rule in
    let events_local = c.in_ok-arg.ensures.globals ∙ ap₂ (λ a b. a || b) alone_local c.valued.ensures.local in
    record {
      app = IfOk-weaker c.arg-2.result _ _
          (λ r h. h.shape c.flag.ensures.local ∙ ap₂ with_rule events_is c.flag.ensures.rule) c.arg-2.ensures;
      local = IfOk-weaker c.arg-2.result _ _ (λ r h. h.globals ∙ ap₂ (λ a b. a || b) events_local c.flag.ensures.local)
          c.arg-2.ensures;
    }
