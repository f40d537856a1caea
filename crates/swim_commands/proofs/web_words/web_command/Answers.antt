use Rattle.std.proofs.Common.{◌≡◌, ◌||◌, ap, ap₂, ◌∙◌, codes}
use Rattle.std.proofs.lemmas.Result.{IfOk-weaker}
use Rattle.clap.specs.Simple.{app_of, app_of_fields, new_app, with_rule}
use Rattle.swim_commands.proofs.web_words.web_command.Goals as goal

pub returns : goal.returns
returns c =
    let alone_is : app_of c.about.result ≡ new_app (codes "web") = ap app_of_fields c.about.ensures ∙
    c.new.ensures.app in
    let alone_local = ap (λ f. f.has_globals) c.about.ensures ∙ c.new.ensures.local in
    let listen_is = c.in_ok-arg.ensures.shape c.needed.ensures.local ∙ ap₂ with_rule alone_is c.needed.ensures.rule in
    let listen_local = c.in_ok-arg.ensures.globals ∙ ap₂ (λ a b. a || b) alone_local c.needed.ensures.local in
    let control_is = c.in_ok-arg-2.ensures.shape c.needed-2.ensures.local ∙
    ap₂ with_rule listen_is c.needed-2.ensures.rule in
    let control_local = c.in_ok-arg-2.ensures.globals ∙ ap₂ (λ a b. a || b) listen_local c.needed-2.ensures.local in
    let events_is = c.in_ok-arg-3.ensures.shape c.events.ensures.local ∙
    ap₂ with_rule control_is c.events.ensures.rule in
    let events_local = c.in_ok-arg-3.ensures.globals ∙ ap₂ (λ a b. a || b) control_local c.events.ensures.local in
    let names_is = c.in_ok-arg-4.ensures.shape c.names.ensures.local ∙
    ap₂ with_rule events_is c.names.ensures.rule in
    let names_local = c.in_ok-arg-4.ensures.globals ∙ ap₂ (λ a b. a || b) events_local c.names.ensures.local in
    record {
      app = IfOk-weaker c.arg-5.result _ _
          (λ r h. h.shape c.journals.ensures.local ∙ ap₂ with_rule names_is c.journals.ensures.rule) c.arg-5.ensures;
      local = IfOk-weaker c.arg-5.result _ _
          (λ r h. h.globals ∙ ap₂ (λ a b. a || b) names_local c.journals.ensures.local) c.arg-5.ensures;
    }
