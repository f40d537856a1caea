use Rattle.std.proofs.Common.{ap, ap₂, ◌∙◌, ◌≡◌, codes}
use Rattle.std.proofs.lemmas.Result.{IfOk-weaker}
use Rattle.clap.specs.Words.{app_of, new_app, with_rule}
use Rattle.clap.specs.Simple.{on_top, app_of_fields}
use Rattle.swimsim.specs.Options.{versioned}
use Rattle.swimsim.proofs.options.command_line.Goals as goal

pub returns : goal.returns
returns c =
    let version_is : app_of c.version.result ≡ on_top versioned (app_of c.new.result) =
    ap app_of_fields c.version.ensures in
    let about_is : app_of c.about.result ≡ app_of c.version.result = ap app_of_fields c.about.ensures in
    let named_is : app_of c.about.result ≡ on_top versioned (new_app (codes "swimsim")) = about_is ∙
    (version_is ∙ ap (on_top versioned) c.new.ensures.app) in
    let scripted_is = c.in_ok-arg.ensures.shape c.script.ensures.local ∙ ap₂ with_rule named_is c.script.ensures.rule in
    let decoding_is = c.in_ok-arg-2.ensures.shape c.flag.ensures.local ∙
    ap₂ with_rule scripted_is c.flag.ensures.rule in
    let explaining_is = c.in_ok-arg-3.ensures.shape c.flag-2.ensures.local ∙
    ap₂ with_rule decoding_is c.flag-2.ensures.rule in
    let drawing_is = c.in_ok-arg-4.ensures.shape c.timeline.ensures.local ∙
    ap₂ with_rule explaining_is c.timeline.ensures.rule in
    let beginning_is = c.in_ok-arg-5.ensures.shape c.from.ensures.local ∙
    ap₂ with_rule drawing_is c.from.ensures.rule in
    let judging_is = c.in_ok-arg-6.ensures.shape c.around.ensures.local ∙
    ap₂ with_rule beginning_is c.around.ensures.rule in
    let forcing_is = c.in_ok-arg-7.ensures.shape c.flag-3.ensures.local ∙
    ap₂ with_rule judging_is c.flag-3.ensures.rule in
    let verifying_is = c.in_ok-arg-8.ensures.shape c.verify.ensures.local ∙
    ap₂ with_rule forcing_is c.verify.ensures.rule in
    let tracing_is = c.in_ok-arg-9.ensures.shape c.trace.ensures.local ∙
    ap₂ with_rule verifying_is c.trace.ensures.rule in
    let naming_is = c.in_ok-arg-10.ensures.shape c.judged.ensures.local ∙
    ap₂ with_rule tracing_is c.judged.ensures.rule in
    let numbering_is = c.in_ok-arg-11.ensures.shape c.period.ensures.local ∙
    ap₂ with_rule naming_is c.period.ensures.rule in
    let writing_is = c.in_ok-arg-12.ensures.shape c.flag-4.ensures.local ∙
    ap₂ with_rule numbering_is c.flag-4.ensures.rule in
    IfOk-weaker c.arg-13.result _ _
    (λ command added. added.shape c.numbers.ensures.local ∙ ap₂ with_rule writing_is c.numbers.ensures.rule)
    c.arg-13.ensures
