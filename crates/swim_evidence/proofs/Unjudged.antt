-- Histories that judge nobody.
use Rattle.std.proofs.Common.{◌≡◌, ℕ, ◌+◌, ◌-◌, Bool, true, false, cond, List, [], ◌∷◌, ◌++◌, length, Option, Some}
use Rattle.std.proofs.Common.{None, refl, sym, ap, ◌∙◌, length-append, inl, inr, arith, rules}
use Rattle.std.specs.Prelude.{slice_get}
use Rattle.std.specs.List.{All}
use Rattle.std.proofs.lemmas.List.{nil_from_length}
use Rattle.std.proofs.lemmas.List.Elements.{All-append, All-get_or}
use Rattle.std.proofs.lemmas.Option.{slice_get_cases}
use Rattle.std.specs.Option.{option_to_list}
use Rattle.swim_history.specs.declared.replies.Reply.{Reply}
use Rattle.swim_history.specs.declared.replies.Reply.TheVariants.{Started}
use Rattle.swim_history.specs.declared.calls.Call.{Call}
use Rattle.swim_history.specs.declared.entries.Entry.{Entry}
use Rattle.swim_history.specs.Setting.{Setting, IsSetting}
use Rattle.swim_history.specs.Events.{is_start, judged_in}
use Rattle.swim_history.specs.Clock.{period_number}
use Rattle.swim_history.specs.Run.{IsRun}
use Rattle.swim_history.specs.Judgement.{judgement, judgements}
use Rattle.swim_history.specs.Laws.Run.{number_then}
use Rattle.swim_evidence.specs.declared.findings.Stray.{Stray}
use Rattle.swim_evidence.specs.Evidence.{judged_by_starts, is_judged, stray_in, late, found_in, findings}

-- each period that began raised the number by one
pub periods_by_number : (o : Setting) (h : List Entry) → IsSetting o → IsRun o h →
    period_number o h ≡ o.last + length (judged_by_starts h)
periods_by_number o [] s run = omega arith
periods_by_number o (e ∷ before) s run =
    number_then o before e s run.0 ∙ by (is_start e) (periods_by_number o before s run.1) where
      by : (b : Bool) → period_number o before ≡ o.last + length (judged_by_starts before) →
          cond b (period_number o before + 1) (period_number o before)
          ≡ o.last + length (cond b (judged_by_starts before ++ judged_in e.reply ∷ []) (judged_by_starts before))
      by true same = omega (arith, same, length-append (judged_by_starts before) (judged_in e.reply ∷ []))
      by false same = same

none_judged : (judged : List (Option ℕ)) (place m : ℕ) → All (λ j. j ≡ None) judged →
    is_judged (slice_get judged place) m ≡ false
none_judged judged place m all = elim (slice_get_cases judged place).1 [
  | inl found ↦
      let none : found.0 ≡ None = sym found.3 ∙ All-get_or (λ j. j ≡ None) judged place found.0 found.1 all in
      rw (found.2, none) refl
  | inr past ↦ rw past.1 refl
]

none_late : (judged : List (Option ℕ)) (last : ℕ) (stray : Option Stray) → All (λ j. j ≡ None) judged →
    late judged last stray ≡ []
none_late judged last None all = refl
none_late judged last (Some stray) all = rw (none_judged judged (stray.number - last) stray.member all) refl

none_found : (o : Setting) (h : List Entry) (call : Call) (reply : Reply) → All (λ j. j ≡ None) (judged_by_starts h) →
    judged_in reply ≡ None → found_in o h call reply ≡ []
none_found o h call (Started None probe) all is = refl
none_found o h call (Started (Some m) probe) all is = absurd cc
none_found o h call reply all is = none_late (judged_by_starts h) o.last (stray_in (length h) call reply) all

nobody : (number : ℕ) (judged : Option ℕ) → option_to_list (judgement number judged) ≡ [] → judged ≡ None
nobody number None is = refl
nobody number (Some m) is = absurd cc

none_more : (b : Bool) (judged : List (Option ℕ)) (j : Option ℕ) → All (λ j. j ≡ None) judged → j ≡ None →
    All (λ j. j ≡ None) (cond b (judged ++ j ∷ []) judged)
none_more true judged j all is = All-append (λ j. j ≡ None) judged (j ∷ []) all (search (rules, is))
none_more false judged j all is = all

-- a history without a judgement has no finding, and its starts judge nobody
pub unjudged : (o : Setting) (h : List Entry) → judgements o h ≡ [] →
    All (λ j. j ≡ None) (judged_by_starts h) × (findings o h ≡ [])
unjudged o [] is = (search rules, refl)
unjudged o (e ∷ before) is =
    let newest = option_to_list (judgement (period_number o before) (judged_in e.reply)) in
    let count = length-append (judgements o before) newest in
    let earlier : judgements o before ≡ [] =
    nil_from_length (judgements o before) (omega (arith, ap length is, count)) in
    let none : judged_in e.reply ≡ None =
    nobody (period_number o before) (judged_in e.reply) (nil_from_length newest (omega (arith, ap length is, count))) in
    let rest = unjudged o before earlier in (
      none_more (is_start e) (judged_by_starts before) (judged_in e.reply) rest.0 none,
      rw (rest.1, none_found o before e.call e.reply rest.0 none) refl,
    )
