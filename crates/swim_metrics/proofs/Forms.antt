-- The metrics that are told, one after another, in either form.
use Rattle.std.proofs.Common.{◌≡◌, ℕ, suc, ◌<◌, ◌+◌, Bool, true, false, cond, List, [], ◌∷◌, ◌++◌, length, filter, take}
use Rattle.std.proofs.Common.{drop}
use Rattle.std.proofs.Common.{Option, slice_index_or, take-suc, take-append-drop, append_assoc, append-nil, refl, sym}
use Rattle.std.proofs.Common.{ap}
use Rattle.std.proofs.Common.{subst, ◌∙◌, arith}
use Rattle.std.proofs.lemmas.List.Elements.{filter-append}
use Rattle.swim_text.specs.Streams.{Puts, puts_less, puts_then}
use Rattle.swim_metrics.specs.declared.heads.Metric.{Metric}
use Rattle.swim_metrics.specs.declared.measures.Measures.{Measures}
use Rattle.swim_metrics.specs.declared.metric_texts.TextForm.{TextForm}
use Rattle.swim_metrics.specs.declared.metric_texts.TextForm.TheVariants.{Exposition, Stats}
use Rattle.swim_metrics.specs.declared.outside.Outside.{Outside}
use Rattle.swim_metrics.specs.Families.{family_of, is_told}
use Rattle.swim_metrics.specs.Texts.{families_lines, families_text, family_lines, family_text, form_text, form_texts}
use Rattle.swim_metrics.specs.Texts.{text_if_told}

-- the texts of some metrics and of others
texts_append : (form : TextForm) (m : Measures) (out : Outside) (some others : List Metric) →
    form_texts form m out (some ++ others) ≡ form_texts form m out some ++ form_texts form m out others
texts_append Exposition m out [] others = refl
texts_append Exposition m out (metric ∷ some) others =
    let first = family_text out.me (family_of m out metric) in
    ap (λ t. first ++ t) (texts_append Exposition m out some others)
    ∙ sym (append_assoc first (families_text m out some) (families_text m out others))
texts_append Stats m out [] others = refl
texts_append Stats m out (metric ∷ some) others =
    let first = family_lines out.me (family_of m out metric) in
    ap (λ t. first ++ t) (texts_append Stats m out some others)
    ∙ sym (append_assoc first (families_lines m out some) (families_lines m out others))

-- that of one, where it is told or isn't
text_if : (form : TextForm) (m : Measures) (out : Outside) (is : Bool) (metric : Metric) →
    form_texts form m out (cond is (metric ∷ []) []) ≡ cond is (form_text form out.me (family_of m out metric)) []
text_if Exposition m out true metric = append-nil (family_text out.me (family_of m out metric))
text_if Exposition m out false metric = refl
text_if Stats m out true metric = append-nil (family_lines out.me (family_of m out metric))
text_if Stats m out false metric = refl

-- those of the told among two lists
told_append : (form : TextForm) (m : Measures) (out : Outside) (some others : List Metric) →
    form_texts form m out (filter (is_told out) (some ++ others)) ≡
    form_texts form m out (filter (is_told out) some) ++ form_texts form m out (filter (is_told out) others)
told_append form m out some others =
    ap (form_texts form m out) (filter-append (is_told out) some others)
    ∙ texts_append form m out (filter (is_told out) some) (filter (is_told out) others)

told_at : (form : TextForm) (m : Measures) (out : Outside) (metrics : List Metric) (i : ℕ) (default metric : Metric) →
    i < length metrics → metric ≡ slice_index_or metrics i default →
    form_texts form m out (filter (is_told out) (take (suc i) metrics)) ≡
    form_texts form m out (filter (is_told out) (take i metrics)) ++ text_if_told form m out metric
told_at form m out metrics i default metric within at =
    ap (λ l. form_texts form m out (filter (is_told out) l))
    (take-suc metrics i default within ∙ ap (λ it. take i metrics ++ it ∷ []) (sym at))
    ∙ told_append form m out (take i metrics) (metric ∷ [])
    ∙ ap (λ t. form_texts form m out (filter (is_told out) (take i metrics)) ++ t)
    (text_if form m out (is_told out metric) metric)

-- one more was written
pub told_more : (o mid n : Option (List ℕ)) (form : TextForm) (m : Measures) (out : Outside) (metrics : List Metric)
    (i : ℕ) (default metric : Metric) → i < length metrics → metric ≡ slice_index_or metrics i default →
    Puts o mid (form_texts form m out (filter (is_told out) (take i metrics))) true →
    Puts mid n (text_if_told form m out metric) true →
    Puts o n (form_texts form m out (filter (is_told out) (take (i + 1) metrics))) true
told_more o mid n form m out metrics i default metric within at so_far more =
    let next : i + 1 ≡ suc i = omega arith in
    subst (λ t. Puts o n t true)
    (sym (ap (λ k. form_texts form m out (filter (is_told out) (take k metrics))) next
    ∙ told_at form m out metrics i default metric within at))
    (puts_then o mid n (form_texts form m out (filter (is_told out) (take i metrics))) (text_if_told form m out metric)
    true so_far more)

-- one was not
pub told_failed : (o mid n : Option (List ℕ)) (form : TextForm) (m : Measures) (out : Outside) (metrics : List Metric)
    (i : ℕ) (default metric : Metric) → i < length metrics → metric ≡ slice_index_or metrics i default →
    Puts o mid (form_texts form m out (filter (is_told out) (take i metrics))) true →
    Puts mid n (text_if_told form m out metric) false →
    Puts o n (form_texts form m out (filter (is_told out) metrics)) false
told_failed o mid n form m out metrics i default metric within at so_far failed =
    let before = form_texts form m out (filter (is_told out) (take i metrics)) in
    let rest = form_texts form m out (filter (is_told out) (drop (suc i) metrics)) in
    subst (λ t. Puts o n t false)
    (ap (λ t. t ++ rest) (sym (told_at form m out metrics i default metric within at))
    ∙ sym (told_append form m out (take (suc i) metrics) (drop (suc i) metrics))
    ∙ ap (λ l. form_texts form m out (filter (is_told out) l)) (take-append-drop (suc i) metrics))
    (puts_less o n (before ++ text_if_told form m out metric) rest
    (puts_then o mid n before (text_if_told form m out metric) false so_far failed))
