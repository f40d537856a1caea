-- Which verdicts findings tell.
use Rattle.std.proofs.Common.{◌≡◌, ℕ, ◌+◌, ◌<◌, false, List, [], ◌∷◌, ◌++◌, length, take, get_or, sym, ap, ◌∙◌}
use Rattle.std.proofs.Common.{Option, rules, slice_index_or}
use Rattle.std.proofs.lemmas.List.{take_more}
use Rattle.std.proofs.lemmas.Bool.{or_parts}
use Rattle.std.proofs.lemmas.List.Elements.{All-cons, All-nil, filter_map-append}
use Rattle.std.specs.List.{cons_option, list_any}
use Rattle.swim_evidence.specs.declared.findings.Finding.{Finding}
use Rattle.swim_evidence.specs.declared.findings.Finding.TheVariants.{Judged, Late, Other}
use Rattle.swim_verdicts.specs.Examined.{IsOther, LacksVerdict}
use Rattle.swim_pages.specs.Shelves.{is_verdict, verdict_in, verdicts_in}

-- findings among whose verdicts there is none on that member at the end of that period lack that verdict
pub lacks_unless_listed : (member number : ℕ) (found : List Finding) →
    list_any (is_verdict member number) (verdicts_in found) ≡ false → LacksVerdict found member number
lacks_unless_listed member number [] none = All-nil (IsOther member number)
lacks_unless_listed member number (Judged e ∷ more) none =
    let parts = or_parts (is_verdict member number (e.member, e.number))
    (list_any (is_verdict member number) (verdicts_in more)) none in
    All-cons (IsOther member number) (Judged e) more (λ f is of at. search rules)
    (lacks_unless_listed member number more parts.1)
lacks_unless_listed member number (Other stray ∷ more) none =
    All-cons (IsOther member number) (Other stray) more (λ f is of at. absurd cc)
    (lacks_unless_listed member number more none)
lacks_unless_listed member number (Late stray ∷ more) none =
    All-cons (IsOther member number) (Late stray) more (λ f is of at. absurd cc)
    (lacks_unless_listed member number more none)

-- the verdicts among one finding more
pub one_more_finding : (found : List Finding) (index : ℕ) (default finding : Finding) → index < length found →
    finding ≡ get_or found index default →
    verdicts_in (take (index + 1) found) ≡ verdicts_in (take index found) ++ cons_option (verdict_in finding) []
one_more_finding found index default finding within is =
    ap verdicts_in (take_more found index default within)
    ∙ filter_map-append verdict_in (take index found) (get_or found index default ∷ [])
    ∙ ap (λ (f : Finding). verdicts_in (take index found) ++ cons_option (verdict_in f) []) (sym is)

pub one_more_listed : (found : List Finding) (index : ℕ) (finding : Finding) (met : Option (ℕ × ℕ))
    (old new : List (ℕ × ℕ)) → index < length found → finding ≡ slice_index_or found index finding →
    met ≡ verdict_in finding → old ≡ verdicts_in (take index found) → new ≡ old ++ cons_option met [] →
    new ≡ verdicts_in (take (index + 1) found)
one_more_listed found index finding met old new within at is listed more =
    more ∙ (ap (λ (l : List (ℕ × ℕ)). l ++ cons_option met []) listed
    ∙ (ap (λ (o : Option (ℕ × ℕ)). verdicts_in (take index found) ++ cons_option o []) is
    ∙ sym (one_more_finding found index finding finding within at)))
