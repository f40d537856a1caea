-- Pings that are kept with the greatest numbers so far.
use Rattle.std.proofs.Common.{◌≡◌, ℕ, zero, suc, ◌+◌, ◌-◌, ◌<◌, ◌≤◌, max, Bool, true, false, cond, ◌&&◌, List, []}
use Rattle.std.proofs.Common.{◌∷◌, ◌++◌, Option, Some, None, length, get_or, refl, sym, ap, subst, ◌∙◌, arith, inl, inr}
use Rattle.std.proofs.Common.{append-nil}
use Rattle.std.proofs.lemmas.Bool.{cases_lt, le-leb, le-ltb, lt-leb, lt-ltb}
use Rattle.std.proofs.lemmas.List.Elements.{filter-append}
use Rattle.std.proofs.lemmas.Option.{slice_get-get_or}
use Rattle.std.specs.List.{prefix_len, slice_get}
use Rattle.std.specs.Option.{option_map, option_to_list}
use Rattle.std.specs.List.Sorted.{IsNonDecreasingBy}
use Rattle.std.specs.Prelude.{◌==◌, filter, nat_le, nat_lt}
use Rattle.swim_trace.specs.declared.acts.ProbeName.{ProbeName}
use Rattle.swim_trace.specs.declared.beats.Beat.{Beat}
use Rattle.swim_trace.specs.declared.beats.Reach.{Reach}
use Rattle.swim_trace.specs.declared.presences.Bracket.{Bracket}
use Rattle.swim_trace.specs.Beats.{from_member, greatest_of, is_from, is_within, reach, reaches, with_beat}
use Rattle.swim_trace.specs.Presence.{beat_at, beat_before, bracket, bracketed}

reaches-push : (most : ℕ) (xs : List Beat) (b : Beat) →
    reaches most (xs ++ b ∷ []) ≡ reaches most xs ++ reach (greatest_of most (reaches most xs)) b ∷ []
reaches-push most [] b = refl
reaches-push most (x ∷ xs) b = ap (λ l. reach most x ∷ l) (reaches-push (max most x.number) xs b)

-- what is kept of an initiator with a ping more is what is kept of these and that one
pub with_beat_is : (m : ℕ) (beats : List Beat) (more : Option Beat) →
    with_beat m more (reaches 0 (from_member m beats)) ≡ reaches 0 (from_member m (beats ++ option_to_list more))
with_beat_is m beats None = ap (λ l. reaches 0 (from_member m l)) (sym (append-nil beats))
with_beat_is m beats (Some b) =
    by (b.initiator == m) (from_member m beats)
    ∙ ap (reaches 0) (sym (filter-append (λ (x : Beat). x.initiator == m) beats (b ∷ []))) where
      by : (is : Bool) (own : List Beat) →
          cond is (reaches 0 own ++ reach (greatest_of 0 (reaches 0 own)) b ∷ []) (reaches 0 own)
          ≡ reaches 0 (own ++ cond is (b ∷ []) [])
      by true own = sym (reaches-push 0 own b)
      by false own = ap (reaches 0) (sym (append-nil own))

-- the last place of a list that has one element more in front
last_place : (r next : Reach) (more : List Reach) →
    length (r ∷ next ∷ more) - 1 ≡ suc (length (next ∷ more) - 1)
last_place r next more = omega arith

-- the greatest number of all stands with the last one
pub greatest_is_last : (most : ℕ) (kept : List Reach) (last : Reach) →
    slice_get kept (length kept - 1) ≡ Some last → greatest_of most kept ≡ last.greatest
greatest_is_last most [] last is = absurd (cc is)
greatest_is_last most (r ∷ []) last is = cc is
greatest_is_last most (r ∷ next ∷ more) last is =
    greatest_is_last r.greatest (next ∷ more) last
    (subst (λ (k : ℕ). slice_get (r ∷ next ∷ more) k ≡ Some last) (last_place r next more) is)

pub greatest_of_none : (most : ℕ) (kept : List Reach) → slice_get kept (length kept - 1) ≡ None →
    greatest_of most kept ≡ most
greatest_of_none most [] is = refl
greatest_of_none most (r ∷ more) is =
    absurd (cc (slice_get-get_or (r ∷ more) (length (r ∷ more) - 1) r (omega arith), is))

count_more : (within : Reach → Bool) (most : ℕ) (b : Beat) (own counted : List Beat) (is less most_of : Bool) →
    within (reach most b) ≡ (less && most_of) →
    ((t : ℕ) → length (filter within (reaches t own)) ≡ length counted) →
    length (filter within (reaches most (cond is (b ∷ own) own)))
    ≡ length (cond (is && less && most_of) (b ∷ counted) counted)
count_more within most b own counted true true true same others = rw (same, others (max most b.number)) refl
count_more within most b own counted true true false same others = rw (same, others (max most b.number)) refl
count_more within most b own counted true false most_of same others = rw (same, others (max most b.number)) refl
count_more within most b own counted false less most_of same others = others most

-- so many of an initiator's pings are of some periods
pub count_is : (m last latest : ℕ) (beats : List Beat) (most : ℕ) →
    length (filter (is_within last latest) (reaches most (from_member m beats)))
    ≡ length (filter (is_from m last latest) beats)
count_is m last latest [] most = refl
count_is m last latest (b ∷ beats) most =
    count_more (is_within last latest) most b (from_member m beats) (filter (is_from m last latest) beats)
    (b.initiator == m) (nat_lt last b.number) (nat_le b.number latest) refl (count_is m last latest beats)

at_least : (most : ℕ) (xs : List Beat) (k : ℕ) (d : Reach) → k < length (reaches most xs) →
    most ≤ (get_or (reaches most xs) k d).greatest
at_least most [] k d within = absurd (omega (arith, within))
at_least most (x ∷ xs) zero d within = omega arith
at_least most (x ∷ xs) (suc k) d within =
    omega (arith, at_least (max most x.number) xs k d (omega (arith, within)))

-- the greatest numbers rise
pub reaches_rise : (most : ℕ) (xs : List Beat) → IsNonDecreasingBy (λ (r : Reach). r.greatest) (reaches most xs)
reaches_rise most [] i j d from within = absurd (omega (arith, within))
reaches_rise most (x ∷ xs) zero zero d from within = omega arith
reaches_rise most (x ∷ xs) zero (suc j) d from within = at_least (max most x.number) xs j d (omega (arith, within))
reaches_rise most (x ∷ xs) (suc i) zero d from within = absurd (omega (arith, from))
reaches_rise most (x ∷ xs) (suc i) (suc j) d from within =
    reaches_rise (max most x.number) xs i j d (omega (arith, from)) (omega (arith, within))

beats_round-suc : (before : Option Beat) (r : Reach) (kept : List Reach) (place : ℕ) →
    bracketed (beat_before before (r ∷ kept) (suc place)) (beat_at (r ∷ kept) (suc place))
    ≡ bracketed (beat_before (Some r.beat) kept place) (beat_at kept place)
beats_round-suc before r kept zero = refl
beats_round-suc before r kept (suc place) = refl

-- what stands round a place, behind one ping more
beats_round : (before : Option Beat) (r : Reach) (kept : List Reach) (place : ℕ) →
    bracketed (beat_before before (r ∷ kept) (1 + place)) (beat_at (r ∷ kept) (1 + place))
    ≡ bracketed (beat_before (Some r.beat) kept place) (beat_at kept place)
beats_round before r kept place =
    let next : suc place ≡ 1 + place = omega arith in
    subst (λ (k : ℕ). bracketed (beat_before before (r ∷ kept) k) (beat_at (r ∷ kept) k)
    ≡ bracketed (beat_before (Some r.beat) kept place) (beat_at kept place)) next (beats_round-suc before r kept place)

-- what stands round the first of these pings whose greatest number isn't less
abbrev pub Found : ProbeName → List Beat → Option Beat → ℕ → Bracket → Type 0
Found p own before most found =
    let kept = reaches most own in
    let place = prefix_len (λ (r : Reach). nat_lt r.greatest p.number) kept in
    bracketed (beat_before before kept place) (beat_at kept place) ≡ found

found_more : (p : ProbeName) (b : Beat) (own : List Beat) (before : Option Beat) (most : ℕ) (next skipped : Bracket)
    (is : Bool) → most ≤ p.number - 1 → Found p own before most skipped →
    ((t : ℕ) → t ≤ p.number - 1 → Found p own (Some b) t next) →
    Found p (cond is (b ∷ own) own) before most
    (cond is (cond (nat_le p.number b.number) (bracketed before (Some b)) next) skipped)
found_more p b own before most next skipped false low of_others more = of_others
found_more p b own before most next skipped true low of_others more = elim (cases_lt b.number p.number) [
  | inl less ↦
      let below : max most b.number < p.number = omega (arith, less, low) in
      rw (lt-leb p.number b.number less, lt-ltb (max most b.number) p.number below)
      (beats_round before (reach most b) (reaches (max most b.number) own)
      (prefix_len (λ (r : Reach). nat_lt r.greatest p.number) (reaches (max most b.number) own))
      ∙ more (max most b.number) (omega (arith, below)))
  | inr from ↦
      rw (le-leb p.number b.number from, le-ltb (max most b.number) p.number (omega (arith, from))) refl
]

-- the pings round the first place whose greatest number isn't less are those round the probe
pub bracket_found : (p : ProbeName) (beats : List Beat) (before : Option Beat) (most : ℕ) → most ≤ p.number - 1 →
    Found p (from_member p.initiator beats) before most (bracket p before beats)
bracket_found p [] before most low = refl
bracket_found p (b ∷ beats) before most low =
    found_more p b (from_member p.initiator beats) before most (bracket p (Some b) beats) (bracket p before beats)
    (b.initiator == p.initiator) low (bracket_found p beats before most low)
    (λ t below. bracket_found p beats (Some b) t below)
