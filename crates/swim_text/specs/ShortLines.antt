-- Lines of a text that are read up to a limit and to a number of reads.
use Rattle.std.specs.Prelude.{◌≡◌, ℕ, ◌+◌, ◌-◌, ◌<◌, ◌≤◌, ◌==◌, Bool, true, false, List, [], ◌∷◌, ◌++◌}
use Rattle.std.specs.Prelude.{length, take, Option, Some, None, MatchOption, refl}
use Rattle.std.specs.Io.KnownBytes.{Keeps, Consumes, IsAtEnd}
use Rattle.std.specs.Int.{from_bool}
use Rattle.std.proofs.Common.{ap, sym, subst, ◌∙◌, arith, append_assoc, append-nil, length-append}
use Rattle.std.proofs.lemmas.List.{take-take, length-take}
use Rattle.swim_text.specs.declared.short_lines.LineEnd.{LineEnd}
use Rattle.swim_text.specs.declared.short_lines.LineEnd.TheVariants.{Feed, Long, Unended, Over, Spent, Failed, Unsent}
use Rattle.swim_text.specs.Lines.{has_feed}
use Rattle.swim_text.specs.Cutting.{IsPart, feed_if, part_length, has_feed_then}

-- bytes without a line feed were taken from the front of a text, each by a read
pub record IsTaken (text rest taken : List ℕ) (limit reads after : ℕ) : Type 0 where
  pub whole : text ≡ taken ++ rest
  pub within : has_feed taken ≡ false
  pub fits : length taken ≤ limit
  pub spent : length taken + after ≡ reads

-- what was taken of a text, of which the rest is left, and what ended it
abbrev pub Comes : LineEnd → List ℕ → List ℕ → List ℕ → ℕ → ℕ → ℕ → Type 0
Comes Feed text rest line limit reads after = IsTaken text (10 ∷ rest) line limit reads (after + 1)
Comes Long text rest line limit reads after =
    (taken : List ℕ) × IsTaken text rest taken (limit + 1) reads after × (length taken ≡ limit + 1)
Comes Unended text rest line limit reads after =
    IsTaken text [] line limit reads (after + 1) × (rest ≡ []) × (0 < length line)
Comes Over text rest line limit reads after = (text ≡ []) × (rest ≡ []) × (after + 1 ≡ reads)
Comes Spent text rest line limit reads after = IsTaken text rest line limit reads 0 × (after ≡ 0)
Comes Failed text rest line limit reads after = IsTaken text rest line limit reads after
Comes Unsent text rest line limit reads after = IsTaken text rest line limit reads after

-- the same of a reader's bytes, where they are known
abbrev pub ComesKnown : Option (List ℕ) → Option (List ℕ) → LineEnd → List ℕ → ℕ → ℕ → ℕ → Type 0
ComesKnown None new met line limit reads after = Unit {0}
ComesKnown (Some text) None met line limit reads after = ⊥
ComesKnown (Some text) (Some rest) met line limit reads after = Comes met text rest line limit reads after

abbrev pub IsTakenKnown : Option (List ℕ) → Option (List ℕ) → List ℕ → ℕ → ℕ → ℕ → Type 0
IsTakenKnown None new line limit reads after = Unit {0}
IsTakenKnown (Some text) None line limit reads after = ⊥
IsTakenKnown (Some text) (Some rest) line limit reads after = IsTaken text rest line limit reads after

-- a read failed, or what was written could not be handed on
abbrev pub is_failed : LineEnd → Bool
is_failed Failed = true
is_failed met = false

abbrev pub is_unsent : LineEnd → Bool
is_unsent Unsent = true
is_unsent met = false

abbrev pub has_failed : Option LineEnd → Bool
has_failed None = false
has_failed (Some met) = is_failed met

abbrev pub is_unsent_at : Option LineEnd → Bool
is_unsent_at None = false
is_unsent_at (Some met) = is_unsent met

-- a part stands behind the bytes before it where it fits
abbrev pub KeepsIf : Bool → List ℕ → List ℕ → List ℕ → ℕ → Type 0
KeepsIf true old new part limit = (new ≡ old ++ part) × (length old + length part ≤ limit)
KeepsIf false old new part limit = limit < length old + length part

-- what ended a line of which a part was taken: its line feed, or want of room for the part
abbrev pub met_at : Bool → Bool → Option LineEnd
met_at true is_kept = Some Feed
met_at false true = None
met_at false false = Some Long

-- what the end of the source is to a line
abbrev pub at_end : Bool → LineEnd
at_end true = Over
at_end false = Unended

-- what a step does to the bytes taken: there are more of them, or the line has ended
abbrev pub Advances : Option LineEnd → Option (List ℕ) → Option (List ℕ) → List ℕ → List ℕ → ℕ → ℕ → ℕ → Type 0
Advances met mid new line longer limit now after =
    (old : Option (List ℕ)) (reads : ℕ) → IsTakenKnown old mid line limit reads now →
    MatchOption met (IsTakenKnown old new longer limit reads after) (λ e. ComesKnown old new e longer limit reads after)

-- the step that takes these bytes
abbrev pub AdvancesBy : Option LineEnd → List ℕ → List ℕ → List ℕ → ℕ → ℕ → ℕ → Type 0
AdvancesBy met bytes line longer limit now after =
    (mid new : Option (List ℕ)) → Consumes mid new bytes → Advances met mid new line longer limit now after

-- ---- laws

-- no byte was taken
pub none_taken : (old : Option (List ℕ)) (line : List ℕ) (limit reads : ℕ) → line ≡ [] →
    IsTakenKnown old old line limit reads reads
none_taken None line limit reads e = tt
none_taken (Some text) line limit reads e =
    rw e (record { whole = refl; within = refl; fits = omega arith; spent = omega arith })

-- a part more, without a line feed
more_taken : (text rest left line part : List ℕ) (limit most reads now after : ℕ) →
    IsTaken text rest line limit reads now → rest ≡ part ++ left → has_feed part ≡ false
    → length line + length part ≤ most → length part + after ≡ now → IsTaken text left (line ++ part) most reads after
more_taken text rest left line part limit most reads now after t c none fits spent = record {
  whole = t.whole ∙ ap (λ l. line ++ l) c ∙ sym (append_assoc line part left);
  within = has_feed_then line part t.within none;
  fits = omega (arith, length-append line part);
  spent = omega (arith, length-append line part, t.spent);
}

pub goes_on : (line longer part : List ℕ) (limit now after : ℕ) → longer ≡ line ++ part → has_feed part ≡ false →
    length line + length part ≤ limit → length part + after ≡ now
    → AdvancesBy None part line longer limit now after
goes_on line longer part limit now after e none fits spent mid new c None reads t = tt
goes_on line longer part limit now after e none fits spent None new c (Some text) reads t = absurd t
goes_on line longer part limit now after e none fits spent (Some rest) None c (Some text) reads t = absurd c
goes_on line longer part limit now after e none fits spent (Some rest) (Some left) c (Some text) reads t =
    rw e (more_taken text rest left line part limit limit reads now after t c none fits spent)

-- a part with its line feed
pub comes_to_feed : (line longer part : List ℕ) (limit now after : ℕ) → longer ≡ line ++ part → has_feed part ≡ false →
    length line + length part ≤ limit → length part + (after + 1) ≡ now
    → AdvancesBy (Some Feed) (part ++ 10 ∷ []) line longer limit now after
comes_to_feed line longer part limit now after e none fits spent mid new c None reads t = tt
comes_to_feed line longer part limit now after e none fits spent None new c (Some text) reads t = absurd t
comes_to_feed line longer part limit now after e none fits spent (Some rest) None c (Some text) reads t = absurd c
comes_to_feed line longer part limit now after e none fits spent (Some rest) (Some left) c (Some text) reads t =
    rw e (more_taken text rest (10 ∷ left) line part limit limit reads now (after + 1) t
    (c ∙ append_assoc part (10 ∷ []) left) none fits spent)

-- a part with the byte too many
pub comes_to_limit : (line longer part : List ℕ) (limit now after : ℕ) → has_feed part ≡ false →
    length line + length part ≡ limit + 1 → length part + after ≡ now
    → AdvancesBy (Some Long) part line longer limit now after
comes_to_limit line longer part limit now after none over spent mid new c None reads t = tt
comes_to_limit line longer part limit now after none over spent None new c (Some text) reads t = absurd t
comes_to_limit line longer part limit now after none over spent (Some rest) None c (Some text) reads t = absurd c
comes_to_limit line longer part limit now after none over spent (Some rest) (Some left) c (Some text) reads t = (
  line ++ part,
  more_taken text rest left line part limit (limit + 1) reads now after t c none
      (omega (arith, over)) spent,
  omega (arith, length-append line part, over),
)

-- a part is taken with its line feed where it has one, and where it fits
pub part_taken : (line longer part bytes : List ℕ) (is_ended is_kept : Bool) (limit now count most : ℕ) →
    IsPart (take most bytes) part is_ended → count ≡ length part + from_bool is_ended → most ≤ now →
    length line + most ≤ limit + 1 → KeepsIf is_kept line longer part limit →
    AdvancesBy (met_at is_ended is_kept) (take count bytes) line longer limit now (now - count)
part_taken line longer part bytes is_ended is_kept limit now count most p count-is room fits kept =
    subst (λ (b : List ℕ). AdvancesBy (met_at is_ended is_kept) b line longer limit now (now - count)) (sym taken)
    (by is_ended is_kept refl kept)
  where
    within : length part + from_bool is_ended ≤ most
    within = omega (arith, p.fits, part_length part is_ended, length-take most bytes)

    taken : take count bytes ≡ part ++ feed_if is_ended
    taken = sym (take-take count most bytes (omega (arith, within, count-is)))
        ∙ (ap (λ n. take n (take most bytes)) (count-is ∙ sym (part_length part is_ended)) ∙ p.front)

    by : (e k : Bool) → is_ended ≡ e → KeepsIf k line longer part limit →
        AdvancesBy (met_at e k) (part ++ feed_if e) line longer limit now (now - count)
    by true true e k = comes_to_feed line longer part limit now (now - count) k.0 p.within k.1
        (omega (arith, within, ap from_bool e, count-is))
    by true false e k = absurd (omega (arith, k, within, ap from_bool e))
    by false true e k =
        subst (λ (b : List ℕ). AdvancesBy None b line longer limit now (now - count)) (sym (append-nil part))
        (goes_on line longer part limit now (now - count) k.0 p.within k.1
        (omega (arith, within, ap from_bool e, count-is)))
    by false false e k =
        subst (λ (b : List ℕ). AdvancesBy (Some Long) b line longer limit now (now - count)) (sym (append-nil part))
        (comes_to_limit line longer part limit now (now - count) p.within (omega (arith, k, within, ap from_bool e))
        (omega (arith, within, ap from_bool e, count-is)))

-- the end of the source
over_or_unended : (text rest left line : List ℕ) (limit reads now after : ℕ) → IsTaken text rest line limit reads now →
    rest ≡ [] → left ≡ [] → after + 1 ≡ now
    → Comes (at_end (length line == 0)) text left line limit reads after
over_or_unended text rest left [] limit reads now after t all none spent =
    (t.whole ∙ all, none, omega (arith, t.spent))
over_or_unended text rest left (b ∷ line) limit reads now after t all none spent =
    let e : (length (b ∷ line) == 0) ≡ false = grind arith in
    rw e (
      record {
        whole = t.whole ∙ ap (λ l. (b ∷ line) ++ l) all;
        within = t.within;
        fits = t.fits;
        spent =
            omega (arith, t.spent);
      },
      none,
      omega arith,
    )

pub comes_to_end : (old mid new : Option (List ℕ)) (line : List ℕ) (limit reads now after : ℕ) →
    IsTakenKnown old mid line limit reads now → IsAtEnd mid → Keeps mid new → after + 1 ≡ now
    → ComesKnown old new (at_end (length line == 0)) line limit reads after
comes_to_end None mid new line limit reads now after t e k spent = tt
comes_to_end (Some text) None new line limit reads now after t e k spent = absurd t
comes_to_end (Some text) (Some rest) None line limit reads now after t e k spent = absurd k
comes_to_end (Some text) (Some rest) (Some left) line limit reads now after t e k spent =
    over_or_unended text rest left line limit reads now after t e (k ∙ e) spent

-- no read is left
pub comes_to_nothing : (old new : Option (List ℕ)) (line : List ℕ) (limit reads now : ℕ) →
    IsTakenKnown old new line limit reads now → now ≡ 0 → ComesKnown old new Spent line limit reads now
comes_to_nothing None new line limit reads now t none = tt
comes_to_nothing (Some text) None line limit reads now t none = absurd t
comes_to_nothing (Some text) (Some rest) line limit reads now t none =
    (record { whole = t.whole; within = t.within; fits = t.fits; spent = omega (arith, t.spent, none) }, none)

-- a read that failed, or answers that could not be handed on
pub comes_to_failure : (old mid new : Option (List ℕ)) (line : List ℕ) (limit reads now : ℕ) →
    IsTakenKnown old mid line limit reads now → Keeps mid new
    → ComesKnown old new Failed line limit reads now × ComesKnown old new Unsent line limit reads now
comes_to_failure None mid new line limit reads now t k = (tt, tt)
comes_to_failure (Some text) None new line limit reads now t k = absurd t
comes_to_failure (Some text) (Some rest) None line limit reads now t k = absurd k
comes_to_failure (Some text) (Some rest) (Some left) line limit reads now t k = (still, still)
  where
    still : IsTaken text left line limit reads now
    still = record { whole = t.whole ∙ ap (λ l. line ++ l) (sym k); within = t.within; fits = t.fits; spent = t.spent }
