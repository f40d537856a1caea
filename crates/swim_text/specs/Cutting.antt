-- How the reader of a line goes through a text: what is kept from part to part, and what each end of it means.
use Rattle.std.specs.Prelude.{◌≡◌, ℕ, zero, suc, ◌+◌, ◌<◌, ◌≤◌, ◌==◌, Bool, true, false, ◌||◌, List, [], ◌∷◌, ◌++◌}
use Rattle.std.specs.Prelude.{length, take, cond, Option, Some, None, MatchOption, refl}
use Rattle.std.specs.Int.{from_bool}
use Rattle.std.specs.List.{onto_first, flat_map}
use Rattle.std.specs.Io.KnownBytes.{Keeps, Consumes, IsAtEnd}
use Rattle.std.proofs.Common.{ap, sym, ◌∙◌, arith, append_assoc, append-nil, length-append}
use Rattle.std.proofs.lemmas.List.{length-take, take-take}
use Rattle.std.proofs.lemmas.List.Folds.{list_any-append}
use Rattle.swim_text.specs.declared.lines.Taken.{Taken}
use Rattle.swim_text.specs.declared.lines.Taken.TheVariants.{Line, Size, Failed, Unsent}
use Rattle.swim_text.specs.Lines.{pieces, bare, has_feed, IsOversize, IsCutShort, Takes, TakesKnown, ended}

-- ---- the first line of a text

pub pieces_at : (xs rest : List ℕ) → has_feed xs ≡ false → pieces (xs ++ 10 ∷ rest) ≡ (xs ++ 10 ∷ []) ∷ pieces rest
pieces_at [] rest h = refl
pieces_at (b ∷ xs) rest h = by (b == 10) h (pieces_at xs rest)
  where
    by : (c : Bool) → (c || has_feed xs) ≡ false →
        (has_feed xs ≡ false → pieces (xs ++ 10 ∷ rest) ≡ (xs ++ 10 ∷ []) ∷ pieces rest) →
        cond c ((b ∷ []) ∷ pieces (xs ++ 10 ∷ rest)) (onto_first b (pieces (xs ++ 10 ∷ rest))) ≡
        (b ∷ (xs ++ 10 ∷ [])) ∷ pieces rest
    by true h again = absurd cc
    by false h again = ap (onto_first b) (again h)

-- a text with no line feed is one line
pub pieces_last : (b : ℕ) (xs : List ℕ) → has_feed (b ∷ xs) ≡ false → pieces (b ∷ xs) ≡ (b ∷ xs) ∷ []
pieces_last b [] h = by (b == 10)
  where
    by : (c : Bool) → cond c ((b ∷ []) ∷ []) (onto_first b []) ≡ (b ∷ []) ∷ []
    by true = refl
    by false = refl
pieces_last b (x ∷ xs) h = by (b == 10) h (pieces_last x xs)
  where
    by : (c : Bool) → (c || has_feed (x ∷ xs)) ≡ false → (has_feed (x ∷ xs) ≡ false → pieces (x ∷ xs) ≡ (x ∷ xs) ∷ []) →
        cond c ((b ∷ []) ∷ pieces (x ∷ xs)) (onto_first b (pieces (x ∷ xs))) ≡ (b ∷ x ∷ xs) ∷ []
    by true h again = absurd cc
    by false h again = ap (onto_first b) (again h)

pub bare_at : (xs : List ℕ) → has_feed xs ≡ false → bare (xs ++ 10 ∷ []) ≡ xs
bare_at [] h = refl
bare_at (b ∷ xs) h = by (b == 10) h (bare_at xs)
  where
    by : (c : Bool) → (c || has_feed xs) ≡ false → (has_feed xs ≡ false → bare (xs ++ 10 ∷ []) ≡ xs) →
        cond c [] (b ∷ bare (xs ++ 10 ∷ [])) ≡ b ∷ xs
    by true h again = absurd cc
    by false h again = ap (λ l. b ∷ l) (again h)

pub bare_last : (xs : List ℕ) → has_feed xs ≡ false → bare xs ≡ xs
bare_last [] h = refl
bare_last (b ∷ xs) h = by (b == 10) h (bare_last xs)
  where
    by : (c : Bool) → (c || has_feed xs) ≡ false → (has_feed xs ≡ false → bare xs ≡ xs) →
        cond c [] (b ∷ bare xs) ≡ b ∷ xs
    by true h again = absurd cc
    by false h again = ap (λ l. b ∷ l) (again h)

-- the first of the lines has more bytes than so many
record Exceeds (lines : List (List ℕ)) (count : ℕ) : Type 0 where
  pub piece : List ℕ
  pub more : List (List ℕ)
  pub first : lines ≡ piece ∷ more
  pub over : count < length piece

-- bytes without a line feed are of the first line
exceeds : (xs rest : List ℕ) (count : ℕ) → has_feed xs ≡ false → count < length xs → Exceeds (pieces (xs ++ rest)) count
exceeds [] rest count h over = absurd (omega arith)
exceeds (x ∷ xs) rest zero h over = by (x == 10) (pieces (xs ++ rest)) h
  where
    by : (c : Bool) (lines : List (List ℕ)) → (c || has_feed xs) ≡ false →
        Exceeds (cond c ((x ∷ []) ∷ lines) (onto_first x lines)) 0
    by true lines h = absurd cc
    by false [] h = record { piece = x ∷ []; more = []; first = refl; over = omega arith }
    by false (line ∷ lines) h = record { piece = x ∷ line; more = lines; first = refl; over = omega arith }
exceeds (x ∷ xs) rest (suc count) h over = by (x == 10) h (λ none. exceeds xs rest count none (omega arith))
  where
    by : (c : Bool) → (c || has_feed xs) ≡ false → (has_feed xs ≡ false → Exceeds (pieces (xs ++ rest)) count) →
        Exceeds (cond c ((x ∷ []) ∷ pieces (xs ++ rest)) (onto_first x (pieces (xs ++ rest)))) (suc count)
    by true h again = absurd cc
    by false h again = let e =
        again h in record {
          piece = x ∷ e.piece;
          more = e.more;
          first = ap (onto_first x) e.first;
          over =
              let o : count < length e.piece = e.over in omega arith;
        }

-- the lines of a text, one after another, are the text
pub lines_join : (text : List ℕ) → flat_map (λ piece. piece) (pieces text) ≡ text
lines_join [] = refl
lines_join (b ∷ rest) = by (b == 10) (pieces rest) (lines_join rest)
  where
    by : (c : Bool) (lines : List (List ℕ)) → flat_map (λ piece. piece) lines ≡ rest →
        flat_map (λ piece. piece) (cond c ((b ∷ []) ∷ lines) (onto_first b lines)) ≡ b ∷ rest
    by true lines e = ap (λ l. b ∷ l) e
    by false [] e = ap (λ l. b ∷ l) e
    by false (line ∷ lines) e = ap (λ l. b ∷ l) e

-- ---- from part to part

-- the bytes taken stand in the line while it is no longer than the limit
abbrev pub IsKept : Bool → List ℕ → List ℕ → ℕ → Type 0
IsKept false line taken limit = (line ≡ taken) × (length taken ≤ limit)
IsKept true line taken limit = limit < length taken

-- some bytes of the first line were taken
pub record Taking (text rest line : List ℕ) (limit budget now : ℕ) (is_long : Bool) : Type 0 where
  pub taken : List ℕ
  pub cut : text ≡ taken ++ rest
  pub within : has_feed taken ≡ false
  pub spent : length taken + now ≡ budget
  pub kept : IsKept is_long line taken limit

-- the same of a reader's bytes, where they are known
abbrev pub TakingKnown : Option (List ℕ) → Option (List ℕ) → List ℕ → ℕ → ℕ → ℕ → Bool → Type 0
TakingKnown None new line limit budget now is_long = Unit {0}
TakingKnown (Some text) None line limit budget now is_long = ⊥
TakingKnown (Some text) (Some rest) line limit budget now is_long = Taking text rest line limit budget now is_long

-- no byte was taken
pub sets_out : (old : Option (List ℕ)) (line : List ℕ) (limit budget : ℕ) → line ≡ [] →
    TakingKnown old old line limit budget budget false
sets_out None line limit budget e = tt
sets_out (Some text) line limit budget e =
    record { taken = []; cut = refl; within = refl; spent = omega arith; kept = (e, omega arith) }

-- what a part more does to the bytes kept
abbrev pub KeepsPart : Bool → Bool → List ℕ → List ℕ → List ℕ → ℕ → Type 0
KeepsPart was_long is_long old new part limit =
    (taken : List ℕ) → IsKept was_long old taken limit → IsKept is_long new (taken ++ part) limit

-- a line feed, or none
abbrev pub feed_if : Bool → List ℕ
feed_if true = 10 ∷ []
feed_if false = []

-- the bytes begin with a part of a line, with its line feed where the line has ended
pub record IsPart (bytes part : List ℕ) (is_ended : Bool) : Type 0 where
  pub front : take (length (part ++ feed_if is_ended)) bytes ≡ part ++ feed_if is_ended
  pub fits : length (part ++ feed_if is_ended) ≤ length bytes
  pub some : 0 < length bytes → 0 < length (part ++ feed_if is_ended)
  pub within : has_feed part ≡ false

pub part_length : (part : List ℕ) (is_ended : Bool) → length (part ++ feed_if is_ended) ≡
    length part + from_bool is_ended
part_length part true = length-append part (10 ∷ [])
part_length part false = length-append part []

-- a part of some of the bytes, the first ones, is a part of all
pub part_of_front : (bytes part : List ℕ) (is_ended : Bool) (most : ℕ) → (0 < length bytes → 0 < most) →
    IsPart (take most bytes) part is_ended → IsPart bytes part is_ended
part_of_front bytes part is_ended most some is = record {
  front = sym (take-take (length (part ++ feed_if is_ended)) most bytes
      (omega (arith, is.fits, length-take most bytes))) ∙ is.front;
  fits = omega (arith, is.fits, length-take most bytes);
  some = λ any. is.some (omega (arith, any, some any, length-take most bytes));
  within = is.within;
}

-- what a step does to the bytes taken: there are more of them, or the line has ended
abbrev pub Steps : Option Taken → Option (List ℕ) → Option (List ℕ) → List ℕ → List ℕ → ℕ → ℕ → ℕ → ℕ → Bool → Bool →
    Type 0
Steps met mid new line longer limit budget now after was_long is_long =
    (old : Option (List ℕ)) → TakingKnown old mid line limit budget now was_long →
    MatchOption met (TakingKnown old new longer limit budget after is_long)
    (λ t. TakesKnown old new t longer limit budget after)

-- the step that takes such a part
abbrev pub TakesPart : Option Taken → List ℕ → Bool → List ℕ → List ℕ → ℕ → ℕ → ℕ → Bool → Bool → Type 0
TakesPart met part is_ended line longer limit now after was_long is_long =
    (mid new : Option (List ℕ)) (budget : ℕ) → Consumes mid new (part ++ feed_if is_ended) →
    Steps met mid new line longer limit budget now after was_long is_long

pub has_feed_then : (taken part : List ℕ) → has_feed taken ≡ false → has_feed part ≡ false →
    has_feed (taken ++ part) ≡ false
has_feed_then taken part h e = list_any-append (λ b. b == 10) taken part ∙ cc

-- a part more, without a line feed
takes_more : (text rest more line longer part : List ℕ) (limit budget now after : ℕ) (was_long is_long : Bool)
    → Taking text rest line limit budget now was_long → rest ≡ part ++ more → has_feed part ≡ false →
    length part + after ≡ now → KeepsPart was_long is_long line longer part limit
    → Taking text more longer limit budget after is_long
takes_more text rest more line longer part limit budget now after was_long is_long t c e n k = record {
  taken = t.taken ++ part;
  cut = t.cut ∙ ap (λ l. t.taken ++ l) c ∙ sym (append_assoc t.taken part more);
  within = has_feed_then t.taken part t.within e;
  spent = omega (arith, length-append t.taken part, t.spent);
  kept = k t.taken t.kept;
}

pub goes_on : (line longer part : List ℕ) (limit now after : ℕ) (was_long is_long : Bool) → has_feed part ≡ false →
    length part + after ≡ now → KeepsPart was_long is_long line longer part limit
    → TakesPart None part false line longer limit now after was_long is_long
goes_on line longer part limit now after was_long is_long e n k mid new budget c None t = tt
goes_on line longer part limit now after was_long is_long e n k None new budget c (Some text) t = absurd t
goes_on line longer part limit now after was_long is_long e n k (Some rest) None budget c (Some text) t = absurd c
goes_on line longer part limit now after was_long is_long e n k (Some rest) (Some more) budget c (Some text) t =
    takes_more text rest more line longer part limit budget now after was_long is_long t
    (c ∙ ap (λ l. l ++ more) (append-nil part)) e n k

-- a part is kept behind the bytes of a line within the limit
pub keeps_part : (line new part : List ℕ) (limit : ℕ) → new ≡ line ++ part → length line + length part ≤ limit →
    KeepsPart false false line new part limit
keeps_part line new part limit e room taken k =
    (e ∙ ap (λ l. l ++ part) k.0, omega (arith, length-append taken part, ap length k.0))

-- a part for which there is no room makes the line too long
pub outgrows : (line new part : List ℕ) (limit : ℕ) → limit < length line + length part →
    KeepsPart false true line new part limit
outgrows line new part limit full taken k = omega (arith, length-append taken part, ap length k.0)

pub stays_long : (line new part : List ℕ) (limit : ℕ) → KeepsPart true true line new part limit
stays_long line new part limit taken k = omega (arith, length-append taken part)

-- ---- the ends

-- a line feed
feeds : (text more line : List ℕ) (limit budget now after : ℕ) (is_long : Bool) →
    Taking text (10 ∷ more) line limit budget now is_long → after + 1 ≡ now →
    Takes (ended false is_long) text more line limit budget after
feeds text more line limit budget now after is_long t n = by is_long t.kept
  where
    piece : List ℕ
    piece = t.taken ++ 10 ∷ []

    whole : text ≡ piece ++ more
    whole = t.cut ∙ sym (append_assoc t.taken (10 ∷ []) more)

    first : pieces text ≡ piece ∷ pieces more
    first = ap pieces t.cut ∙ pieces_at t.taken more t.within

    spent : length piece + after ≡ budget
    spent = omega (arith, length-append t.taken (10 ∷ []), t.spent)

    by : (l : Bool) → IsKept l line t.taken limit → Takes (ended false l) text more line limit budget after
    by false k = record {
      piece = piece;
      whole = whole;
      first = first;
      bytes = bare_at t.taken t.within
          ∙ sym k.0;
      fits = omega (arith, ap length k.0, k.1);
      spent = spent;
    }
    by true k = record {
      piece = piece;
      whole = whole;
      first = first;
      long =
          omega (arith, ap length (bare_at t.taken t.within), k);
      spent = spent;
    }

-- a part with its line feed
pub comes_to_feed : (line longer part : List ℕ) (limit now after : ℕ) (was_long is_long : Bool) →
    has_feed part ≡ false → length part + (after + 1) ≡ now → KeepsPart was_long is_long line longer part limit
    → TakesPart (Some (ended false is_long)) part true line longer limit now after was_long is_long
comes_to_feed line longer part limit now after was_long is_long e n k mid new budget c None t = tt
comes_to_feed line longer part limit now after was_long is_long e n k None new budget c (Some text) t = absurd t
comes_to_feed line longer part limit now after was_long is_long e n k (Some rest) None budget c (Some text) t = absurd c
comes_to_feed line longer part limit now after was_long is_long e n k (Some rest) (Some more) budget c (Some text) t =
    feeds text more longer limit budget (after + 1) after is_long
    (takes_more text rest (10 ∷ more) line longer part limit budget now (after + 1) was_long is_long t
    (c ∙ append_assoc part (10 ∷ []) more) e n k) refl

-- the bytes taken are the whole text
at_end : (text more line : List ℕ) (limit budget now : ℕ) (is_long : Bool) (taken : List ℕ) → text ≡ taken → more ≡ [] →
    has_feed taken ≡ false → length taken + now ≡ budget → IsKept is_long line taken limit
    → Takes (ended (now == budget) is_long) text more line limit budget now
at_end text more line limit budget now is_long [] all none within spent kept = rw e (all, none, omega arith)
  where
    e : (now == budget) ≡ true
    e = grind arith
at_end text more line limit budget now is_long (b ∷ taken) all none within spent kept = rw e (by is_long kept)
  where
    e : (now == budget) ≡ false
    e = grind arith

    piece : List ℕ
    piece = b ∷ taken

    whole : text ≡ piece ++ more
    whole = all ∙ sym (append-nil piece) ∙ ap (λ l. piece ++ l) (sym none)

    first : pieces text ≡ piece ∷ pieces more
    first = ap pieces all ∙ pieces_last b taken within ∙ ap (λ l. piece ∷ pieces l) (sym none)

    by : (l : Bool) → IsKept l line piece limit → Takes (ended false l) text more line limit budget now
    by false k = record {
      piece = piece;
      whole = whole;
      first = first;
      bytes = bare_last piece within ∙ sym k.0;
      fits =
          omega (arith, ap length k.0, k.1);
      spent = spent;
    }
    by true k = record {
      piece = piece;
      whole = whole;
      first = first;
      long =
          omega (arith, ap length (bare_last piece within), k);
      spent = spent;
    }

-- the end of the source
pub ends : (old mid new : Option (List ℕ)) (line : List ℕ) (limit budget now : ℕ) (is_long : Bool)
    → TakingKnown old mid line limit budget now is_long → IsAtEnd mid → Keeps mid new →
    TakesKnown old new (ended (now == budget) is_long) line limit budget now
ends None mid new line limit budget now is_long t e k = tt
ends (Some text) None new line limit budget now is_long t e k = absurd t
ends (Some text) (Some rest) None line limit budget now is_long t e k = absurd k
ends (Some text) (Some rest) (Some more) line limit budget now is_long t e k =
    at_end text more line limit budget now is_long t.taken all (k ∙ e) t.within t.spent t.kept
  where
    all : text ≡ t.taken
    all = t.cut ∙ ap (λ l. t.taken ++ l) e ∙ append-nil t.taken

-- a part that goes past the budget, with its line feed where it has one
past : (text rest more part : List ℕ) (budget now : ℕ) (is_ended : Bool) (taken : List ℕ) → text ≡ taken ++ rest →
    has_feed taken ≡ false → length taken + now ≡ budget
    → rest ≡ (part ++ feed_if is_ended) ++ more → has_feed part ≡ false →
    length (part ++ feed_if is_ended) ≡ now + 1 → IsOversize text more budget
past text rest more part budget now is_ended taken cut within spent c e over =
    let x = by is_ended c over in
    record {
      piece = x.piece;
      more = x.more;
      first = x.first;
      over = x.over;
      taken = taken ++ (part ++ feed_if is_ended);
      whole = cut ∙ ap (λ l. taken ++ l) c ∙ sym (append_assoc taken (part ++ feed_if is_ended) more);
      spent = omega (arith, length-append taken (part ++ feed_if is_ended), spent, over);
    }
  where
    all : (tail : List ℕ) → rest ≡ part ++ tail → text ≡ (taken ++ part) ++ tail
    all tail c = cut ∙ ap (λ l. taken ++ l) c ∙ sym (append_assoc taken part tail)

    none : has_feed (taken ++ part) ≡ false
    none = has_feed_then taken part within e

    by : (b : Bool) → rest ≡ (part ++ feed_if b) ++ more → length (part ++ feed_if b) ≡ now + 1 →
        Exceeds (pieces text) budget
    by true c over = record {
      piece = (taken ++ part) ++ 10 ∷ [];
      more = pieces more;
      first = ap pieces (all (10 ∷ more) (c ∙ append_assoc part (10 ∷ []) more)) ∙ pieces_at (taken ++ part) more none;
      over = omega (
        arith,
        length-append (taken ++ part) (10 ∷ []),
        length-append taken part,
        length-append part
            (10 ∷ []),
        spent,
        over,
      );
    }
    by false c over =
        let x = exceeds (taken ++ part) more budget none
        (omega (arith, length-append taken part, ap length (append-nil part), spent, over)) in
        record {
          piece = x.piece;
          more = x.more;
          first =
              ap pieces (all more (c ∙ ap (λ l. l ++ more) (append-nil part))) ∙ x.first;
          over = x.over;
        }

pub oversteps : (line final part : List ℕ) (is_ended : Bool) (limit now after : ℕ) (was_long is_long : Bool) →
    has_feed part ≡ false → length (part ++ feed_if is_ended) ≡ now + 1
    → TakesPart (Some Size) part is_ended line final limit now after was_long is_long
oversteps line final part is_ended limit now after was_long is_long e over mid new budget c None t = tt
oversteps line final part is_ended limit now after was_long is_long e over None new budget c (Some text) t = absurd t
oversteps line final part is_ended limit now after was_long is_long e over (Some rest) None budget c (Some text) t =
    absurd c
oversteps line final part is_ended limit now after was_long is_long e over (Some rest) (Some more) budget c
    (Some text) t =
    past text rest more part budget now is_ended t.taken t.cut t.within t.spent c e over

-- a read that failed, or answers that could not be handed on
pub cut_short : (old mid new : Option (List ℕ)) (line final : List ℕ) (limit budget now : ℕ) (is_long : Bool)
    → TakingKnown old mid line limit budget now is_long → Keeps mid new →
    TakesKnown old new Failed final limit budget now × TakesKnown old new Unsent final limit budget now
cut_short None mid new line final limit budget now is_long t k = (tt, tt)
cut_short (Some text) None new line final limit budget now is_long t k = absurd t
cut_short (Some text) (Some rest) None line final limit budget now is_long t k = absurd k
cut_short (Some text) (Some rest) (Some more) line final limit budget now is_long t k = (short, short)
  where
    short : IsCutShort text more budget now
    short =
        record { taken = t.taken; whole = t.cut ∙ ap (λ l. t.taken ++ l) (sym k); within = t.within; spent = t.spent }
