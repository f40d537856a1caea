-- From notes of cells to the calls of a journal: as many calls as a seat has entries, numbered in order, each of which
-- stands in the cell of its place, are those entries.
use Rattle.std.proofs.Common.{◌≡◌, ◌⊎◌, inl, inr, ℕ, zero, suc, ◌==◌, Bool, true, false, List, [], ◌∷◌, ◌++◌, length}
use Rattle.std.proofs.Common.{map, Some, refl, sym, ap, ◌∙◌, arith, length-append, slice_get}
use Rattle.std.proofs.lemmas.Bool.{eq-eqb}
use Rattle.std.proofs.lemmas.List.{map-append}
use Rattle.std.proofs.lemmas.Option.{slice_get_within}
use Rattle.swim_history.specs.declared.entries.Entry.{Entry}
use Rattle.swim_history.specs.declared.seats.Kept.{Kept}
use Rattle.swim_history.specs.Setting.{Setting}
use Rattle.swim_history.specs.Run.{calls_of, IsRun}
use Rattle.swim_history.specs.Seats.{kept_of}
use Rattle.swim_node.specs.Answered.{kept}
use Rattle.swim_node.specs.Cells.{Noted, noted, notes_of, ArePlaced, AreNumbered, AreNoted}

-- what stands in a list with one more is the last, or stood there before
pub last_or_before : {X : Type 0} (xs : List X) (x : X) (i : ℕ) (y : X) → slice_get (xs ++ x ∷ []) i ≡ Some y →
    (slice_get xs i ≡ Some y) ⊎ ((i ≡ length xs) × (x ≡ y))
last_or_before [] x zero y is = inr (refl, cc is)
last_or_before [] x (suc i) y is = absurd (cc is)
last_or_before (z ∷ xs) x zero y is = inl is
last_or_before (z ∷ xs) x (suc i) y is =
    elim (last_or_before xs x i y is) [ inl before ↦ inl before | inr last ↦ inr (omega (arith, last.0), last.1) ]

-- and what stood there still does
pub still_there : {X : Type 0} (xs : List X) (x : X) (i : ℕ) (y : X) → slice_get xs i ≡ Some y →
    slice_get (xs ++ x ∷ []) i ≡ Some y
still_there [] x i y is = absurd (cc is)
still_there (z ∷ xs) x zero y is = is
still_there (z ∷ xs) x (suc i) y is = still_there xs x i y is

pub last_there : {X : Type 0} (xs : List X) (x : X) → slice_get (xs ++ x ∷ []) (length xs) ≡ Some x
last_there [] x = refl
last_there (z ∷ xs) x = last_there xs x

-- lists of one length that agree wherever the first has something are the same
same_lists : {X : Type 0} (xs ys : List X) → length xs ≡ length ys →
    ((i : ℕ) (x : X) → slice_get xs i ≡ Some x → slice_get ys i ≡ Some x) → xs ≡ ys
same_lists [] [] long agree = refl
same_lists [] (y ∷ ys) long agree = absurd (omega (arith, long))
same_lists (x ∷ xs) [] long agree = absurd (omega (arith, long))
same_lists (x ∷ xs) (y ∷ ys) long agree =
    let first : Some y ≡ Some x = agree 0 x refl in
    let rest = same_lists xs ys (omega (arith, long)) (λ i z is. agree (suc i) z is) in
    cc (first, rest)

same_some : {X : Type 0} (x y : X) → Some x ≡ Some y → x ≡ y
same_some x y is = cc is

-- a seat has as many calls as entries
kept_length : (seat : ℕ) (e : Entry) (before : List Entry) (own : Bool) → (e.seat == seat) ≡ own →
    length (kept_of seat before) ≡ calls_of seat before →
    length (kept_of seat (e ∷ before)) ≡ calls_of seat (e ∷ before)
kept_length seat e before true is rest =
    rw is (omega (arith, rest, length-append (kept_of seat before) (kept (length before) e.number e.call e.reply ∷ [])))
kept_length seat e before false is rest = rw is rest

length-kept_of : (seat : ℕ) (h : List Entry) → length (kept_of seat h) ≡ calls_of seat h
length-kept_of seat [] = refl
length-kept_of seat (e ∷ before) = kept_length seat e before (e.seat == seat) refl (length-kept_of seat before)

kept_still : (seat : ℕ) (e : Entry) (before : List Entry) (i : ℕ) (k : Kept) (own : Bool) → (e.seat == seat) ≡ own →
    slice_get (kept_of seat before) i ≡ Some k → slice_get (kept_of seat (e ∷ before)) i ≡ Some k
kept_still seat e before i k true is there =
    rw is (still_there (kept_of seat before) (kept (length before) e.number e.call e.reply) i k there)
kept_still seat e before i k false is there = rw is there

-- a call that stands in the cell of an entry is among those of its seat, at its number
filed_there : (o : Setting) (cells : List ℕ) (seat : ℕ) (h : List Entry) → IsRun o h → (place : ℕ) (k : Kept) →
    slice_get (notes_of cells h) place ≡ Some (noted cells seat k) → slice_get (kept_of seat h) k.number ≡ Some k
filed_there o cells seat [] run place k there = absurd (cc there)
filed_there o cells seat (e ∷ before) run place k there =
    let newest = kept (length before) e.number e.call e.reply in
    elim (last_or_before (notes_of cells before) (noted cells e.seat newest) place (noted cells seat k) there) [
      | inl earlier ↦ kept_still seat e before k.number k (e.seat == seat) refl
          (filed_there o cells seat before run.1 place k earlier)
      | inr last ↦
          let filed = same_some _ _ (ap (λ n. n.known) last.1) in
          let own : e.seat ≡ seat = ap (λ f. f.seat) filed in
          let same : newest ≡ k = ap (λ f. f.kept) filed in
          let list : kept_of seat (e ∷ before) ≡ kept_of seat before ++ newest ∷ [] =
          rw (eq-eqb e.seat seat own) refl in
          let number : k.number ≡ length (kept_of seat before) = sym (ap (λ (c : Kept). c.number) same) ∙ run.0.number ∙
          ap (λ s. calls_of s before) own ∙ sym (length-kept_of seat before) in
          ap (λ l. slice_get l k.number) list ∙ ap (λ i. slice_get (kept_of seat before ++ newest ∷ []) i) number ∙
          last_there (kept_of seat before) newest ∙ ap (λ c. Some c) same
    ]

-- so a seat's calls are the journal's
pub hold_calls : (o : Setting) (cells : List ℕ) (h : List Entry) (seat : ℕ) (calls : List Kept) → IsRun o h →
    length calls ≡ calls_of seat h → AreNumbered calls → AreNoted cells seat calls (notes_of cells h) (length calls) →
    calls ≡ kept_of seat h
hold_calls o cells h seat calls run count numbered known =
    same_lists calls (kept_of seat h) (count ∙ sym (length-kept_of seat h)) (λ i k is.
    ap (λ n. slice_get (kept_of seat h) n) (sym (numbered i k is)) ∙
    filed_there o cells seat h run k.position k (known i k (slice_get_within calls i k is) is))

pub notes_length : (cells : List ℕ) (h : List Entry) → length (notes_of cells h) ≡ length h
notes_length cells [] = refl
notes_length cells (e ∷ before) =
    omega (
      arith,
      notes_length cells before,
      length-append (notes_of cells before) (noted cells e.seat (kept (length before) e.number e.call e.reply) ∷ []),
    )

-- the notes of a journal's entries are each of the cell of its place
pub placed_notes : (cells : List ℕ) (h : List Entry) → ArePlaced cells (notes_of cells h)
placed_notes cells [] place n there = absurd (cc there)
placed_notes cells (e ∷ before) place n there =
    elim (last_or_before (notes_of cells before) (noted cells e.seat (kept (length before) e.number e.call e.reply))
    place n there) [
      | inl earlier ↦ placed_notes cells before place n earlier
      | inr last ↦
          let here : place ≡ length before = last.0 ∙ notes_length cells before in
          rw (← last.1, here) (refl, refl)
    ]

-- one more call, with the next number
pub numbered_then : (calls new : List Kept) (k : Kept) → AreNumbered calls → new ≡ calls ++ k ∷ [] →
    k.number ≡ length calls → AreNumbered new
numbered_then calls new k numbered is_new is_next number other there =
    let there = rw is_new at there in
    elim (last_or_before calls k number other there) [
      | inl earlier ↦ numbered number other earlier
      | inr last ↦ sym (ap (λ (c : Kept). c.number) last.1) ∙ is_next ∙ sym last.0
    ]

-- and with its note
pub noted_then : (cells : List ℕ) (seat : ℕ) (calls new : List Kept) (k : Kept) (old now : List Noted) (note : Noted) →
    new ≡ calls ++ k ∷ [] → old ≡ map (noted cells seat) calls → note ≡ noted cells seat k → now ≡ old ++ note ∷ []
    → now ≡ map (noted cells seat) new
noted_then cells seat calls new k old now note is_new is_old is_note is_now =
    rw (is_now, is_old, is_note, is_new) (sym (map-append (noted cells seat) calls (k ∷ [])))

-- one more entry, with its note
pub notes_then : (cells : List ℕ) (h new : List Entry) (e : Entry) (k : Kept) (old now : List Noted) (note : Noted) →
    new ≡ e ∷ h → old ≡ notes_of cells h → k ≡ kept (length h) e.number e.call e.reply → note ≡ noted cells e.seat k →
    now ≡ old ++ note ∷ []
    → now ≡ notes_of cells new
notes_then cells h new e k old now note is_new is_old is_k is_note is_now =
    rw (is_now, is_old, is_note, is_k, is_new) refl
