-- The calls of a journal at their places.
use Rattle.std.proofs.Common.{◌≡◌, inl, inr, ℕ, suc, ◌+◌, ◌≤◌, List, [], ◌∷◌, ◌++◌, length, reverse, take}
use Rattle.std.proofs.Common.{Some, None, sym, ap, ◌∙◌, arith, slice_get}
use Rattle.std.specs.Option.{option_map}
use Rattle.std.proofs.lemmas.List.{length-reverse, take_all}
use Rattle.std.proofs.lemmas.Option.{get_or_from_slice_get, slice_get_within}
use Rattle.std.proofs.Math.Seq.{take-suc}
use mathlib.Core.List.{reverse-cons}
use Rattle.swim_history.specs.declared.entries.Entry.{Entry}
use Rattle.swim_history.specs.Called.{called_of}
use Rattle.swim_history.specs.Laws.Called.{called_all}
use Rattle.swim_node.specs.Answered.{kept}
use Rattle.swim_node.specs.Following.{filing_of, filings_of}
use Rattle.swim_node.proofs.Filing.{last_or_before, last_there, still_there}
use Rattle.swim_node.proofs.Reading.{filings_length}

-- where there is no entry the journal is over
pub none_beyond : (h : List Entry) (place : ℕ) → None ≡ option_map called_of (slice_get (reverse h) place) →
    length h ≤ place
none_beyond h place is = rw (← length-reverse h) (called_all (reverse h) place is)

-- the call of an entry is at the entry's place
pub call_there : (h : List Entry) (place : ℕ) (e : Entry) → slice_get (reverse h) place ≡ Some e →
    slice_get (filings_of h) place ≡ Some (record { seat = e.seat; kept = kept place e.number e.call e.reply })
call_there [] place e is = absurd (cc is)
call_there (x ∷ before) place e is =
    let is = rw (reverse-cons x before) at is in
    elim (last_or_before (reverse before) x place e is) [
      | inl earlier ↦
          still_there (filings_of before) (filing_of before x) place _ (call_there before place e earlier)
      | inr last ↦
          let here : place ≡ length before = last.0 ∙ length-reverse before in
          let at : length (filings_of before) ≡ length before = filings_length before in
          rw (← last.1, here)
          (ap (λ i. slice_get (filings_of before ++ filing_of before x ∷ []) i) (sym at)
          ∙ last_there (filings_of before) (filing_of before x))
    ]

-- one call more
pub taken_more : {A : Type 0} (xs : List A) (i : ℕ) (x : A) → slice_get xs i ≡ Some x →
    take i xs ++ x ∷ [] ≡ take (i + 1) xs
taken_more xs i x is =
    let e : i + 1 ≡ suc i = omega arith in
    sym (ap (λ n. take n xs) e ∙ take-suc xs i x (slice_get_within xs i x is)
    ∙ ap (λ y. take i xs ++ y ∷ []) (get_or_from_slice_get xs i x x is))

-- all of them
pub taken_all : (h : List Entry) (place : ℕ) → length h ≤ place → take place (filings_of h) ≡ filings_of h
taken_all h place over =
    let long = filings_length h in take_all place (filings_of h) (omega (arith, long, over))
