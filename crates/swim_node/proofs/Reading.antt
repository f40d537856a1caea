-- From a follower's notes to what it has read: a beginning of the journal's calls.
use Rattle.std.proofs.Common.{◌≡◌, inl, inr, ℕ, suc, List, [], ◌∷◌, ◌++◌, length, map, reverse, Option, Some, None}
use Rattle.std.proofs.Common.{IsSome}
use Rattle.std.proofs.Common.{refl, sym, ap, ◌∙◌, arith, slice_get, append_assoc}
use Rattle.std.specs.Option.{option_to_list}
use Rattle.std.proofs.lemmas.List.{map-append, length-append, length-reverse}
use mathlib.Core.List.{IsPrefix, reverse-cons}
use Rattle.swim_history.specs.declared.entries.Entry.{Entry}
use Rattle.swim_node.specs.Answered.{kept}
use Rattle.swim_node.specs.Cells.{Filing, Noted, noted, notes_of, ArePlaced}
use Rattle.swim_node.specs.Following.{filing_of, filings_of, note_in, known_of}
use Rattle.swim_node.proofs.Filing.{last_or_before, last_there, still_there, notes_length}
use Rattle.swim_node.proofs.Prefixes.{prefix_whole}

-- the notes of a journal's entries are those of its calls
pub notes_are : (cells : List ℕ) (h : List Entry) → notes_of cells h ≡ map (note_in cells) (filings_of h)
notes_are cells [] = refl
notes_are cells (e ∷ before) =
    ap (λ l. l ++ note_in cells (filing_of before e) ∷ []) (notes_are cells before)
    ∙ sym (map-append (note_in cells) (filings_of before) (filing_of before e ∷ []))

-- notes that stand among those of calls know a beginning of the calls
pub known_begin : (cells : List ℕ) (own : List Noted) (all : List Filing) →
    ((i : ℕ) (n : Noted) → slice_get own i ≡ Some n → slice_get (map (note_in cells) all) i ≡ Some n) →
    IsPrefix (known_of own) all
known_begin cells [] all among = (all, refl)
known_begin cells (n ∷ own) [] among = absurd (cc (among 0 n refl))
known_begin cells (n ∷ own) (f ∷ all) among =
    let first : Some (note_in cells f) ≡ Some n = among 0 n refl in
    let same : n ≡ note_in cells f = cc first in
    let rest = known_begin cells own all (λ i m is. among (suc i) m is) in
    rw same (rest.0, ap (λ l. f ∷ l) rest.1)

-- where each note knows a call there are as many calls as notes
one_known : {A : Type 0} (known : Option A) → IsSome known → length (option_to_list known) ≡ 1
one_known None is = absurd (cc is)
one_known (Some call) is = refl

pub all_known : (notes : List Noted) →
    ((place : ℕ) (n : Noted) → slice_get notes place ≡ Some n → IsSome n.known) → length (known_of notes) ≡ length notes
all_known [] known = refl
all_known (n ∷ notes) known =
    omega (
      arith,
      one_known n.known (known 0 n refl),
      all_known notes (λ place m there. known (suc place) m there),
      length-append (option_to_list n.known) (known_of notes),
    )

-- a call of each entry
pub filings_length : (h : List Entry) → length (filings_of h) ≡ length h
filings_length [] = refl
filings_length (e ∷ before) =
    omega (arith, filings_length before, length-append (filings_of before) (filing_of before e ∷ []))

-- a beginning of the calls that is as long as the history is all of them
pub whole_read : (read : List Filing) (h : List Entry) → IsPrefix read (filings_of h) → length read ≡ length h →
    read ≡ filings_of h
whole_read read h begins long = prefix_whole read (filings_of h) begins (omega (arith, filings_length h, long))

-- one more note
pub known_more : (notes : List Noted) (n : Noted) (f : Filing) → n.known ≡ Some f →
    known_of (notes ++ n ∷ []) ≡ known_of notes ++ f ∷ []
known_more [] n f is = rw is refl
known_more (m ∷ notes) n f is =
    ap (λ l. option_to_list m.known ++ l) (known_more notes n f is)
    ∙ sym (append_assoc (option_to_list m.known) (known_of notes) (f ∷ []))

-- notes are of the cells of their places, also with the next one
pub placed_more : (cells : List ℕ) (notes new : List Noted) (n : Noted) → ArePlaced cells notes → (f : Filing) →
    n ≡ note_in cells f → f.kept.position ≡ length notes → new ≡ notes ++ n ∷ [] → ArePlaced cells new
placed_more cells notes new n placed f is at is_new place m there =
    let there = rw is_new at there in
    elim (last_or_before notes n place m there) [
      | inl earlier ↦ placed place m earlier
      | inr last ↦ rw (← last.1, is, last.0, at) (refl, refl)
    ]

-- the note at a place is of the entry there
pub note_there : (cells : List ℕ) (h : List Entry) (place : ℕ) (e : Entry) → slice_get (reverse h) place ≡ Some e →
    slice_get (notes_of cells h) place ≡ Some (noted cells e.seat (kept place e.number e.call e.reply))
note_there cells [] place e is = absurd (cc is)
note_there cells (x ∷ before) place e is =
    let is = rw (reverse-cons x before) at is in
    elim (last_or_before (reverse before) x place e is) [
      | inl earlier ↦
          still_there (notes_of cells before) (note_in cells (filing_of before x)) place _
          (note_there cells before place e earlier)
      | inr last ↦
          let here : place ≡ length before = last.0 ∙ length-reverse before in
          let at : length (notes_of cells before) ≡ length before = notes_length cells before in
          let new = note_in cells (filing_of before x) in
          rw (← last.1, here)
          (ap (λ i. slice_get (notes_of cells before ++ new ∷ []) i) (sym at) ∙ last_there (notes_of cells before) new)
    ]

-- and a note that stands there is that one
pub note_is : (cells : List ℕ) (h : List Entry) (notes : List Noted) (place : ℕ) (e : Entry) (n : Noted) →
    notes ≡ notes_of cells h → slice_get notes place ≡ Some n → slice_get (reverse h) place ≡ Some e →
    n ≡ noted cells e.seat (kept place e.number e.call e.reply)
note_is cells h notes place e n are there is =
    let found = note_there cells h place e is in
    let there : slice_get (notes_of cells h) place ≡ Some n = rw are at there in
    cc (found, there)
