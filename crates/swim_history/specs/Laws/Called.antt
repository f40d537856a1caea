-- The calls and replies of a journal, gone through in order, oldest entry first.
use Rattle.std.proofs.Common.{◌≡◌, inl, inr, ℕ, ◌+◌, ◌≤◌, List, ◌∷◌, Option, Some, None, length, take, reverse, refl}
use Rattle.std.proofs.Common.{sym, ap, ◌∙◌, slice_get}
use Rattle.std.specs.Option.{option_map}
use Rattle.std.proofs.lemmas.Option.{get_or_from_slice_get, slice_get_cases, slice_get_within}
use Rattle.swim_history.specs.declared.entries.Called.{Called}
use Rattle.swim_history.specs.declared.entries.Choice.{Choice}
use Rattle.swim_history.specs.declared.entries.Entry.{Entry}
use Rattle.swim_history.specs.Called.{called_of, entry_of}
use Rattle.swim_history.specs.Laws.InOrder.{past_more}

-- a call with its reply is that of an entry
pub called_there : (found : Option Entry) (c : Called) → Some c ≡ option_map called_of found →
    (choice : Choice) × (Some (entry_of c choice) ≡ found)
called_there None c is = absurd (cc is)
called_there (Some e) c is =
    let same : c ≡ called_of e = cc is in
    (e.choice, ap (λ (x : Called). Some (entry_of x e.choice)) same)

-- by the next one there is one entry more
pub called_next : (entries : List Entry) (i : ℕ) (c : Called) → Some c ≡ option_map called_of (slice_get entries i) →
    (choice : Choice) × (reverse (take (i + 1) entries) ≡ entry_of c choice ∷ reverse (take i entries))
called_next entries i c is =
    let found = called_there (slice_get entries i) c is in
    let e = entry_of c found.0 in
    let there = sym found.1 in
    let same = get_or_from_slice_get entries i e e there in
    let more = past_more entries i e (slice_get_within entries i e there) in
    (found.0, more ∙ ap (λ (x : Entry). x ∷ reverse (take i entries)) same)

-- and where there is none, the journal is over
none_called : (found : Option Entry) → None ≡ option_map called_of found → found ≡ None
none_called None is = refl
none_called (Some e) is = absurd (cc is)

pub called_all : (entries : List Entry) (i : ℕ) → None ≡ option_map called_of (slice_get entries i) → length entries ≤ i
called_all entries i is =
    let none = none_called (slice_get entries i) is in
    elim (slice_get_cases entries i).1 [
      | inl found ↦ absurd (cc (none, found.2))
      | inr past ↦ past.0
    ]
