-- From event to event: what is kept of what was heard.
use Rattle.std.proofs.Common.{◌≡◌, ℕ, Bool, List, [], ◌∷◌, ◌++◌, Option, Some, None, refl, sym, ap, ◌∙◌}
use Rattle.std.proofs.Common.{append_assoc}
use Rattle.std.proofs.Common.{append-nil, length, map, suc, ◌-◌}
use Rattle.swim_web.specs.Changes.{changes_text}
use Rattle.swim_web.specs.Recent.{Kept, Notes, events_text, kept_then, noted, seen_of}
use Rattle.swim_trail.specs.Growing.{Grows, grows_both, grows_none}

noted_more : (kept : Kept) (lines : List (List ℕ)) (line : List ℕ) →
    noted kept (lines ++ line ∷ []) ≡ kept_then (noted kept lines) line
noted_more kept [] line = refl
noted_more kept (x ∷ lines) line = noted_more (kept_then kept x) lines line

pub notes_none : (o : Option (List (List ℕ))) (kept : Kept) → Notes o o kept kept
notes_none o kept = record { lines = []; heard = grows_none o; kept = refl }

pub notes_more : (o m n : Option (List (List ℕ))) (old mid new : Kept) (line : List ℕ) → Notes o m old mid →
    Grows m n (line ∷ []) → new ≡ kept_then mid line → Notes o n old new
notes_more o m n old mid new line before grows is = record {
  lines = before.lines ++ line ∷ [];
  heard = grows_both o m n before.lines (line ∷ []) before.heard grows;
  kept = is ∙ ap (λ k. kept_then k line) before.kept ∙ sym (noted_more old before.lines line);
}

noted_both : (kept : Kept) (first second : List (List ℕ)) →
    noted kept (first ++ second) ≡ noted (noted kept first) second
noted_both kept [] second = refl
noted_both kept (line ∷ first) second = noted_both (kept_then kept line) first second

pub notes_both : (o m n : Option (List (List ℕ))) (old mid new : Kept) → Notes o m old mid → Notes m n mid new →
    Notes o n old new
notes_both o m n old mid new p q = record {
  lines = p.lines ++ q.lines;
  heard = grows_both o m n p.lines q.lines p.heard q.heard;
  kept = q.kept ∙ ap (λ k. noted k q.lines) p.kept ∙ sym (noted_both old p.lines q.lines);
}

pub notes_end : (o m n : Option (List (List ℕ))) (old mid : Kept) → Notes o m old mid → Grows m n [] → Notes o n old mid
notes_end o m n old mid before grows = record {
  lines = before.lines ++ [];
  heard = grows_both o m n before.lines [] before.heard grows;
  kept = before.kept ∙ ap (noted old) (sym (append-nil before.lines));
}

-- ---- the stream of what is kept

map_length : {A B : Type 0} (f : A → B) (xs : List A) → length (map f xs) ≡ length xs
map_length f [] = refl
map_length f (x ∷ xs) = ap suc (map_length f xs)

pub stream_is : {A : Type 0} (f : A → List ℕ) (kept : Kept) (told : ℕ) (xs slice : List A)
    (number seen first count : ℕ) →
    kept ≡ record { told = told; lines = map f xs } → seen ≡ seen_of told number → first ≡ told - count →
    count ≡ length xs → slice ≡ xs →
    events_text seen first (map f slice)
    ≡ events_text (seen_of kept.told number) (kept.told - length kept.lines) kept.lines
stream_is f kept told xs slice number seen first count is seen_is first_is count_is slice_is =
    rw (is, seen_is, first_is, count_is, slice_is, map_length f xs) refl

-- ---- what is kept as JSON

pub changes_are : {A : Type 0} (f : A → List ℕ) (kept : Kept) (told : ℕ) (xs slice : List A) (is_explained : Bool) →
    kept ≡ record { told = told; lines = map f xs } → slice ≡ xs →
    changes_text is_explained (map f slice) ≡ changes_text is_explained kept.lines
changes_are f kept told xs slice is_explained is slice_is = rw (is, slice_is) refl
