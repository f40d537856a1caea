-- What contracts see of a source and a sink that stand over std's readers and writers.
use Rattle.std.specs.Prelude.{◌≡◌, ℕ, ◌+◌, ◌-◌, ◌≤◌, List, ◌++◌, length, take, drop, slice_range, Option, None, Some}
use Rattle.std.specs.Prelude.{refl}
use Rattle.std.proofs.Common.{sym, ap, ◌∙◌, append_assoc, take-append-drop, arith}
use Rattle.std.proofs.lemmas.List.{drop-take, drop-drop}
use Rattle.std.specs.Io.KnownBytes.{Consumes, prepend_known, append_known}

-- the bytes that wait in a buffer, and how many more there is room for
pub record Waiting : Type 0 where
  pub held : List ℕ
  pub room : ℕ

-- a reader, the bytes read from it and not yet given, and how many reads failed
pub record Reading (R : Type 0) : Type 0 where
  pub reader : R
  pub buffered : List ℕ
  pub failures : ℕ

-- a writer, the bytes put and not yet written to it, for how many more there is room, and how many puts and flushes
-- failed
pub record Writing (W : Type 0) : Type 0 where
  pub writer : W
  pub buffered : List ℕ
  pub room : ℕ
  pub failures : ℕ

-- the bytes left: those buffered, and then the reader's
abbrev pub left_of : {R : Type 0} → (R → Option (List ℕ)) → Reading R → Option (List ℕ)
left_of remaining s = prepend_known s.buffered (remaining s.reader)

-- the bytes written: the writer's, and then those buffered
abbrev pub written_of : {W : Type 0} → (W → Option (List ℕ)) → Writing W → Option (List ℕ)
written_of contents s = append_known (contents s.writer) s.buffered

-- the sink with a text more behind the bytes that it holds back
abbrev pub with_text : {W : Type 0} → Writing W → List ℕ → Writing W
with_text s text =
    record { writer = s.writer; buffered = s.buffered ++ text; room = s.room - length text; failures = s.failures }

-- ---- laws

-- a range without its first elements
pub drop_range : (xs : List ℕ) (start end count : ℕ) → start + count ≤ end → slice_range xs (start + count) end ≡
    drop count (slice_range xs start end)
drop_range xs start end count fits =
    let e : end - start ≡ count + (end - (start + count)) = omega arith in
    rw (e, drop-take, drop-drop) refl

-- the first of the buffered bytes are taken, and the reader is let be
pub skips : (remaining : Option (List ℕ)) (held : List ℕ) (count : ℕ) → Consumes (prepend_known held remaining)
    (prepend_known (drop count held) remaining) (take count held)
skips None held count = tt
skips (Some rest) held count =
    ap (λ l. l ++ rest) (sym (take-append-drop count held)) ∙ append_assoc (take count held) (drop count held) rest
