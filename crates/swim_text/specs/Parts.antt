-- A text cut in two at a byte.
use Rattle.std.specs.Prelude.{◌≡◌, ℕ, zero, suc, ◌<◌, ◌≤◌, Bool, true, false, ◌==◌, List, [], ◌∷◌, ◌++◌, length, take}
use Rattle.std.specs.Prelude.{slice_index, ◌||◌, Option, Some, None, MatchOption, if◌then◌else◌}
use Rattle.std.specs.List.{list_any}
use Rattle.std.specs.Option.{option_map}
use Rattle.std.specs.Io.BufRead.{take_through}
use Rattle.std.proofs.Common.{cond, eqb, refl, sym, ap, ◌∙◌, append_assoc, arith}
use Rattle.std.proofs.Math.Seq.{take-append_seam}
use Rattle.std.proofs.lemmas.Bool.{or_parts, eq-eqb, eqb-true}

-- the byte is in the text
abbrev pub has : ℕ → List ℕ → Bool
has byte text = list_any (λ b. b == byte) text

-- what stands before the first such byte, and what stands after it
abbrev pub cut : ℕ → List ℕ → Option (List ℕ × List ℕ)
cut byte [] = None
cut byte (b ∷ text) =
    if b == byte then Some ([], text) else option_map (λ parts. (b ∷ parts.0, parts.1)) (cut byte text)

-- the byte is not in a front of the text where it is at none of its places
pub has_none : (byte : ℕ) (text : List ℕ) (count : ℕ) →
    ((k : ℕ) → k < count → eqb (slice_index text k) byte ≡ true → ⊥) → count ≤ length text →
    has byte (take count text) ≡ false
has_none byte text zero none fits = refl
has_none byte [] (suc count) none fits = absurd (omega arith)
has_none byte (b ∷ text) (suc count) none fits =
    by (eqb b byte) (none 0 (omega arith))
    (has_none byte text count (λ k below. none (suc k) (omega arith)) (omega arith)) where
      by : (here : Bool) → (here ≡ true → ⊥) → has byte (take count text) ≡ false →
          (here || has byte (take count text)) ≡ false
      by true never rest = absurd (never refl)
      by false never rest = rest

-- the first such byte is the one that no other stands before
pub cut_at : (byte : ℕ) (before after : List ℕ) → has byte before ≡ false → cut byte (before ++ byte ∷ after) ≡ Some
    (before, after)
cut_at byte [] after none = rw (eq-eqb byte byte refl) refl
cut_at byte (b ∷ before) after none =
    let parts = or_parts (eqb b byte) (has byte before) none in
    rw (parts.0, cut_at byte before after parts.1) refl

-- a text without the byte isn't cut
pub cut_none : (byte : ℕ) (text : List ℕ) → has byte text ≡ false → cut byte text ≡ None
cut_none byte [] none = refl
cut_none byte (b ∷ text) none =
    let parts = or_parts (eqb b byte) (has byte text) none in
    rw (parts.0, cut_none byte text parts.1) refl

-- a text that isn't cut is without the byte, and so is the first part
pub first_free : (byte : ℕ) (text : List ℕ) → MatchOption {T = List ℕ × List ℕ} (cut byte text) (has byte text ≡ false)
    (λ parts. has byte parts.0 ≡ false)
first_free byte [] = refl
first_free byte (b ∷ text) = by (eqb b byte) (cut byte text) refl (first_free byte text) where
  by : (here : Bool) (later : Option (List ℕ × List ℕ)) → eqb b byte ≡ here → MatchOption {T = List ℕ × List ℕ} later
      (has byte text ≡ false) (λ p. has byte p.0 ≡ false)
      → MatchOption {T = List ℕ × List ℕ} (cond here (Some ([], text)) (option_map (λ p. (b ∷ p.0, p.1)) later))
      ((here || has byte text) ≡ false) (λ p. has byte p.0 ≡ false)
  by true later h again = refl
  by false None h again = again
  by false (Some p) h again = rw h again

-- the two parts with the byte between them are the text
pub cut_joined : (byte : ℕ) (text : List ℕ) (parts : List ℕ × List ℕ) → cut byte text ≡ Some parts →
    text ≡ parts.0 ++ byte ∷ parts.1
cut_joined byte [] parts e = absurd cc
cut_joined byte (b ∷ text) parts e = by (eqb b byte) (cut byte text) refl refl (cut_joined byte text) e where
  by : (here : Bool) (later : Option (List ℕ × List ℕ)) → eqb b byte ≡ here → cut byte text ≡ later →
      ((p : List ℕ × List ℕ) → cut byte text ≡ Some p → text ≡ p.0 ++ byte ∷ p.1)
      → cond here (Some ([], text)) (option_map (λ p. (b ∷ p.0, p.1)) later) ≡ Some parts →
      b ∷ text ≡ parts.0 ++ byte ∷ parts.1
  by true later h g again given =
      let is : ([], text) ≡ parts = cc in
      rw (← is) (ap (λ x. x ∷ text) (eqb-true b byte h))
  by false None h g again given = absurd cc
  by false (Some p) h g again given =
      let is : (b ∷ p.0, p.1) ≡ parts = cc in
      rw (← is) (ap (λ (rest : List ℕ). b ∷ rest) (again p g))

-- the first part with the byte behind it is the front of the text
pub first_with : (byte : ℕ) (text : List ℕ) (parts : List ℕ × List ℕ) → cut byte text ≡ Some parts →
    take (length (parts.0 ++ byte ∷ [])) text ≡ parts.0 ++ byte ∷ []
first_with byte text parts e =
    let piece = parts.0 ++ byte ∷ [] in
    ap (take (length piece)) (cut_joined byte text parts e ∙ sym (append_assoc parts.0 (byte ∷ []) parts.1))
    ∙ take-append_seam piece parts.1

-- std's word for the first part with the byte, or the whole text
pub through_first : (byte : ℕ) (text : List ℕ) → MatchOption {T = List ℕ × List ℕ} (cut byte text)
    (take_through byte text ≡ text) (λ parts. take_through byte text ≡ parts.0 ++ byte ∷ [])
through_first byte [] = refl
through_first byte (b ∷ text) = by (eqb b byte) (cut byte text) refl (through_first byte text) where
  by : (here : Bool) (later : Option (List ℕ × List ℕ)) → eqb b byte ≡ here → MatchOption {T = List ℕ × List ℕ} later
      (take_through byte text ≡ text) (λ p. take_through byte text ≡ p.0 ++ byte ∷ [])
      → MatchOption {T = List ℕ × List ℕ} (cond here (Some ([], text)) (option_map (λ p. (b ∷ p.0, p.1)) later))
      (cond here (b ∷ []) (b ∷ take_through byte text) ≡ b ∷ text)
      (λ p. cond here (b ∷ []) (b ∷ take_through byte text) ≡ p.0 ++ byte ∷ [])
  by true later h again = ap (λ x. x ∷ []) (eqb-true b byte h)
  by false None h again = ap (λ l. b ∷ l) again
  by false (Some p) h again = ap (λ l. b ∷ l) again
