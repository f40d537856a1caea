-- What contracts see of a source in memory that fails where a test wants it to.
use Rattle.std.specs.Prelude.{◌≡◌, ℕ, ◌<◌, ◌≤◌, Bool, true, false, not, ◌==◌, List, [], ◌∷◌, length, take, drop}
use Rattle.std.specs.Prelude.{slice_index}
use Rattle.std.specs.Prelude.{Option, Some, None, cond, refl}
use Rattle.std.specs.Io.{StartsWith}
use Rattle.std.specs.Option.{is_some}
use Rattle.std.specs.Io.BufRead.{take_through}
use Rattle.std.proofs.Common.{zero, suc, sym, ap, ◌∙◌, arith}
use Rattle.std.proofs.lemmas.List.{take_all, length-take}
use Rattle.swim_text.specs.declared.streams.Byte.{Byte}
use Rattle.swim_text.specs.declared.streams.Byte.TheVariants.{One, End, Fault}

-- the bytes left, whether the last byte given was inside a line, the calls before the one that fails, and how many
-- failed
pub record TextState : Type 0 where
  pub left : List ℕ
  pub in_line : Bool
  pub fails_in : Option ℕ
  pub failures : ℕ

-- some bytes of a line were given, and the last one did not end it
abbrev pub is_in_line : Byte → Bool
is_in_line (One b) = not (b == 10)
is_in_line End = false
is_in_line Fault = false

-- what a text can give at once: within a line the rest of it, unless a call is yet to fail
abbrev pub ready_at : Option ℕ → Bool → List ℕ → List ℕ
ready_at None true left = take_through 10 left
ready_at None false left = []
ready_at (Some calls) in_line left = []

abbrev pub ready_of : TextState → List ℕ
ready_of t = ready_at t.fails_in t.in_line t.left

-- ---- laws

-- bytes of the line are bytes of the text
take_line : (left : List ℕ) (count : ℕ) → count ≤ length (take_through 10 left) → take count (take_through 10 left) ≡
    take count left
take_line left zero fits = refl
take_line [] (suc count) fits = refl
take_line (b ∷ left) (suc count) fits = by (b == 10) fits (take_line left count) where
  by : (c : Bool) → suc count ≤ length (cond c (b ∷ []) (b ∷ take_through 10 left)) →
      (count ≤ length (take_through 10 left) → take count (take_through 10 left) ≡ take count left)
      → take (suc count) (cond c (b ∷ []) (b ∷ take_through 10 left)) ≡ b ∷ take count left
  by true fits again = none count (omega arith) where
    none : (n : ℕ) → n ≤ 0 → take (suc n) (b ∷ []) ≡ b ∷ take n left
    none zero h = refl
    none (suc n) h = absurd (omega arith)
  by false fits again = ap (λ l. b ∷ l) (again (omega arith))

pub take_ready : (fails_in : Option ℕ) (in_line : Bool) (left : List ℕ) (count : ℕ) →
    count ≤ length (ready_at fails_in in_line left) → take count (ready_at fails_in in_line left) ≡ take count left
take_ready None true left count fits = take_line left count fits
take_ready None false left zero fits = refl
take_ready None false left (suc count) fits = absurd (omega arith)
take_ready (Some calls) in_line left zero fits = refl
take_ready (Some calls) in_line left (suc count) fits = absurd (omega arith)

-- where bytes are left, and no call is yet to fail, some are ready within a line
pub ready_within : (fails_in : Option ℕ) (left : List ℕ) → false ≡ is_some fails_in → false ≡ (length left == 0) →
    0 < length (ready_at fails_in true left)
ready_within None [] none some = absurd (cc some)
ready_within None (b ∷ left) none some = by (b == 10) where
  by : (c : Bool) → 0 < length (cond c (b ∷ []) (b ∷ take_through 10 left))
  by true = omega arith
  by false = omega arith
ready_within (Some calls) left none some = absurd (cc none)

pub ready_front : (fails_in : Option ℕ) (in_line : Bool) (left : List ℕ) →
    StartsWith left (ready_at fails_in in_line left)
ready_front fails_in in_line left =
    let ready = ready_at fails_in in_line left in
    sym (take_ready fails_in in_line left (length ready) (omega arith)) ∙ take_all (length ready) ready (omega arith)

pub length_ready : (fails_in : Option ℕ) (in_line : Bool) (left : List ℕ) →
    length (ready_at fails_in in_line left) ≤ length left
length_ready fails_in in_line left =
    let ready = ready_at fails_in in_line left in
    omega (arith, ap length (ready_front fails_in in_line left), length-take (length ready) left)

-- what is left of the line after some bytes of it
drop_line : (left : List ℕ) (last : ℕ) → suc last ≤ length (take_through 10 left) →
    ready_at None (not (slice_index left last == 10)) (drop (suc last) left) ≡ drop (suc last) (take_through 10 left)
drop_line [] last fits = absurd (omega arith)
drop_line (b ∷ left) zero fits = by (b == 10) where
  by : (c : Bool) → ready_at None (not c) left ≡ drop 1 (cond c (b ∷ []) (b ∷ take_through 10 left))
  by true = refl
  by false = refl
drop_line (b ∷ left) (suc last) fits = by (b == 10) fits (drop_line left last) where
  after : List ℕ
  after = ready_at None (not (slice_index left last == 10)) (drop (suc last) left)

  by : (c : Bool) → suc (suc last) ≤ length (cond c (b ∷ []) (b ∷ take_through 10 left)) →
      (suc last ≤ length (take_through 10 left) → after ≡ drop (suc last) (take_through 10 left))
      → after ≡ drop (suc (suc last)) (cond c (b ∷ []) (b ∷ take_through 10 left))
  by true fits again = absurd (omega arith)
  by false fits again = again (omega arith)

pub drop_ready : (fails_in : Option ℕ) (in_line : Bool) (left : List ℕ) (last count : ℕ) → count ≡ suc last →
    count ≤ length (ready_at fails_in in_line left)
    → ready_at fails_in (not (slice_index left last == 10)) (drop count left) ≡ drop count
    (ready_at fails_in in_line left)
drop_ready None true left last count is fits = rw is (drop_line left last (omega (arith, is)))
drop_ready None false left last count is fits = absurd (omega arith)
drop_ready (Some calls) in_line left last count is fits = absurd (omega arith)
