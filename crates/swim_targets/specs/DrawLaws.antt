-- A seeded chooser always answers, with an order of the ids or with a place up to the last, and the words that are
-- left are those of a later state of the generator. The words to come determine both.
use Rattle.std.proofs.Common.{◌≡◌, ℕ, zero, suc, ◌+◌, ◌-◌, ◌*◌, ◌/◌, ◌%◌, ◌^◌, ◌<◌, ◌≤◌, ◌==◌, Bool, true, false}
use Rattle.std.proofs.Common.{if◌then◌else◌, nat_lt, nat_le, List, length, swap, refl, sym, ap, subst, ◌∙◌, inl, inr}
use Rattle.std.proofs.Common.{arith}
use Rattle.std.proofs.Math.Nat.{mod-lt, mul_comm, mul-lt-mul_of_pos_right}
use Rattle.std.proofs.lemmas.Bool.{cases_lt, eqb-true, eqb-false, ne_eqb, lt-ltb}
use Rattle.std.proofs.lemmas.Nat.{div_below}
use Rattle.std.proofs.lemmas.List.Sorted.{IsPermutation-refl, IsPermutation-trans, IsPermutation-swap}
use Rattle.std.proofs.lemmas.List.Sorted.{length_permutation}
use Rattle.std.specs.Prelude.{IsPermutation}
use Rattle.rand_core.specs.Stream.{Stream, next_u32}
use Rattle.rand_core.specs.Steps.{steps_u32}
use Rattle.rand_core.proofs.StepsLemmas.{next_u32-stream_of}
use Rattle.rand_chacha.specs.Block.{block_word}
use Rattle.rand_chacha.specs.ChaCha.{ChaCha, next_word}
use Rattle.rand.specs.Shuffle.{rising, grow, chunk_of, Chooser, chooser_at, chooser_refill, chooser_next, narrow_swaps}
use Rattle.rand.specs.Shuffle.{shuffled}
use Rattle.rand.specs.Uniform.{canon, below_or_word}
use Rattle.rand.proofs.ShuffleLemmas.{rising_more, rising_one, rising_positive, grow_stops, grow_goes, rest_below}
use Rattle.rand.proofs.ShuffleLemmas.{last_below, narrow_none, narrow_next}
use Rattle.rand.proofs.UniformLemmas.{canon_plain, canon_carried, carry_room, if_below}
use Rattle.swim_targets.specs.Draws.{words_of, HaveSameWords, DrawsOrder, DrawsPlace}

-- ---- a number below a bound

word_fits : (g : ChaCha) → (next_word 10 g).0 < 2 ^ 32
unfolding block_word
word_fits g = mod-lt _ (omega arith)

-- the words after a word are those of the next state
next_is : (g : ChaCha) → ((next_word 10 g).0, words_of (next_word 10 g).1) ≡ next_u32 (words_of g)
next_is g = sym (next_u32-stream_of (steps_u32 (next_word 10)) g)

-- a product of a word has a high word and a low one
parts : (x : ℕ) → x / 2 ^ 32 * 2 ^ 32 + x % 2 ^ 32 ≡ x
parts x = omega arith

remainder : (x : ℕ) → x % 2 ^ 32 < 2 ^ 32
remainder x = omega arith

-- a number below range, drawn from the words of g
record HasNumber (range : ℕ) (g : ChaCha) : Type 0 where
  number : ℕ
  after : ChaCha
  below : number < range
  drawn : (number, words_of after) ≡ canon (2 ^ 32) next_u32 range (words_of g)

number_drawn : (range : ℕ) (g : ChaCha) → 0 < range → range ≤ 2 ^ 32 → HasNumber range g
number_drawn range g some fits =
    let first = next_word 10 g in
    let second = next_word 10 first.1 in
    let x = first.0 * range in
    let y = second.0 * range in
    let high = x / 2 ^ 32 in
    let below : high < range = div_below x (2 ^ 32) range (omega arith)
    (rw (mul_comm range (2 ^ 32)) (mul-lt-mul_of_pos_right (word_fits g) some)) in
    elim (cases_lt (2 ^ 32 - range) (x % 2 ^ 32)) [
      | inl carried ↦
          let room : high + 1 < range =
          carry_room (2 ^ 32) range first.0 high (x % 2 ^ 32) (word_fits g) (parts x) carried fits in
          let carries = nat_le (2 ^ 32) (x % 2 ^ 32 + y / 2 ^ 32) in
          record {
            number = if carries then high + 1 else high;
            after = second.1;
            below = if_below carries (if carries then high + 1 else high) (high + 1) high range refl room below;
            drawn = canon_carried (2 ^ 32) range next_u32 (words_of g) (words_of first.1)
                (words_of second.1) first.0 second.0 high (x % 2 ^ 32) (y / 2 ^ 32) (y % 2 ^ 32)
                (next_is g) (next_is first.1) (parts x) (remainder x) (parts y) (remainder y) carried;
          }
      | inr plain ↦
          record {
            number = high;
            after = first.1;
            below = below;
            drawn = canon_plain (2 ^ 32) range next_u32 (words_of g) (words_of first.1) first.0 high (x % 2 ^ 32)
                (next_is g) (parts x) (remainder x) plain;
          }
    ]

-- ---- the bounds that one draw serves

-- a product of bounds from m up, and how many they are
record IsChunk (m : ℕ) (chunk : ℕ × ℕ) : Type 0 where
  product : chunk.0 ≡ rising m chunk.1
  some : 0 < chunk.1
  fits : chunk.0 < 2 ^ 32

grow_is : (n m product current count : ℕ) → product ≡ rising m count → current ≡ m + count → 0 < count →
    product < 2 ^ 32 → IsChunk m (grow n product current count)
unfolding grow
grow_is zero m product current count is at some fits = record { product = is; some = some; fits = fits }
grow_is (suc n) m product current count is at some fits =
    elim (cases_lt (product * current) (2 ^ 32)) [
      | inl within ↦
          subst (IsChunk m) (grow_goes n product current count within)
          (grow_is n m (product * current) (current + 1) (count + 1) (rw (is, at) (sym (rising_more m count)))
          (omega arith) (omega arith) within)
      | inr over ↦ subst (IsChunk m) (grow_stops n product current count (omega arith))
          (record { product = is; some = some; fits = fits })
    ]

chunk_is : (m : ℕ) → m < 2 ^ 32 → IsChunk m (chunk_of m)
chunk_is m fits = grow_is 32 m m (m + 1) 1 (rising_one m) refl (omega arith) fits

-- ---- an index up to a bound

-- what is left of a draw is below the product of the bounds that it is still to serve
abbrev Serves : Chooser → Type 0
Serves c = 0 < c.left → c.chunk < rising (c.n + 1) c.left

-- a draw that serves one more bound at least: the chooser's, or a fresh one where nothing is left of that
record HasDraw (c : Chooser) (g : ChaCha) : Type 0 where
  chunk : ℕ
  left : ℕ
  after : ChaCha
  some : 0 < left
  below : chunk < rising (c.n + 1) left
  drawn : (chunk, left, words_of after) ≡ chooser_refill c (words_of g)

refilled : (n chunk left : ℕ) (g : ChaCha) → n + 1 < 2 ^ 32 → Serves (record { n = n; chunk = chunk; left = left }) →
    HasDraw (record { n = n; chunk = chunk; left = left }) g
refilled n chunk zero g fits serves =
    let served = chunk_is (n + 1) fits in
    let positive : 0 < (chunk_of (n + 1)).0 =
    rw served.product (rising_positive (n + 1) (chunk_of (n + 1)).1 (omega arith)) in
    let d = number_drawn (chunk_of (n + 1)).0 g positive (omega (arith, served.fits)) in
    record {
      chunk = d.number;
      left = (chunk_of (n + 1)).1;
      after = d.after;
      some = served.some;
      below = subst (λ (bound : ℕ). d.number < bound) served.product d.below;
      drawn = ap (λ (p : ℕ × Stream). (p.0, (chunk_of (n + 1)).1, p.1)) d.drawn;
    }
refilled n chunk (suc left) g fits serves =
    let some : (suc left == 0) ≡ false = ne_eqb (suc left) 0 (λ none. omega arith) in
    record {
      chunk = chunk;
      left = suc left;
      after = g;
      some = omega arith;
      below = serves (omega arith);
      drawn =
          rw some refl;
    }

-- the chooser's next index
record HasIndex (c : Chooser) (g : ChaCha) : Type 0 where
  index : ℕ
  next : Chooser
  after : ChaCha
  below : index ≤ c.n
  bound : next.n ≡ c.n + 1
  serves : Serves next
  drawn : (index, next, words_of after) ≡ chooser_next c (words_of g)

-- the index that the draw gives
abbrev step_of : ℕ → ℕ × ℕ × Stream → ℕ × Chooser × Stream
step_of n r =
    if r.1 == 1
    then (r.0, record { n = n + 1; chunk = r.0; left = 0 }, r.2)
    else (r.0 % (n + 1), record { n = n + 1; chunk = r.0 / (n + 1); left = r.1 - 1 }, r.2)

index_drawn : (c : Chooser) (g : ChaCha) → c.n + 1 < 2 ^ 32 → Serves c → HasIndex c g
index_drawn c g fits serves = by (d.left == 1) refl where
  d : HasDraw c g
  d = refilled c.n c.chunk c.left g fits serves

  by : (b : Bool) → (d.left == 1) ≡ b → HasIndex c g
  by true last =
      let one : d.left ≡ 1 = eqb-true d.left 1 last in
      record {
        index = d.chunk;
        next = record { n = c.n + 1; chunk = d.chunk; left = 0 };
        after = d.after;
        below = omega (arith, last_below d.chunk (c.n + 1) (rw one at d.below));
        bound = refl;
        serves = λ some. absurd (omega arith);
        drawn = rw last refl ∙ ap (step_of c.n) d.drawn;
      }
  by false more =
      let other = eqb-false d.left 1 more in
      let left : d.left ≡ suc (d.left - 1) = omega (arith, d.some) in
      record {
        index = d.chunk % (c.n + 1);
        next = record { n = c.n + 1; chunk = d.chunk / (c.n + 1); left = d.left - 1 };
        after = d.after;
        below = omega (arith, mod-lt d.chunk {m = c.n + 1} (omega arith));
        bound = refl;
        serves = λ some. rest_below d.chunk (c.n + 1) (d.left - 1) (omega arith) (rw left at d.below);
        drawn = rw more refl ∙ ap (step_of c.n) d.drawn;
      }

-- ---- the shuffle

-- the ids after k swaps
record HasSwaps (ids : List ℕ) (g : ChaCha) (k : ℕ) : Type 0 where
  order : List ℕ
  chooser : Chooser
  after : ChaCha
  permutes : IsPermutation ids order
  bound : chooser.n ≡ k
  serves : Serves chooser
  drawn : (order, chooser, words_of after) ≡ narrow_swaps ids (chooser_at 0) (words_of g) k

swapped : (ids : List ℕ) (g : ChaCha) (k : ℕ) → k ≤ length ids → length ids ≤ 128 → HasSwaps ids g k
swapped ids g zero within few = record {
  order = ids;
  chooser = chooser_at 0;
  after = g;
  permutes = IsPermutation-refl ids;
  bound = refl;
  serves = λ some. rising_positive 1 1 (omega arith);
  drawn = narrow_none ids (chooser_at 0) (words_of g);
}
swapped ids g (suc k) within few =
    let before = swapped ids g k (omega arith) few in
    let next = index_drawn before.chooser before.after (omega (arith, before.bound)) before.serves in
    let size = length_permutation ids before.order before.permutes in
    let order = swap before.order before.chooser.n next.index in
    record {
      order = order;
      chooser = next.next;
      after = next.after;
      permutes = IsPermutation-trans ids before.order order before.permutes
          (IsPermutation-swap before.order order before.chooser.n next.index (omega (arith, before.bound, size))
          (omega (arith, before.bound, size, next.below)) refl);
      bound = omega (arith, next.bound, before.bound);
      serves = next.serves;
      drawn = narrow_next ids (chooser_at 0) (words_of g) k before.order before.chooser next.next
          (words_of before.after) (words_of next.after) next.index before.drawn next.drawn;
    }

pub order_drawn : (before : ChaCha) (ids : List ℕ) → length ids ≤ 128 → (order : List ℕ) × (after : ChaCha)
    × IsPermutation ids order × DrawsOrder before ids order after
order_drawn before ids few =
    let swaps = swapped ids before (length ids - 0) (omega arith) few in
    let narrow : nat_lt (length ids) (2 ^ 32 - 1) ≡ true = lt-ltb (length ids) (2 ^ 32 - 1) (omega arith) in (
      swaps.order,
      swaps.after,
      swaps.permutes,
      rw narrow
          (ap (λ (p : List ℕ × Chooser × Stream). (p.0, p.2)) swaps.drawn),
    )

pub order_drawn_once : (one other after after' : ChaCha) (ids order order' : List ℕ) → HaveSameWords one other →
    DrawsOrder one ids order after → DrawsOrder other ids order' after' → (order ≡ order') × HaveSameWords after after'
order_drawn_once one other after after' ids order order' same drawn drawn' =
    let both : ◌≡◌ {A = List ℕ × Stream} (order, words_of after) (order', words_of after') =
    drawn ∙ ap (λ (s : Stream). shuffled ids 0 s) same ∙ sym drawn' in
    (ap (λ (p : List ℕ × Stream). p.0) both, ap (λ (p : List ℕ × Stream). p.1) both)

-- ---- the place

pub place_drawn : (before : ChaCha) (last : ℕ) → last < 128 → (place : ℕ) × (after : ChaCha) × (place ≤ last)
    × DrawsPlace before last place after
place_drawn before last few =
    let d = number_drawn (last + 1) before (omega arith) (omega arith) in
    let part : (last + 1 == 2 ^ 32) ≡ false = ne_eqb (last + 1) (2 ^ 32) (λ same. omega arith) in
    (d.number, d.after, omega (arith, d.below), rw part d.drawn)

pub place_drawn_once : (one other after after' : ChaCha) (last place place' : ℕ) → HaveSameWords one other →
    DrawsPlace one last place after → DrawsPlace other last place' after' → (place ≡ place')
    × HaveSameWords after after'
place_drawn_once one other after after' last place place' same drawn drawn' =
    let both : ◌≡◌ {A = ℕ × Stream} (place, words_of after) (place', words_of after') =
    drawn ∙ ap (λ (s : Stream). below_or_word canon (2 ^ 32) next_u32 (last + 1) s) same ∙ sym drawn' in
    (ap (λ (p : ℕ × Stream). p.0) both, ap (λ (p : ℕ × Stream). p.1) both)
