-- What a knocker keeps after one more start is what the longer list of starts comes to; and at which starts a knock is
-- due where the rule stays the same.
use Rattle.std.proofs.Common.{◌≡◌, ℕ, ◌+◌, ◌%◌, ◌<◌, Bool, true, false, cond, ◌&&◌, nat_eq, nat_le, nat_lt, suc}
use Rattle.std.proofs.Common.{List, [], ◌∷◌, length, None, refl, sym, ap, ◌∙◌, add-one, arith}
use Rattle.std.specs.Option.{option_map, option_or}
use Rattle.std.proofs.Math.Nat.{mod-eq_of_lt, mod-lt, mod_self, suc-mod}
use Rattle.std.proofs.lemmas.Bool.{lt-ltb, ltb-true}
use Rattle.swim_history.specs.declared.rows.Row.{Row}
use Rattle.swim_rejoin.specs.Knockers.{Follows, Kept, after_start, whom_now}
use Rattle.swim_rejoin.specs.Knocking.{Start, at_start, is_due, knocked_by, since_due, since_then, steadily, whose_turn}
use Rattle.swim_rejoin.proofs.Finding.{same_number}

-- ---- one start more

pub whom-is : (k : Kept) (h : List Start) (r : ℕ) (rows : List Row) → Follows k h →
    whom_now r k rows ≡ knocked_by r h rows
whom-is k h r rows f =
    ap (λ s. cond (nat_lt 0 r && nat_le r (s + 1)) (whose_turn k.last rows) None) f.since
    ∙ ap (λ last. cond (is_due r h) (whose_turn last rows) None) f.last

pub Follows-started : (k : Kept) (h : List Start) (r : ℕ) (rows : List Row) → Follows k h →
    Follows (after_start r k rows) (at_start r rows ∷ h)
Follows-started k h r rows f = record {
  since = ap (since_then r) f.since;
  last =
      ap (λ o. option_or (option_map (λ (row : Row). row.id) o) k.last) (whom-is k h r rows f)
      ∙ ap (λ last. option_or (option_map (λ (row : Row). row.id) (knocked_by r h rows)) last) f.last;
}

-- ---- starts at which the rule is the same

below_next : (s r : ℕ) → s < r → nat_eq (s + 1) r ≡ false → s + 1 < r
below_next s r below e = grind arith

no_next : (s : ℕ) → nat_eq (s + 1) 0 ≡ false
no_next s = grind arith

not_above : (n r : ℕ) → n ≡ r → nat_lt n r ≡ false
not_above n r same = grind arith

no_more : (n r : ℕ) → n < r → nat_le r n ≡ false
no_more n r below = grind arith

as_many : (n r : ℕ) → n ≡ r → nat_le r n ≡ true
as_many n r same = grind arith

-- one more, counted round
round_more : (s r : ℕ) → s < r → (s + 1) % r ≡ cond (nat_eq (s + 1) r) 0 (s + 1)
round_more s r below = by_test (nat_eq (s + 1) r) refl where
  by_test : (b : Bool) → nat_eq (s + 1) r ≡ b → (s + 1) % r ≡ cond b 0 (s + 1)
  by_test true e = ap (λ n. n % r) (same_number (s + 1) r e) ∙ mod_self r
  by_test false e = mod-eq_of_lt (below_next s r below e)

mod_more : (n s r : ℕ) → s ≡ n % r → (n + 1) % r ≡ (s + 1) % r
mod_more n s r e =
    ap (λ m. m % r) (add-one n) ∙ suc-mod n r ∙ ap (λ m. suc m % r) (sym e) ∙ ap (λ m. m % r) (sym (add-one s))

then_is : (s r : ℕ) → s < r → since_then r s ≡ (s + 1) % r
then_is s r below = by_test (nat_eq (s + 1) r) refl ∙ sym (round_more s r below) where
  by_test : (b : Bool) → nat_eq (s + 1) r ≡ b → since_then r s ≡ cond (nat_eq (s + 1) r) 0 (s + 1)
  by_test true e =
      ap (λ b. cond b (s + 1) 0) (not_above (s + 1) r (same_number (s + 1) r e)) ∙
      sym (ap (λ b. cond b 0 (s + 1)) e)
  by_test false e =
      ap (λ b. cond b (s + 1) 0) (lt-ltb (s + 1) r (below_next s r below e)) ∙ sym (ap (λ b. cond b 0 (s + 1)) e)

since_steady : (r : ℕ) (before : List (List Row)) → 0 < r → since_due (steadily r before []) ≡ length before % r
since_steady r [] positive = sym (mod-eq_of_lt positive)
since_steady r (rows ∷ before) positive =
    let n = length before in
    ap (since_then r) (since_steady r before positive) ∙ then_is (n % r) r (mod-lt n positive)
    ∙ sym (mod_more n (n % r) r refl) ∙ ap (λ m. m % r) (add-one n)

-- the start is an N-th one where so many came since the last
due_at : (s r : ℕ) → s < r → nat_le r (s + 1) ≡ nat_eq ((s + 1) % r) 0
due_at s r below = by_test (nat_eq (s + 1) r) refl ∙ sym (ap (λ n. nat_eq n 0) (round_more s r below)) where
  by_test : (b : Bool) → nat_eq (s + 1) r ≡ b → nat_le r (s + 1) ≡ nat_eq (cond (nat_eq (s + 1) r) 0 (s + 1)) 0
  by_test true e =
      as_many (s + 1) r (same_number (s + 1) r e) ∙ sym (ap (λ b. nat_eq (cond b 0 (s + 1)) 0) e)
  by_test false e =
      no_more (s + 1) r (below_next s r below e)
      ∙ sym (ap (λ b. nat_eq (cond b 0 (s + 1)) 0) e ∙ no_next s)

pub steady_due : (r : ℕ) (before : List (List Row)) →
    is_due r (steadily r before []) ≡ (nat_lt 0 r && nat_eq ((length before + 1) % r) 0)
steady_due r before = by_test (nat_lt 0 r) refl where
  n : ℕ
  n = length before

  by_test : (b : Bool) → nat_lt 0 r ≡ b →
      (b && nat_le r (since_due (steadily r before []) + 1)) ≡ (b && nat_eq ((n + 1) % r) 0)
  by_test false e = refl
  by_test true e =
      let positive : 0 < r = ltb-true 0 r e in
      ap (λ s. nat_le r (s + 1)) (since_steady r before positive) ∙ due_at (n % r) r (mod-lt n positive)
      ∙ ap (λ m. nat_eq m 0) (sym (mod_more n (n % r) r refl))
