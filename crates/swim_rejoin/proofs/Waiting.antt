-- How long a member waits: bounds, twice as long, and as at first.
use Rattle.std.proofs.Common.{◌≡◌, ◌≢◌, ℕ, ◌+◌, ◌*◌, ◌<◌, ◌≤◌, min, Bool, true, false, cond, not, ◌&&◌, nat_eq, nat_le}
use Rattle.std.proofs.Common.{List, [], ◌∷◌, Option, Some, None, refl, sym, ap, ◌∙◌, arith}
use Rattle.std.proofs.lemmas.Bool.{le-leb, lt-ltb}
use Rattle.std.proofs.lemmas.Bool.Decides.{nat_tests}
use Rattle.swim_history.specs.declared.rows.Row.{Row}
use Rattle.swim_rejoin.specs.Failed.{verdict_in}
use Rattle.swim_rejoin.specs.Histories.{Event, is_known, last_joined, last_verdict, times}
use Rattle.swim_rejoin.specs.Histories.Event.{Joined, Knocked, Looked, Ruled}
use Rattle.swim_rejoin.specs.Waits.{is_long_after, is_new, is_soon, times_after, times_once_judged}
use Rattle.swim_rejoin.proofs.Finding.{same_number}

abbrev IsBounded : ℕ → Type 0
IsBounded n = (1 ≤ n) × (n ≤ 64)

choice_bounded : (b : Bool) (x y : ℕ) → IsBounded x → IsBounded y → IsBounded (cond b x y)
choice_bounded true x y is other = is
choice_bounded false x y other is = is

once_bounded : (last : ℕ) (joined shown verdict : Option ℕ) → IsBounded last →
    IsBounded (times_once_judged last joined shown verdict)
once_bounded last joined shown None is = is
once_bounded last joined shown (Some number) is =
    choice_bounded (is_new number shown) (times_after last joined shown number) last
    (choice_bounded (is_soon number joined) (min 64 (2 * last))
    (cond (is_long_after number joined && is_long_after number shown) 1 last) (omega (arith, is.0), omega arith)
    (choice_bounded (is_long_after number joined && is_long_after number shown) 1 last (omega arith, omega arith) is))
    is

pub times_bounded : (id : ℕ) (h : List Event) → IsBounded (times id h)
times_bounded id [] = (omega arith, omega arith)
times_bounded id (Knocked other number ∷ before) = times_bounded id before
times_bounded id (Looked rows ∷ before) =
    choice_bounded (is_known id before)
    (times_once_judged (times id before) (last_joined id before) (last_verdict id before) (verdict_in rows id)) 1
    (once_bounded (times id before) (last_joined id before) (last_verdict id before) (verdict_in rows id)
    (times_bounded id before)) (omega arith, omega arith)
times_bounded id (Joined other period ∷ before) = times_bounded id before
times_bounded id (Ruled rejoin ∷ before) =
    choice_bounded (nat_eq rejoin 0) 1 (times id before) (omega arith, omega arith) (times_bounded id before)

-- a verdict that wasn't shown
new_if_other : (number : ℕ) (shown : Option ℕ) → shown ≢ Some number → is_new number shown ≡ true
new_if_other number None other = refl
new_if_other number (Some old) other = by_test (nat_eq number old) refl where
  by_test : (b : Bool) → nat_eq number old ≡ b → not b ≡ true
  by_test true e = absurd (other (ap Some (sym (same_number number old e))))
  by_test false e = refl

-- a table shows a new verdict on a member that was known
judged : (id number : ℕ) (rows : List Row) (h : List Event) → is_known id h ≡ true → verdict_in rows id ≡ Some number →
    is_new number (last_verdict id h) ≡ true →
    times id (Looked rows ∷ h) ≡ times_after (times id h) (last_joined id h) (last_verdict id h) number
judged id number rows h known verdict new =
    ap (λ b. cond b (times_once_judged (times id h) (last_joined id h) (last_verdict id h) (verdict_in rows id)) 1)
    known
    ∙ ap (times_once_judged (times id h) (last_joined id h) (last_verdict id h)) verdict
    ∙ ap (λ b. cond b (times_after (times id h) (last_joined id h) (last_verdict id h) number) (times id h)) new

soon_if_within : (number joined : ℕ) → joined < number → number ≤ joined + 16 → is_soon number (Some joined) ≡ true
soon_if_within number joined after within =
    ap (λ b. b && nat_le number (joined + 16)) (lt-ltb joined number after) ∙ le-leb number (joined + 16) within

pub times_doubled : (id number joined : ℕ) (rows : List Row) (h : List Event) → is_known id h ≡ true →
    verdict_in rows id ≡ Some number → last_verdict id h ≢ Some number →
    last_joined id h ≡ Some joined → joined < number → number ≤ joined + 16 →
    times id (Looked rows ∷ h) ≡ min 64 (2 * times id h)
times_doubled id number joined rows h known verdict other is after within =
    judged id number rows h known verdict (new_if_other number (last_verdict id h) other)
    ∙ ap (λ j. times_after (times id h) j (last_verdict id h) number) is
    ∙ ap (λ b. cond b (min 64 (2 * times id h))
    (cond (is_long_after number (Some joined) && is_long_after number (last_verdict id h)) 1 (times id h)))
    (soon_if_within number joined after within)

not_soon : (number joined : ℕ) → joined + 256 < number → is_soon number (Some joined) ≡ false
not_soon number joined long = grind (arith, nat_tests)

other_if_long : (number shown : ℕ) → shown + 256 < number → nat_eq number shown ≡ false
other_if_long number shown long = grind arith

set_back_known : (id number joined shown : ℕ) (rows : List Row) (h : List Event) → is_known id h ≡ true →
    verdict_in rows id ≡ Some number → last_verdict id h ≡ Some shown →
    last_joined id h ≡ Some joined → joined + 256 < number → shown + 256 < number → times id (Looked rows ∷ h) ≡ 1
set_back_known id number joined shown rows h known verdict was is long quiet =
    judged id number rows h known verdict (ap (is_new number) was ∙ ap not (other_if_long number shown quiet))
    ∙ ap (λ j. times_after (times id h) j (last_verdict id h) number) is
    ∙ ap (λ v. times_after (times id h) (Some joined) v number) was
    ∙ ap (λ b. cond b (min 64 (2 * times id h))
    (cond (is_long_after number (Some joined) && is_long_after number (Some shown)) 1 (times id h)))
    (not_soon number joined long)
    ∙ ap (λ b. cond (b && is_long_after number (Some shown)) 1 (times id h)) (lt-ltb (joined + 256) number long)
    ∙ ap (λ b. cond b 1 (times id h)) (lt-ltb (shown + 256) number quiet)

pub times_set_back : (id number joined shown : ℕ) (rows : List Row) (h : List Event) →
    verdict_in rows id ≡ Some number → last_verdict id h ≡ Some shown →
    last_joined id h ≡ Some joined → joined + 256 < number → shown + 256 < number → times id (Looked rows ∷ h) ≡ 1
times_set_back id number joined shown rows h verdict was is long quiet = by_known (is_known id h) refl where
  by_known : (b : Bool) → is_known id h ≡ b → times id (Looked rows ∷ h) ≡ 1
  by_known true e = set_back_known id number joined shown rows h e verdict was is long quiet
  by_known false e = ap
      (λ b. cond b (times_once_judged (times id h) (last_joined id h) (last_verdict id h) (verdict_in rows id)) 1) e
