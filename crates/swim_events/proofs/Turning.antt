-- One after the other of those who watch, each of whom is the last then.
use Rattle.std.proofs.Common.{◌≡◌, ℕ, zero, suc, ◌+◌, ◌<◌, Bool, List, [], ◌∷◌, ◌++◌, length, map, take, drop, refl}
use Rattle.std.proofs.Common.{sym, ap, ◌∙◌, subst, arith, append_assoc, append-nil}
use Rattle.swim_events.specs.declared.outlets.Offer.{Offer}
use Rattle.swim_events.specs.Guests.{AreSent, AtGuest, IsTurn, TakesTurn, kept_if}

record IsAt {A : Type 0} (xs : List A) (i : ℕ) : Type 0 where
  pub x : A
  pub rest : drop i xs ≡ x ∷ drop (suc i) xs
  pub front : take (suc i) xs ≡ take i xs ++ x ∷ []

at_place : {A : Type 0} (xs : List A) (i : ℕ) → i < length xs → IsAt xs i
at_place [] i within = absurd (omega (arith, within))
at_place (x ∷ xs) zero within = record { x = x; rest = refl; front = refl }
at_place (x ∷ xs) (suc i) within =
    let is = at_place xs i (omega (arith, within)) in
    record { x = is.x; rest = is.rest; front = ap (λ l. x ∷ l) is.front }

map_one : {A : Type 0} (f : A → A) (xs : List A) (x : A) → map f xs ++ f x ∷ [] ≡ map f (xs ++ x ∷ [])
map_one f [] x = refl
map_one f (y ∷ xs) x = ap (λ l. f y ∷ l) (map_one f xs x)

-- one more was changed
pub one_changed : {A : Type 0} (f : A → A) (old now new : List A) (i : ℕ) → i < length old →
    now ≡ drop i old ++ map f (take i old) →
    ((first : A) (others : List A) → now ≡ first ∷ others → new ≡ others ++ f first ∷ []) →
    new ≡ drop (i + 1) old ++ map f (take (i + 1) old)
one_changed {A} f old now new i within is changed =
    let e : suc i ≡ i + 1 = omega arith in
    let here = at_place old i within in
    let there : now ≡ here.x ∷ (drop (suc i) old ++ map f (take i old)) = is ∙
    ap (λ l. l ++ map f (take i old)) here.rest in
    subst (λ n. new ≡ drop n old ++ map f (take n old)) e
    (changed here.x (drop (suc i) old ++ map f (take i old)) there
    ∙ append_assoc (drop (suc i) old) (map f (take i old)) (f here.x ∷ [])
    ∙ ap (λ l. drop (suc i) old ++ l) (map_one f (take i old) here.x ∙ ap (map f) (sym here.front)))

sent_more : (time : ℕ) (old done : List AtGuest) (first : AtGuest) (offer : Offer) (then_so : AtGuest)
    (goes_on : Bool) → AreSent time old done →
    IsTurn time first offer then_so goes_on → AreSent time (old ++ first ∷ []) (done ++ kept_if goes_on then_so)
sent_more time [] done first offer then_so goes_on are turn = (
  offer,
  then_so,
  goes_on,
  turn,
  ([], refl, ap (λ l. l ++ kept_if goes_on then_so) are ∙ sym (append-nil (kept_if goes_on then_so))),
)
sent_more time (g ∷ old) done first offer then_so goes_on are turn = (
  are.0,
  are.1,
  are.2,
  are.3,
  (
    are.4.0 ++ kept_if goes_on then_so,
    sent_more time old are.4.0 first offer then_so goes_on are.4.1 turn,
    ap (λ l. l ++ kept_if goes_on then_so) are.4.2 ∙
        append_assoc (kept_if are.2 are.1) are.4.0 (kept_if goes_on then_so),
  ),
)

-- so many had their turn
pub record AreSentSoFar (time : ℕ) (old now : List AtGuest) (i : ℕ) : Type 0 where
  pub done : List AtGuest
  pub sent : AreSent time (take i old) done
  pub are : now ≡ drop i old ++ done

-- one more had its turn
pub one_sent : (time : ℕ) (old now new : List AtGuest) (i : ℕ) → i < length old → AreSentSoFar time old now i →
    ((first : AtGuest) (others : List AtGuest) → now ≡ first ∷ others → TakesTurn time first others new) →
    AreSentSoFar time old new (i + 1)
one_sent time old now new i within so turns =
    let e : suc i ≡ i + 1 = omega arith in
    let here = at_place old i within in
    let there : now ≡ here.x ∷ (drop (suc i) old ++ so.done) = so.are ∙ ap (λ l. l ++ so.done) here.rest in
    let turn = turns here.x (drop (suc i) old ++ so.done) there in
    subst (λ n. AreSentSoFar time old new n) e (record {
      done = so.done ++ kept_if turn.goes_on turn.then_so;
      sent = subst (λ (l : List AtGuest). AreSent time l (so.done ++ kept_if turn.goes_on turn.then_so))
          (sym here.front)
          (sent_more time (take i old) so.done here.x turn.offer turn.then_so turn.goes_on so.sent turn.turn);
      are = turn.are ∙ append_assoc (drop (suc i) old) so.done (kept_if turn.goes_on turn.then_so);
    })

pub none_sent : (time : ℕ) (old : List AtGuest) → AreSentSoFar time old old 0
none_sent time old = record { done = []; sent = refl; are = sym (append-nil old) }
