-- What is said of a member hangs on no datagram of another.
use Rattle.std.proofs.Common.{◌≡◌, ℕ, Bool, true, false, cond, ◌||◌, List, [], ◌∷◌, refl, sym, ◌∙◌, ap, nat_eq}
use Rattle.std.specs.List.{list_any}
use Rattle.swim_wire.specs.Address.{Address}
use Rattle.swim_fence.specs.Buckets.{passes_after}
use Rattle.swim_fence.specs.Histories.{Event, is_same, is_listed, members_in, own_events, own_times, passes}
use Rattle.swim_fence.specs.Histories.{strange_times, times_of}
use Rattle.swim_fence.specs.Histories.Event.{Asked, Listed}

-- the members are the same
members_in-own_events : (a : Address) (h : List Event) → members_in (own_events a h) ≡ members_in h
members_in-own_events a [] = refl
members_in-own_events a (Asked from now ∷ before) = by_test (is_same a from) ∙ members_in-own_events a before where
  by_test : (own : Bool) → members_in (cond own (Asked from now ∷ own_events a before) (own_events a before)) ≡
      members_in (own_events a before)
  by_test true = refl
  by_test false = refl
members_in-own_events a (Listed members ∷ before) = refl

is_listed-own_events : (a : Address) (h : List Event) → is_listed a (own_events a h) ≡ is_listed a h
is_listed-own_events a h = ap (list_any (is_same a)) (members_in-own_events a h)

-- and the times at which the member's datagrams asked
own_times-own_events : (a : Address) (h : List Event) → own_times a (own_events a h) ≡ own_times a h
own_times-own_events a [] = refl
own_times-own_events a (Asked from now ∷ before) = by_test (own_times-own_events a before) (is_same a from) refl where
  by_test : own_times a (own_events a before) ≡ own_times a before → (own : Bool) → is_same a from ≡ own →
      own_times a (cond own (Asked from now ∷ own_events a before) (own_events a before)) ≡
      cond own (now ∷ own_times a before) (own_times a before)
  by_test same true e =
      ap (λ b. cond b (now ∷ own_times a (own_events a before)) (own_times a (own_events a before))) e
      ∙ ap (λ times. now ∷ times) same
  by_test same false e = same
own_times-own_events a (Listed members ∷ before) =
    ap (λ b. cond b (own_times a (own_events a before)) []) (is_listed-own_events a before)
    ∙ ap (λ times. cond (is_listed a before) times []) (own_times-own_events a before)

times_of_member : (a : Address) (h : List Event) → is_listed a h ≡ true → times_of a h ≡ own_times a h
times_of_member a h listed = ap (λ b. cond b (own_times a h) (strange_times h)) listed

pub passes-own_events : (rate : ℕ) (h : List Event) (from : Address) (now : ℕ) → is_listed from h ≡ true →
    passes rate h from now ≡ passes rate (own_events from h) from now
passes-own_events rate h from now listed =
    let times : times_of from h ≡ times_of from (own_events from h) =
    times_of_member from h listed ∙ sym (own_times-own_events from h)
    ∙ sym (times_of_member from (own_events from h) (is_listed-own_events from h ∙ listed)) in
    ap (λ t. nat_eq rate 0 || passes_after rate t now) times
