-- Each of the two choosers, the scripted and the seeded, answers in one way alone, and always answers.
use Rattle.std.specs.Prelude.{◌≡◌, ℕ, ◌≤◌, Bool, true, false, List, [], ◌∷◌, drop, if◌then◌else◌, IsPermutation}
use Rattle.std.proofs.Common.{refl, sym, ap, ◌∙◌, arith}
use Rattle.std.proofs.lemmas.List.Sorted.{IsPermutation-refl}
use Rattle.swim_targets.specs.Draws.{DrawsOrder, DrawsPlace, HaveSameWords}
use Rattle.swim_targets.specs.DrawLaws.{order_drawn, order_drawn_once, place_drawn, place_drawn_once}
use Rattle.swim_targets.specs.Script.{Script, is_order_of, order_by, place_by, FollowsOrder, FollowsPlace}
use Rattle.swim_targets.specs.Orders.{order_is}
use Rattle.swim_history.specs.Laws.Drawn.{IsFunctional}
use Rattle.swim_history.specs.Laws.DrawnRuns.{IsTotal}

-- ---- scripted

pub script_answers_once : IsFunctional FollowsOrder FollowsPlace (λ one other. one ≡ other)
script_answers_once = record {
  order = λ one other after after' ids order order' same d d'. (
    d.0 ∙ ap (λ (s : Script). order_by s.orders ids) same ∙ sym d'.0,
    d.1 ∙ ap (λ (s : Script). record s { orders = drop 1 s.orders }) same ∙ sym d'.1,
  );
  place = λ one other after after' last place place' same d d'. (
    d.0 ∙ ap (λ (s : Script). place_by s.places last) same ∙ sym d'.0,
    d.1 ∙ ap (λ (s : Script). record s { places = drop 1 s.places }) same ∙ sym d'.1,
  );
}

order_followed : (orders : List (List ℕ)) (ids : List ℕ) → IsPermutation ids (order_by orders ids)
order_followed [] ids = IsPermutation-refl ids
order_followed (order ∷ orders) ids = by (is_order_of ids order) refl where
  by : (b : Bool) → is_order_of ids order ≡ b → IsPermutation ids (if b then order else ids)
  by true is = order_is ids order is
  by false is = IsPermutation-refl ids

place_followed : (places : List ℕ) (last : ℕ) → place_by places last ≤ last
place_followed [] last = omega arith
place_followed (place ∷ places) last = omega arith

pub script_answers_always : IsTotal FollowsOrder FollowsPlace
script_answers_always = record {
  order = λ before ids few once. (
    order_by before.orders ids,
    record before { orders = drop 1 before.orders },
    order_followed before.orders ids,
    (refl, refl),
  );
  place = λ before last few. (
    place_by before.places last,
    record before { places = drop 1 before.places },
    place_followed before.places last,
    (refl, refl),
  );
}

-- ---- seeded

pub seed_answers_once : IsFunctional DrawsOrder DrawsPlace HaveSameWords
seed_answers_once = record { order = order_drawn_once; place = place_drawn_once }

pub seed_answers_always : IsTotal DrawsOrder DrawsPlace
seed_answers_always = record { order = λ before ids few once. order_drawn before ids few; place = place_drawn }
