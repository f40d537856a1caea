-- What passed over a fenced line is what passed by all that happened to its fence.
use Rattle.std.proofs.Common.{◌≡◌, ℕ, ◌+◌, ◌-◌, ◌*◌, ◌<◌, ◌≤◌, Bool, ◌&&◌, List, [], ◌∷◌, ◌++◌, map, cond, refl, sym}
use Rattle.std.proofs.Common.{ap, subst, ◌∙◌}
use Rattle.swim_wire.specs.Address.{Address}
use Rattle.swim_fence.specs.Buckets.{price}
use Rattle.swim_fence.specs.Fences.{Kept, Follows}
use Rattle.swim_fence.specs.Histories.{AreAskedWithin, Event, StaysListed, is_same, passed_of_member, passes}
use Rattle.swim_fence.proofs.Passing.{member_within}
use Rattle.swim_guard.specs.Fenced.{AreSteps, Step, event_of, passed_from}
use Rattle.swim_guard.specs.Fenced.Step.{Came, Shown}

-- the fence follows what happened, and its rate stays
record Stepped (old : Kept) (steps : List Step) (before : List Event) (new : Kept) (a : Address) : Type 0 where
  pub rate : new.rate ≡ old.rate
  pub follows : Follows new (map event_of steps ++ before)
  pub passed : passed_from a steps ≡ passed_of_member a old.rate (map event_of steps) before

stepped : (old new : Kept) (steps : List Step) (before : List Event) (a : Address) → Follows old before →
    AreSteps old steps new →
    Stepped old steps before new a
stepped old new [] before a follows are = record {
  rate = ap (λ k. k.rate) are;
  follows = subst (λ (k : Kept). Follows k before) (sym are) follows;
  passed = refl;
}
stepped old new (Came from now passed ∷ steps) before a follows are =
    let so = stepped old are.0 steps before a follows are.1 in
    let is = are.2 in
    let h = map event_of steps ++ before in
    let passes_so : passed ≡ passes old.rate h from now = is.passes h so.follows ∙
    ap (λ rate. passes rate h from now) so.rate in
    record {
      rate = is.happens.rate ∙ so.rate;
      follows = is.happens.follows h so.follows;
      passed = ap (λ (b : Bool). cond (is_same a from && b) 1 0 + passed_from a steps) passes_so
          ∙ ap (λ n. cond (is_same a from && passes old.rate h from now) 1 0 + n) so.passed;
    }
stepped old new (Shown members ∷ steps) before a follows are =
    let so = stepped old are.0 steps before a follows are.1 in
    record {
      rate = are.2.rate ∙ so.rate;
      follows = are.2.follows (map event_of steps ++ before) so.follows;
      passed = so.passed;
    }

pub passed_within_a_span : (old new : Kept) (steps : List Step) (before : List Event) (a : Address) (start end : ℕ) →
    0 < old.rate →
    Follows old before → AreSteps old steps new →
    StaysListed a (map event_of steps) before → AreAskedWithin start end (map event_of steps) →
    passed_from a steps * price ≤ old.rate * price + old.rate * (end - start)
passed_within_a_span old new steps before a start end some follows are listed within =
    subst (λ n. n * price ≤ old.rate * price + old.rate * (end - start))
    (sym (stepped old new steps before a follows are).passed)
    (member_within old.rate start end a (map event_of steps) before some listed within)
