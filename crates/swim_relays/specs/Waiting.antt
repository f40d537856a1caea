-- The requests that wait for an ack of their target.
use Rattle.std.specs.Prelude.{◌≡◌, ℕ, ◌<◌, ◌≤◌, ◌^◌, Bool, false, ◌||◌, List, [], ◌∷◌, length}
use Rattle.std.specs.List.{AllByRecursion}
use Rattle.std.specs.List.Sorted.{IsNonDecreasingBy}
use Rattle.swim_wire.specs.Requests.{Request, most_waiting, waits}

-- the ticks of a period, for which a request waits, the count of ticks, modulo 2^32, and the requests, the oldest first
pub record Waiting : Type 0 where
  pub period : ℕ
  pub count : ℕ
  pub waiting : List Request

-- requests of one probe wait twice
abbrev pub waits_twice : List Request → Bool
waits_twice [] = false
waits_twice (request ∷ requests) = waits request.key requests || waits_twice requests

-- no probe's requests wait twice, at most 64 wait, each has 1 tick to a period left, and none more than one behind it
pub record AreWaiting (w : Waiting) : Type 0 where
  pub period : (1 ≤ w.period) × (w.period ≤ 65535)
  pub count : w.count < 2 ^ 32
  pub once : waits_twice w.waiting ≡ false
  pub bound : length w.waiting ≤ most_waiting
  pub ticks : AllByRecursion (λ request. (1 ≤ request.left) × (request.left ≤ w.period)) w.waiting
  pub order : IsNonDecreasingBy (λ request. request.left) w.waiting
