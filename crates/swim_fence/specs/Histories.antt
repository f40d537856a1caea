-- What is said of a fence by all that happened to it, the newest first.
use Rattle.std.specs.Prelude.{◌≡◌, ℕ, ◌+◌, ◌≤◌, ◌==◌, Bool, true, not, ◌&&◌, ◌||◌, List, [], ◌∷◌, ◌++◌, if◌then◌else◌}
use Rattle.std.specs.List.{list_any}
use Rattle.std.specs.Str.{bytes_eq}
use Rattle.swim_wire.specs.Address.{Address}
use Rattle.swim_fence.specs.Buckets.{passes_after}

-- a datagram from that address asked at that time, or these became the addresses of the members
pub data Event : Type 0 where
  Asked : (from : Address) → (now : ℕ) → Event
  Listed : (members : List Address) → Event

-- both are the same address
abbrev pub is_same : Address → Address → Bool
is_same a b = bytes_eq a.ip b.ip && a.port == b.port

-- the addresses of the members
abbrev pub members_in : List Event → List Address
members_in [] = []
members_in (Asked from now ∷ before) = members_in before
members_in (Listed members ∷ before) = members

abbrev pub is_listed : Address → List Event → Bool
is_listed a h = list_any (is_same a) (members_in h)

-- when a member's datagrams asked, since it is listed
abbrev pub own_times : Address → List Event → List ℕ
own_times a [] = []
own_times a (Asked from now ∷ before) = if is_same a from then now ∷ own_times a before else own_times a before
own_times a (Listed members ∷ before) = if is_listed a before then own_times a before else []

-- when datagrams asked that were no member's
abbrev pub strange_times : List Event → List ℕ
strange_times [] = []
strange_times (Asked from now ∷ before) =
    if is_listed from before then strange_times before else now ∷ strange_times before
strange_times (Listed members ∷ before) = strange_times before

-- when datagrams asked that are paid from the same bucket
abbrev pub times_of : Address → List Event → List ℕ
times_of a h = if is_listed a h then own_times a h else strange_times h

-- whether a datagram from that address passes at that time; each does where the rate is 0
abbrev pub passes : ℕ → List Event → Address → ℕ → Bool
passes rate h from now = rate == 0 || passes_after rate (times_of from h) now

-- what happened, without the datagrams of all other addresses
abbrev pub own_events : Address → List Event → List Event
own_events a [] = []
own_events a (Asked from now ∷ before) =
    if is_same a from then Asked from now ∷ own_events a before else own_events a before
own_events a (Listed members ∷ before) = Listed members ∷ own_events a before

-- how many datagrams passed of those that count in the recent part of a history
abbrev pub passed_of : (Address → List Event → Bool) → ℕ → List Event → List Event → ℕ
passed_of counts rate [] before = 0
passed_of counts rate (Asked from now ∷ recent) before =
    (if counts from (recent ++ before) && passes rate (recent ++ before) from now then 1 else 0)
    + passed_of counts rate recent before
passed_of counts rate (Listed members ∷ recent) before = passed_of counts rate recent before

-- of those that a member's address sent
abbrev pub passed_of_member : Address → ℕ → List Event → List Event → ℕ
passed_of_member a = passed_of (λ from before. is_same a from)

-- of those that no member's address sent
abbrev pub passed_of_strangers : ℕ → List Event → List Event → ℕ
passed_of_strangers = passed_of (λ from before. not (is_listed from before))

-- the address is a member's from the recent part's beginning to its end
abbrev pub StaysListed : Address → List Event → List Event → Type 0
StaysListed a [] before = is_listed a before ≡ true
StaysListed a (Asked from now ∷ recent) before = StaysListed a recent before
StaysListed a (Listed members ∷ recent) before = (list_any (is_same a) members ≡ true) × StaysListed a recent before

-- each datagram asked from the one time to the other
abbrev pub AreAskedWithin : ℕ → ℕ → List Event → Type 0
AreAskedWithin start end [] = Unit {0}
AreAskedWithin start end (Asked from now ∷ recent) = (start ≤ now) × (now ≤ end) × AreAskedWithin start end recent
AreAskedWithin start end (Listed members ∷ recent) = AreAskedWithin start end recent
