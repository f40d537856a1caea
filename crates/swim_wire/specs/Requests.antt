-- The requests of other members that wait for an ack of their target (section 3.1 of the SWIM paper).
use Rattle.std.specs.Prelude.{ℕ, ◌-◌, nat_lt, Bool, not, List, filter, map, Option, find}
use Rattle.std.specs.List.{list_any}
use Rattle.std.specs.Option.{option_map}
use Rattle.swim_wire.specs.declared.messages.Key.{Key}
use Rattle.swim_wire.specs.declared.messages.Version.{Version}
use Rattle.swim_wire.specs.Address.{Address}
use Rattle.swim_wire.specs.Probe.{same_key}

-- a probe that was asked for, who is to get the ack, in which version, and for how many more ticks it waits
pub record Request : Type 0 where
  pub key : Key
  pub peer : Address
  pub version : Version
  pub left : ℕ

-- how many requests may wait
abbrev pub most_waiting : ℕ
most_waiting = 64

-- a request of that probe waits
abbrev pub waits : Key → List Request → Bool
waits key requests = list_any (λ request. same_key request.key key) requests

-- the requests but for those of that probe
abbrev pub forget : Key → List Request → List Request
forget key requests = filter (λ request. not (same_key request.key key)) requests

-- who is to get the ack of that probe, and in which version
abbrev pub asker_for : Key → List Request → Option (Address × Version)
asker_for key requests =
    option_map (λ request. (request.peer, request.version)) (find (λ request. same_key request.key key) requests)

-- the request with one tick less
abbrev pub one_less : Request → Request
one_less request = record request { left = request.left - 1 }

-- after a tick: each has one tick less, and one that has none left is forgotten
abbrev pub aged : List Request → List Request
aged requests = filter (λ request. nat_lt 0 request.left) (map one_less requests)
