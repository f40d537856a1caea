-- How many messages of a kind are sent.
use Rattle.std.proofs.Common.{◌≡◌, ◌+◌, Bool, true, false, cond, nat_eq, List, [], ◌∷◌, map, length, refl, ap, ◌∙◌}
use Rattle.std.proofs.Common.{arith}
use Rattle.std.specs.List.{count_by}
use Rattle.std.proofs.lemmas.List.{length-map}
use Rattle.std.proofs.lemmas.List.Sums.{sum_by-cons}
use Rattle.swim_wire.specs.Address.{Address}
use Rattle.swim_wire.specs.Messages.{Message}
use Rattle.swim_wire.specs.declared.messages.Kind.TheVariants.{PingReq}
use Rattle.swim_history.specs.declared.replies.Probe.{Probe}
use Rattle.swim_history.specs.declared.replies.Relay.{Relay}
use Rattle.swim_history.specs.Sends.{own, to_each}
use Rattle.swim_history.specs.Setting.{Setting}
use Rattle.swim_metrics.specs.Counting.{sends_ask, sends_ping}

-- one message to each address: each is counted, or none
each_counts : (test : Address × Message → Bool) (m : Message) (so : Bool) (peers : List Address) →
    ((peer : Address) → test (peer, m) ≡ so) →
    count_by test (map (λ peer. (peer, m)) peers) ≡ cond so (length peers) 0
each_counts test m true [] is = refl
each_counts test m false [] is = refl
each_counts test m so (peer ∷ peers) is =
    sum_by-cons (λ s. cond (test s) 1 0) (peer, m) (map (λ p. (p, m)) peers)
    ∙ ap (λ b. cond b 1 0 + count_by test (map (λ p. (p, m)) peers)) (is peer)
    ∙ ap (λ n. cond so 1 0 + n) (each_counts test m so peers is)
    ∙ by_so so
  where
    by_so : (so : Bool) → cond so 1 0 + cond so (length peers) 0 ≡ cond so (length (peer ∷ peers)) 0
    by_so true = omega arith
    by_so false = refl

-- requests are asks, and no pings
pub asks_to_each : (o : Setting) (probe : Probe) (relays : List Relay) →
    count_by sends_ask (to_each o PingReq probe (map (λ relay. relay.peer) relays)) ≡
    cond (nat_eq probe.number 0) 0 (length relays)
asks_to_each o probe relays = by_number (nat_eq probe.number 0) where
  peers : List Address
  peers = map (λ (relay : Relay). relay.peer) relays

  by_number : (none : Bool) → count_by sends_ask (cond none [] (map (λ peer. (peer, own o PingReq probe)) peers)) ≡
      cond none 0 (length relays)
  by_number true = refl
  by_number false = each_counts sends_ask (own o PingReq probe) true peers (λ _. refl) ∙
      length-map relays (λ (relay : Relay). relay.peer)

pub pings_to_each : (o : Setting) (probe : Probe) (peers : List Address) →
    count_by sends_ping (to_each o PingReq probe peers) ≡ 0
pings_to_each o probe peers = by_number (nat_eq probe.number 0) where
  by_number : (none : Bool) → count_by sends_ping (cond none [] (map (λ peer. (peer, own o PingReq probe)) peers)) ≡ 0
  by_number true = refl
  by_number false = each_counts sends_ping (own o PingReq probe) false peers (λ _. refl)
