use Rattle.std.proofs.Common.{◌≡◌, length, map, take}
use Rattle.swim_history.proofs.sending.peers_of.Given as goal

-- the addresses of the relays so far
abbrev pub invariant-loop-relay : goal.invariant-loop-relay
invariant-loop-relay l = (l.peers.items ≡ map (λ relay. relay.peer) (take l.relay-index l.relays)) ×
    (length l.peers.items ≡ l.relay-index)
