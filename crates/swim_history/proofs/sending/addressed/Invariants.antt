use Rattle.std.proofs.Common.{◌≡◌, length, map, take}
use Rattle.swim_history.proofs.sending.addressed.Given as goal

-- the message with each address so far
abbrev pub invariant-loop-peer : goal.invariant-loop-peer
invariant-loop-peer l = (l.sent.items ≡ map (λ peer. (peer, l.message)) (take l.peer-index l.peers)) ×
    (length l.sent.items ≡ l.peer-index)
