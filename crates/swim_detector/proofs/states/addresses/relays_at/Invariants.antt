use Rattle.std.proofs.Common.{◌≡◌, length, map, take}
use Rattle.swim_detector.specs.Mirrors.{AreAt}
use Rattle.swim_detector.proofs.states.addresses.relays_at.Given as goal

-- the members so far, with their addresses
abbrev pub invariant-loop-id : goal.invariant-loop-id
invariant-loop-id l = record {
  are : map (λ relay. relay.id) l.relays.items ≡ take l.id-index l.ids;
  at : AreAt l.journal.opening l.journal.past l.relays.items;
  count : length l.relays.items ≡ l.id-index;
}
