use Rattle.std.proofs.Common.{◌≤◌, length, length-append, append-nil, arith}
use Rattle.swim_history.specs.Storing.StoredReplies.{relays_in}
use Rattle.swim_history.specs.Storing.Written.{undrawn}
use Rattle.swim_history.proofs.Storing.{entry_put, placed_then, within_then}
use Rattle.swim_history.proofs.storage.Entries.push_undrawn.Goals as goal

pub returns-clause-items : goal.returns-clause-items
returns-clause-items c =
    let e = c.self.inside in
    let put = entry_put e.ids.items e.relays.items e.whole.items e.slots.items
    (undrawn c.args.seat c.args.number c.args.call.now c.args.reply.now) c.self.invariant.0 c.self.invariant.1 in
    rw (
      ← c.self.view_is,
      c.store_whole.ensures.slots,
      c.store_whole.ensures.whole,
      c.store_reply.ensures.relays,
      c.store_reply.ensures.stored,
    ) (rw (append-nil e.ids.items) at put)

pub invariant_of-self-2 : goal.invariant_of-self-2
invariant_of-self-2 c =
    let e = c.self.inside in
    let asked : length e.relays.items ≤ length c.store_reply.new.relays.items =
    rw c.store_reply.ensures.relays (omega (arith, length-append e.relays.items (relays_in c.args.reply.now))) in
    rw (c.store_whole.ensures.slots, c.store_whole.ensures.whole) (
      placed_then e.whole.items _ e.slots.items _ _ c.self.invariant.0,
      within_then (length e.ids.items) (length e.ids.items) (length e.relays.items)
          (length c.store_reply.new.relays.items) e.whole.items _ (omega arith) asked c.self.invariant.1
          (tt, c.store_reply.ensures.within),
    )
