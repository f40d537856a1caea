use Rattle.std.proofs.Common.{◌≤◌, length, length-append, arith}
use Rattle.swim_history.specs.Storing.Storage.{ids_in}
use Rattle.swim_history.specs.Storing.StoredReplies.{relays_in}
use Rattle.swim_history.proofs.Storing.{entry_put, placed_then, within_then}
use Rattle.swim_history.proofs.storage.Entries.push.Goals as goal

pub returns-clause-items : goal.returns-clause-items
returns-clause-items c =
    let e = c.self.inside in
    rw (
      ← c.self.view_is,
      c.store_whole.ensures.slots,
      c.store_whole.ensures.whole,
      c.store_ids.ensures.ids,
      c.store_ids.ensures.drawn,
      c.store_reply.ensures.relays,
      c.store_reply.ensures.stored,
    )
    (entry_put e.ids.items e.relays.items e.whole.items e.slots.items c.args.entry.now c.self.invariant.0
    c.self.invariant.1)

pub invariant_of-self : goal.invariant_of-self
invariant_of-self c =
    let e = c.self.inside in
    let more : length e.ids.items ≤ length c.store_ids.new.ids.items =
    rw c.store_ids.ensures.ids (omega (arith, length-append e.ids.items (ids_in c.args.entry.now.choice))) in
    let asked : length e.relays.items ≤ length c.store_reply.new.relays.items =
    rw c.store_reply.ensures.relays
    (omega (arith, length-append e.relays.items (relays_in c.args.entry.now.reply))) in
    rw (c.store_whole.ensures.slots, c.store_whole.ensures.whole) (
      placed_then e.whole.items _ e.slots.items _ _ c.self.invariant.0,
      within_then (length e.ids.items) (length c.store_ids.new.ids.items) (length e.relays.items)
          (length c.store_reply.new.relays.items) e.whole.items _ more asked c.self.invariant.1
          (c.store_ids.ensures.within, c.store_reply.ensures.within),
    )
