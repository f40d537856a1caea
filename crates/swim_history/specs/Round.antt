-- The two lists of a round, after a history (section 4.3 of the SWIM paper).
use Rattle.std.specs.Prelude.{ℕ, List, [], ◌∷◌, Option, Some, None, filter}
use Rattle.swim_wire.specs.Round.{Lists, all_of, leave, leave_judged, redraw, advance, join_at}
use Rattle.swim_history.specs.declared.calls.Call.{Call}
use Rattle.swim_history.specs.declared.calls.Call.TheVariants.{Tick, Join, Remove}
use Rattle.swim_history.specs.declared.replies.Reply.{Reply}
use Rattle.swim_history.specs.declared.replies.Reply.TheVariants.{Started, Joined, Removed}
use Rattle.swim_history.specs.declared.entries.Choice.{Choice}
use Rattle.swim_history.specs.declared.entries.Choice.TheVariants.{Nothing, Round}
use Rattle.swim_history.specs.declared.entries.Entry.{Entry}
use Rattle.swim_history.specs.Setting.{Setting, ids_of, is_state_up}

-- the order that was drawn, if any
abbrev pub drawn : Choice → Option (List ℕ)
drawn Nothing = None
drawn (Round order) = Some order.items

-- the lists after an entry
abbrev pub lists_then : Call → Reply → Choice → Lists → Lists
lists_then Tick (Started judged probe) choice r = advance (redraw (drawn choice) (leave_judged judged r))
lists_then (Join id peer) (Joined place) choice r = join_at id place r
lists_then (Remove id) Removed choice r = leave id r
lists_then call reply choice r = r

-- the lists after a history: at the start all members that are up were probed, in the order given
abbrev pub lists : Setting → List Entry → Lists
lists o [] = record { probed = ids_of (filter (λ row. is_state_up row.state) o.rows); rest = [] }
lists o (e ∷ before) = lists_then e.call e.reply e.choice (lists o before)

-- the listed members: those probed, then those to be probed
abbrev pub listed : Setting → List Entry → List ℕ
listed o h = all_of (lists o h)
