-- Messages whose senders aren't as the member table has them.
use Rattle.std.specs.Prelude.{◌≡◌, ℕ, ◌+◌, ◌==◌, not, ◌&&◌, Bool, false, List, [], ◌∷◌, ◌++◌, find, length}
use Rattle.std.specs.Prelude.{Option, Some, None, is_some, if◌then◌else◌}
use Rattle.std.specs.Option.{option_map, option_to_list}
use Rattle.std.specs.Str.{bytes_eq}
use Rattle.swim_wire.specs.Address.{Address}
use Rattle.swim_wire.specs.Messages.{Message}
use Rattle.swim_history.specs.declared.calls.Call.{Call}
use Rattle.swim_history.specs.declared.calls.Call.TheVariants.{Hear}
use Rattle.swim_history.specs.declared.entries.Entry.{Entry}
use Rattle.swim_history.specs.declared.rows.Row.{Row}
use Rattle.swim_history.specs.Changes.{table}
use Rattle.swim_history.specs.Setting.{Setting}
use Rattle.swim_events.specs.Watched.{Lived}
use Rattle.swim_metrics.specs.Counting.{capped, is_ping}
use Rattle.swim_metrics.specs.declared.odd_senders.OddCount.{OddCount}
use Rattle.swim_metrics.specs.declared.odd_senders.OddMessage.{OddMessage}
use Rattle.swim_metrics.specs.declared.odd_senders.OddSenders.{OddSenders}

-- ---- a message

-- where the table has a member, if it is known
abbrev pub place_of : ℕ → List Row → Option Address
place_of m rows = option_map (λ row. row.peer) (find (λ row. row.id == m) rows)

abbrev pub is_same : Address → Address → Bool
is_same a b = bytes_eq a.ip b.ip && a.port == b.port

-- a ping of a sender that is neither known nor this member
abbrev pub is_unlisted : ℕ → Message → Option Address → Bool
is_unlisted me m listed = is_ping m.kind && not (m.sender == me) && not (is_some listed)

-- it came from another address than that at which the table has its sender
abbrev pub is_elsewhere : Address → Option Address → Bool
is_elsewhere source None = false
is_elsewhere source (Some listed) = not (is_same listed source)

abbrev pub message_if : Bool → Message → Address → Option Address → Option OddMessage
message_if is_odd m source listed =
    if is_odd then Some (record { sender = m.sender; source = source; listed = listed }) else None

-- ---- the same of a call, at this member, while the table has these rows

-- whoever pings isn't listed
abbrev pub unlisted : ℕ → List Row → Call → Option OddMessage
unlisted me rows (Hear source m) =
    message_if (is_unlisted me m (place_of m.sender rows)) m source (place_of m.sender rows)
unlisted me rows call = None

-- whoever speaks has this member's id
abbrev pub own_id : ℕ → List Row → Call → Option OddMessage
own_id me rows (Hear source m) = message_if (m.sender == me) m source (place_of m.sender rows)
own_id me rows call = None

-- whoever speaks is listed elsewhere
abbrev pub elsewhere : ℕ → List Row → Call → Option OddMessage
elsewhere me rows (Hear source m) =
    message_if (is_elsewhere source (place_of m.sender rows)) m source (place_of m.sender rows)
elsewhere me rows call = None

-- ---- those of entries

-- such messages of a life, the newest first
abbrev pub odd_in : (ℕ → List Row → Call → Option OddMessage) → Setting → List Entry → List OddMessage
odd_in which o [] = []
odd_in which o (e ∷ before) = option_to_list (which o.me (table o before) e.call) ++ odd_in which o before

-- those of all lives
abbrev pub odd : (ℕ → List Row → Call → Option OddMessage) → List Lived → List OddMessage
odd which [] = []
odd which (life ∷ older) = odd_in which life.opening life.past ++ odd which older

-- ---- what is held of them

abbrev pub newest : List OddMessage → Option OddMessage
newest [] = None
newest (message ∷ older) = Some message

abbrev pub count_of : List OddMessage → OddCount
count_of messages = record { count = capped (length messages); newest = newest messages }

-- what is held is what all these lives come to
abbrev pub senders_of : List Lived → OddSenders
senders_of lives = record {
  unlisted = count_of (odd unlisted lives);
  own_id = count_of (odd own_id lives);
  elsewhere = count_of (odd elsewhere lives);
}

-- with a message more, if it is odd
abbrev pub count_then : Option OddMessage → OddCount → OddCount
count_then None count = count
count_then (Some message) count = record { count = capped (count.count + 1); newest = Some message }

abbrev pub senders_then : ℕ → List Row → Call → OddSenders → OddSenders
senders_then me rows call s = record {
  unlisted = count_then (unlisted me rows call) s.unlisted;
  own_id = count_then (own_id me rows call) s.own_id;
  elsewhere = count_then (elsewhere me rows call) s.elsewhere;
}
