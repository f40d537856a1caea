-- What contracts see of the entries of a journal, and how those are stored.
use Rattle.std.specs.Prelude.{ℕ, ◌+◌, ◌<◌, ◌≤◌, List, [], length, take, drop, slice_index_or}
use Rattle.std.specs.List.{AllByRecursion}
use Rattle.swim_history.specs.declared.calls.Call.TheVariants.{Tick}
use Rattle.swim_history.specs.declared.replies.Reply.TheVariants as replies
use Rattle.swim_history.specs.declared.entries.Choice.{Choice}
use Rattle.swim_history.specs.declared.entries.Choice.TheVariants as choices
use Rattle.swim_history.specs.declared.entries.Entry.{Entry}
use Rattle.swim_history.specs.declared.storage.Drawn.{Drawn}
use Rattle.swim_history.specs.declared.storage.Drawn.TheVariants.{Nothing, Round}
use Rattle.swim_history.specs.declared.storage.Slot.{Slot}
use Rattle.swim_history.specs.declared.storage.Slot.TheVariants.{Quiet, Whole}
use Rattle.swim_history.specs.declared.storage.Stored.{Stored}
use Rattle.swim_history.specs.declared.stored_replies.StoredReply.TheVariants as stored_replies
use Rattle.swim_history.specs.declared.replies.Relay.{Relay}
use Rattle.swim_history.specs.Storing.StoredReplies.{reply_among, IsAskedWithin}

pub record Storage : Type 0 where
  -- oldest first
  pub items : List Entry
  -- how many more entries take no memory
  pub room : ℕ

-- the ids of what was drawn
abbrev pub ids_in : Choice → List ℕ
ids_in choices.Nothing = []
ids_in (choices.Round order) = order.items

-- where they stand if they are put behind so many others
abbrev pub drawn_at : ℕ → Choice → Drawn
drawn_at start choices.Nothing = Nothing
drawn_at start (choices.Round order) = Round (length order.items) start

-- what was drawn, among the ids of all orders
abbrev pub choice_among : List ℕ → Drawn → Choice
choice_among ids Nothing = choices.Nothing
choice_among ids (Round count start) = choices.Round (record { items = take count (drop start ids) })

-- an entry that is stored whole, among the ids of all orders and all relays
abbrev pub entry_among : List ℕ → List Relay → ℕ → ℕ → Stored → Entry
entry_among ids relays seat number stored = record {
  seat = seat;
  number = number;
  call = stored.call;
  choice = choice_among ids stored.drawn;
  reply = reply_among relays stored.reply;
}

-- what was drawn stands within so many ids, and an order has room for it
abbrev pub IsWithin : ℕ → Drawn → Type 0
IsWithin ids Nothing = Unit {0}
IsWithin ids (Round count start) = (count ≤ 128) × (start + count ≤ ids)

-- so it is of all stored entries, and of the relays that they ask
abbrev pub IsStoredWithin : ℕ → ℕ → Stored → Type 0
IsStoredWithin ids relays stored = IsWithin ids stored.drawn × IsAskedWithin relays stored.reply

abbrev pub AreWithin : ℕ → ℕ → List Stored → Type 0
AreWithin ids relays entries = AllByRecursion (IsStoredWithin ids relays) entries

-- some stored entry, for a place where there is none
abbrev pub no_stored : Stored
no_stored = record { drawn = Nothing; call = Tick; reply = stored_replies.Quiet }

-- an entry, among those that are stored whole
abbrev pub entry_in : List ℕ → List Relay → List Stored → Slot → Entry
entry_in ids relays whole (Quiet seat number) =
    record { seat = seat; number = number; call = Tick; choice = choices.Nothing; reply = replies.Quiet }
entry_in ids relays whole (Whole seat number place) =
    entry_among ids relays seat number (slice_index_or whole place no_stored)

-- an entry that is stored whole stands among so many of them
abbrev pub IsPlaced : ℕ → Slot → Type 0
IsPlaced count (Quiet seat number) = Unit {0}
IsPlaced count (Whole seat number place) = place < count

-- so does each of them
abbrev pub ArePlaced : ℕ → List Slot → Type 0
ArePlaced count slots = AllByRecursion (IsPlaced count) slots
