-- How a reply is stored: the relays that it asks stand apart.
use Rattle.std.specs.Prelude.{ℕ, ◌+◌, ◌≤◌, List, [], length, take, drop, Option, Some, None}
use Rattle.swim_history.specs.declared.replies.Relay.{Relay}
use Rattle.swim_history.specs.declared.replies.Reply.{Reply}
use Rattle.swim_history.specs.declared.replies.Reply.TheVariants as replies
use Rattle.swim_history.specs.declared.stored_replies.Start.{Start}
use Rattle.swim_history.specs.declared.stored_replies.StoredReply.{StoredReply}
use Rattle.swim_history.specs.declared.stored_replies.StoredReply.TheVariants as stored

-- the relays that a reply asks
abbrev pub relays_in : Reply → List Relay
relays_in (replies.Asked target peer number relays) = relays.items
relays_in reply = []

-- how it is stored where its relays stand behind so many others
abbrev pub reply_at : ℕ → Reply → StoredReply
reply_at start replies.Quiet = stored.Quiet
reply_at start (replies.Started judged probe) = stored.Started judged probe
reply_at start (replies.Asked target peer number relays) = stored.Asked target peer number (length relays.items) start
reply_at start replies.Heard = stored.Heard
reply_at start (replies.Send peer message) = stored.Send peer message
reply_at start (replies.Dropped reason) = stored.Dropped reason
reply_at start (replies.Joined place) = stored.Joined place
reply_at start replies.Removed = stored.Removed
reply_at start (replies.Refused reason) = stored.Refused reason

-- the reply, among the relays of all replies
abbrev pub reply_among : List Relay → StoredReply → Reply
reply_among relays stored.Quiet = replies.Quiet
reply_among relays (stored.Started judged probe) = replies.Started judged probe
reply_among relays (stored.Asked target peer number count start) =
    replies.Asked target peer number (record { items = take count (drop start relays) })
reply_among relays stored.Heard = replies.Heard
reply_among relays (stored.Send peer message) = replies.Send peer message
reply_among relays (stored.Dropped reason) = replies.Dropped reason
reply_among relays (stored.Joined place) = replies.Joined place
reply_among relays stored.Removed = replies.Removed
reply_among relays (stored.Refused reason) = replies.Refused reason

-- what a reply begins, if a period
abbrev pub start_in : Reply → Option Start
start_in (replies.Started judged probe) = Some (record { judged = judged; probe = probe })
start_in reply = None

-- its relays stand within so many, and a reply has room for them
abbrev pub IsAskedWithin : ℕ → StoredReply → Type 0
IsAskedWithin relays (stored.Asked target peer number count start) = (count ≤ 8) × (start + count ≤ relays)
IsAskedWithin relays reply = Unit {0}
