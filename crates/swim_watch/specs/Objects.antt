-- Lines of events as JSON: an object each, with the event and the time at which it came.
use Rattle.std.specs.Prelude.{ℕ, List, Result, Ok, Err, codes}
use Rattle.serde_json.specs.Data.{Data, Members, number, unsigned, string, object, member, no_members}
use Rattle.swim_wire.specs.Address.{address_text}
use Rattle.swim_history.specs.declared.rows.Change.{Change}
use Rattle.swim_history.specs.declared.rows.Change.TheVariants as changes
use Rattle.swim_events.specs.declared.events.Event.{Event as Happened}
use Rattle.swim_events.specs.declared.events.Event.TheVariants as events
use Rattle.swim_watch.specs.declared.feed_events.NoEvent.{NoEvent}
use Rattle.swim_watch.specs.declared.feed_events.FeedEvent.{FeedEvent}
use Rattle.swim_watch.specs.declared.feed_events.FeedEvent.TheVariants.{Event, TableEnds, Again}

-- the time, which stands last
abbrev pub at_time : List ℕ → Members
at_time time = member (codes "time") (string time) no_members

-- an event of which there is no more to say
abbrev pub word_data : List ℕ → List ℕ → Data
word_data word time = object (member (codes "event") (string word) (at_time time))

-- a life
abbrev pub number_data : ℕ → List ℕ → Data
number_data life time =
    object (member (codes "event") (string (codes "life"))
    (member (codes "life") (number (unsigned life)) (at_time time)))

-- a change of a member of that id, and what more is to say of it
abbrev pub member_data : List ℕ → ℕ → Members → Data
member_data word id more =
    object (member (codes "event") (string word) (member (codes "id") (number (unsigned id)) more))

abbrev pub change_data : Change → List ℕ → Data
change_data (changes.Up id peer) time =
    member_data (codes "up") id (member (codes "peer") (string (address_text peer)) (at_time time))
change_data (changes.Failed id period) time =
    member_data (codes "failed") id (member (codes "period") (number (unsigned period)) (at_time time))
change_data (changes.Gone id) time = member_data (codes "gone") id (at_time time)

abbrev pub event_data : Happened → List ℕ → Data
event_data (events.Changed change) time = change_data change time
event_data (events.Life life) time = number_data life time
event_data events.Lost time = word_data (codes "lost") time
event_data events.Ended time = word_data (codes "ended") time

abbrev pub data_of : FeedEvent → List ℕ → Data
data_of (Event event) time = event_data event time
data_of TableEnds time = word_data (codes "table_ends") time
data_of Again time = word_data (codes "again") time

-- what a line said, or that it is unknown what
abbrev pub shown_data : Result FeedEvent NoEvent → List ℕ → Data
shown_data (Ok said) time = data_of said time
shown_data (Err nothing) time = word_data (codes "other") time
