-- What the lines of tables and events say to whoever reads them.
use Rattle.std.specs.Prelude.{◌≡◌, ℕ, List, ◌∷◌, ◌++◌, map, Result, Ok}
use Rattle.std.specs.List.{concat}
use Rattle.swim_text.specs.Lines.{pieces, bare}
use Rattle.swim_history.specs.declared.rows.Row.{Row}
use Rattle.swim_events.specs.declared.events.Event.{Event as Happened}
use Rattle.swim_events.specs.declared.events.Event.TheVariants as events
use Rattle.swim_events.specs.Texts.{event_text, shown}
use Rattle.swim_watch.specs.declared.feed_events.NoEvent.{NoEvent}
use Rattle.swim_watch.specs.declared.feed_events.FeedEvent.{FeedEvent}
use Rattle.swim_watch.specs.declared.feed_events.FeedEvent.TheVariants.{Event, TableEnds}
use Rattle.swim_watch.specs.Lines.{said_of}

-- what the lines of a text say, the first of them first
abbrev pub said_in : List ℕ → List (Result FeedEvent NoEvent)
said_in text = map (λ line. said_of (bare line)) (pieces text)

-- that this happened
abbrev pub event_said : Happened → Result FeedEvent NoEvent
event_said event = Ok (Event event)

-- that a member stands so
abbrev pub row_said : Row → Result FeedEvent NoEvent
row_said row = event_said (events.Changed (shown row))

-- the lines of events, the first of them first
abbrev pub events_text : List Happened → List ℕ
events_text happened = concat (map event_text happened)

-- a table's rows, that it ends, and then events
abbrev pub told_said : List Row → List Happened → List (Result FeedEvent NoEvent)
told_said rows happened = map row_said rows ++ Ok TableEnds ∷ map event_said happened

-- the line of an event is one line of every text that it begins, and says the event
pub record IsReadBack (event : Happened) : Type 0 where
  pub says : said_of (bare (event_text event)) ≡ event_said event
  pub line : (rest : List ℕ) → pieces (event_text event ++ rest) ≡ event_text event ∷ pieces rest
