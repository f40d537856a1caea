-- No object of an event has a float.
use Rattle.std.proofs.Common.{◌≡◌, ℕ, false, List, Result, Ok, Err, refl}
use Rattle.serde_json.specs.Written.{has_float}
use Rattle.swim_history.specs.declared.rows.Change.TheVariants as changes
use Rattle.swim_events.specs.declared.events.Event.TheVariants as events
use Rattle.swim_watch.specs.declared.feed_events.NoEvent.{NoEvent}
use Rattle.swim_watch.specs.declared.feed_events.FeedEvent.{FeedEvent}
use Rattle.swim_watch.specs.declared.feed_events.FeedEvent.TheVariants.{Event, TableEnds, Again}
use Rattle.swim_watch.specs.Objects.{shown_data}

pub no_float : (said : Result FeedEvent NoEvent) (time : List ℕ) → has_float (shown_data said time) ≡ false
no_float (Ok (Event (events.Changed (changes.Up id peer)))) time = refl
no_float (Ok (Event (events.Changed (changes.Failed id number)))) time = refl
no_float (Ok (Event (events.Changed (changes.Gone id)))) time = refl
no_float (Ok (Event (events.Life number))) time = refl
no_float (Ok (Event events.Lost)) time = refl
no_float (Ok (Event events.Ended)) time = refl
no_float (Ok TableEnds) time = refl
no_float (Ok Again) time = refl
no_float (Err nothing) time = refl
