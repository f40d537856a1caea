-- What happens to a receiver beside the datagrams that it hears, newest first, and what that is of members that come
-- back.
use Rattle.std.specs.Prelude.{ℕ, ◌+◌, List, [], ◌∷◌, ◌++◌}
use Rattle.swim_history.specs.declared.rows.Row.{Row}
use Rattle.swim_rejoin.specs.Histories.{Event}
use Rattle.swim_rejoin.specs.Histories.Event.{Joined, Knocked, Looked, Ruled}
use Rattle.swim_work.specs.declared.tidings.Note.{Note}
use Rattle.swim_work.specs.declared.tidings.Tidings.{Tidings}

-- its inbox gave it these tidings; the member table was looked at, and had these rows; it joined that member again; its
-- lookup answered that N
pub data Happening : Type 0 where
  Told : (tidings : Tidings) → Happening
  Shown : (rows : List Row) → Happening
  Rejoined : (id : ℕ) → Happening
  Asked : (rejoin : ℕ) → Happening

-- the period that runs by the last tidings; 0 before there were some
abbrev pub period_told : List Happening → ℕ
period_told [] = 0
period_told (Told tidings ∷ before) = tidings.period
period_told (Shown rows ∷ before) = period_told before
period_told (Rejoined id ∷ before) = period_told before
period_told (Asked rejoin ∷ before) = period_told before

-- all that happened to members, and then these knocks, oldest first
abbrev pub with_knocks : List Note → List Event → List Event
with_knocks [] h = h
with_knocks (note ∷ notes) h = with_knocks notes (Knocked note.id note.number ∷ h)

-- what happened to members that come back: a member is joined again in the period that runs by the last tidings
abbrev pub events_in : List Happening → List Event
events_in [] = []
events_in (Told tidings ∷ before) = with_knocks tidings.notes.items (events_in before)
events_in (Shown rows ∷ before) = Looked rows ∷ events_in before
events_in (Rejoined id ∷ before) = Joined id (period_told before) ∷ events_in before
events_in (Asked rejoin ∷ before) = Ruled rejoin ∷ events_in before

-- how many times a member was joined again
abbrev pub joins_in : List Happening → ℕ
joins_in [] = 0
joins_in (Told tidings ∷ before) = joins_in before
joins_in (Shown rows ∷ before) = joins_in before
joins_in (Rejoined id ∷ before) = joins_in before + 1
joins_in (Asked rejoin ∷ before) = joins_in before

-- the tidings, oldest first
abbrev pub tidings_in : List Happening → List Tidings
tidings_in [] = []
tidings_in (Told tidings ∷ before) = tidings_in before ++ tidings ∷ []
tidings_in (Shown rows ∷ before) = tidings_in before
tidings_in (Rejoined id ∷ before) = tidings_in before
tidings_in (Asked rejoin ∷ before) = tidings_in before

-- each N that came into force or was still in force, oldest first
abbrev pub rules_in : List Happening → List ℕ
rules_in [] = []
rules_in (Told tidings ∷ before) = rules_in before
rules_in (Shown rows ∷ before) = rules_in before
rules_in (Rejoined id ∷ before) = rules_in before
rules_in (Asked rejoin ∷ before) = rules_in before ++ rejoin ∷ []
