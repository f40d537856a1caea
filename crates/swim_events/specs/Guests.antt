-- Those who watch, each with what its outlet took.
use Rattle.std.specs.Prelude.{◌≡◌, ◌⊎◌, ◌↔◌, ℕ, ◌+◌, ◌≤◌, ◌==◌, Bool, true, false, List, [], ◌∷◌, ◌++◌, length, take}
use Rattle.std.specs.Prelude.{map, Option, Some, None, if◌then◌else◌}
use Rattle.std.specs.Option.{unwrap_or}
use Rattle.swim_history.specs.declared.rows.Row.{Row}
use Rattle.swim_history.specs.declared.rows.Change.{Change}
use Rattle.swim_trail.specs.Growing.{Grows}
use Rattle.swim_events.specs.declared.outlets.Offer.{Offer}
use Rattle.swim_events.specs.declared.outlets.Offer.TheVariants.{Took, Full, Gone}
use Rattle.swim_events.specs.declared.watchers.WatcherStanding.TheVariants.{Following, Lost}
use Rattle.swim_events.specs.Texts.{change_text, table_text}
use Rattle.swim_events.specs.Watchers.{AtWatcher, after_sent, after_text, is_behind}

-- what became of an offer, and the bytes that were offered
abbrev pub Offering : Type 0
Offering = Offer × List ℕ

-- a watcher, and since when nothing of what waits could be sent to it, if that is so; the bytes that its outlet took,
-- and all that was offered to it, oldest first, where these are known
pub record AtGuest : Type 0 where
  pub watcher : AtWatcher
  pub stuck : Option ℕ
  pub taken : Option (List ℕ)
  pub offers : Option (List Offering)

-- what an outlet takes of bytes: the first ones, or none
abbrev pub Takes : Offer → List ℕ → Option (List ℕ) → Option (List ℕ) → Type 0
Takes (Took count) bytes old new = (count ≤ length bytes) × Grows old new (take count bytes)
Takes Full bytes old new = Grows old new []
Takes Gone bytes old new = Grows old new []

-- an outlet took nothing yet, as far as that is known
abbrev pub IsUntaken : Option (List ℕ) → Type 0
IsUntaken None = Unit {0}
IsUntaken (Some taken) = taken ≡ []

-- who comes is told these rows first
abbrev pub newcomer : List Row → Option (List ℕ) → Option (List Offering) → AtGuest
newcomer rows taken offers =
    record {
      watcher = record { pending = table_text rows; standing = Following };
      stuck = None;
      taken = taken;
      offers = offers;
    }

abbrev pub put_text : List ℕ → AtGuest → AtGuest
put_text text g = record g { watcher = after_text text g.watcher }

-- it doesn't keep up
abbrev pub is_losing : AtGuest → Bool
is_losing g = is_behind g.watcher

-- after a change, if there is one: each was put its text
abbrev pub told_of : Option Change → List AtGuest → List AtGuest
told_of None guests = guests
told_of (Some change) guests = map (put_text (change_text change)) guests

abbrev pub after_offer : Offer → AtWatcher → AtWatcher
after_offer (Took count) w = after_sent count w
after_offer Full w = w
after_offer Gone w = w

-- how many bytes were taken
abbrev pub taken_by : Offer → ℕ
taken_by (Took count) = count
taken_by Full = 0
taken_by Gone = 0

-- since when nothing of what waits could be sent, after these bytes were offered at this time: since none of them was
-- taken; one that was taken ends it, and where none wait it has no beginning
abbrev pub stuck_then : ℕ → List ℕ → Offer → Option ℕ → Option ℕ
stuck_then time [] offer since = None
stuck_then time (byte ∷ bytes) offer since = if taken_by offer == 0 then Some (unwrap_or since time) else None

-- at this time that has been so for ten seconds
abbrev pub IsGivenUp : ℕ → Option ℕ → Type 0
IsGivenUp time None = ⊥
IsGivenUp time (Some since) = since + 10000 ≤ time

-- a turn at this time, in milliseconds: all that was to be sent was offered, once, and what was taken of it is to be
-- sent no more. There is no other turn where nobody takes it any more, where the watcher was told of its loss, and
-- where nothing could be sent to it for ten seconds
pub record IsTurn (time : ℕ) (old : AtGuest) (offer : Offer) (new : AtGuest) (goes_on : Bool) : Type 0 where
  pub takes : Takes offer old.watcher.pending old.taken new.taken
  pub offered : Grows old.offers new.offers ((offer, old.watcher.pending) ∷ [])
  pub watcher : new.watcher ≡ after_offer offer old.watcher
  pub stuck : new.stuck ≡ stuck_then time old.watcher.pending offer old.stuck
  pub leaves : (goes_on ≡ false)
      ↔ ((offer ≡ Gone) ⊎ ((new.watcher.standing ≡ Lost) × (new.watcher.pending ≡ [])) ⊎ IsGivenUp time new.stuck)

abbrev pub kept_if : Bool → AtGuest → List AtGuest
kept_if true g = g ∷ []
kept_if false g = []

-- the turn of the first of those who watch, who is the last then, or left
pub record TakesTurn (time : ℕ) (first : AtGuest) (others new : List AtGuest) : Type 0 where
  pub offer : Offer
  pub then_so : AtGuest
  pub goes_on : Bool
  pub turn : IsTurn time first offer then_so goes_on
  pub are : new ≡ others ++ kept_if goes_on then_so

-- each had one turn at this time, and those who didn't leave stand as they stood
abbrev pub AreSent : ℕ → List AtGuest → List AtGuest → Type 0
AreSent time [] new = new ≡ []
AreSent time (first ∷ others) new =
    (offer : Offer) × (then_so : AtGuest) × (goes_on : Bool) × IsTurn time first offer then_so goes_on
    × ((rest : List AtGuest) × AreSent time others rest × (new ≡ kept_if goes_on then_so ++ rest))
