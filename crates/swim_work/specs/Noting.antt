-- What the ticker leaves for the receiver.
use Rattle.std.specs.Prelude.{◌≡◌, ℕ, ◌==◌, List, [], ◌∷◌, ◌++◌, length, Option, Some, None, if◌then◌else◌}
use Rattle.std.specs.Option.{option_map}
use Rattle.swim_history.specs.declared.rows.Row.{Row}
use Rattle.swim_rejoin.specs.declared.knockers.KnockPing.{KnockPing}
use Rattle.swim_rejoin.specs.Knockers.{Follows, Kept, knock_at}
use Rattle.swim_rejoin.specs.Knocking.{Start, at_start, knocked_by}
use Rattle.swim_work.specs.declared.tidings.Note.{Note}

-- at whom a knock is, and its number
abbrev pub note_of : KnockPing → Note
note_of knock = record { id = knock.message.target; number = knock.message.number }

-- how many knocks may wait for the receiver
abbrev pub most_notes : ℕ
most_notes = 64

-- these wait, and then the knock, if there is one. Where too many wait, it is forgotten
abbrev pub noted : List Note → Option KnockPing → List Note
noted notes None = notes
noted notes (Some knock) = if length notes == most_notes then notes else notes ++ note_of knock ∷ []

-- the period with that number begins while that N is in force, and the table has these rows: the knock that is due, if
-- one is, and what the knocker keeps
pub record Begins (old : Kept) (rejoin : ℕ) (rows : List Row) (number : ℕ) (knock : Option KnockPing) (new : Kept) :
    Type 0 where
  pub me : new.me ≡ old.me
  pub version : new.version ≡ old.version
  pub due : (h : List Start) → Follows old h →
      knock ≡ option_map (knock_at old.me old.version number) (knocked_by rejoin h rows)
  pub follows : (h : List Start) → Follows old h → Follows new (at_start rejoin rows ∷ h)
