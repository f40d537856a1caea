-- What is known of the members by all that happened, the newest first.
use Rattle.std.specs.Prelude.{ℕ, ◌==◌, Bool, List, [], ◌∷◌, take, Option, Some, None, is_some, if◌then◌else◌}
use Rattle.std.specs.Option.{option_or}
use Rattle.swim_history.specs.Rows.{row_at}
use Rattle.swim_history.specs.declared.rows.Row.{Row}
use Rattle.swim_rejoin.specs.Failed.{verdict_in}
use Rattle.swim_rejoin.specs.Waits.{times_once_judged}

-- that member was knocked at with that number; the member table was looked at, and had these rows; that member was
-- joined again in that period, by the daemon itself; that N came into force, or was still in force: with a 0 all is
-- forgotten
pub data Event : Type 0 where
  Knocked : (id number : ℕ) → Event
  Looked : (rows : List Row) → Event
  Joined : (id period : ℕ) → Event
  Ruled : (rejoin : ℕ) → Event

-- the N that is in force; 0 before there is one
abbrev pub rejoin_in : List Event → ℕ
rejoin_in [] = 0
rejoin_in (Knocked id number ∷ before) = rejoin_in before
rejoin_in (Looked rows ∷ before) = rejoin_in before
rejoin_in (Joined id period ∷ before) = rejoin_in before
rejoin_in (Ruled rejoin ∷ before) = rejoin

-- the table that was last looked at
abbrev pub table_in : List Event → List Row
table_in [] = []
table_in (Knocked id number ∷ before) = table_in before
table_in (Looked rows ∷ before) = rows
table_in (Joined id period ∷ before) = table_in before
table_in (Ruled rejoin ∷ before) = if rejoin == 0 then [] else table_in before

abbrev pub is_known : ℕ → List Event → Bool
is_known id h = is_some (row_at (table_in h) id)

-- the numbers of the knocks at a member since the table shows it
abbrev pub knocks_at : ℕ → List Event → List ℕ
knocks_at id [] = []
knocks_at id (Knocked other number ∷ before) =
    if other == id then number ∷ knocks_at id before else knocks_at id before
knocks_at id (Looked rows ∷ before) = if is_known id before then knocks_at id before else []
knocks_at id (Joined other period ∷ before) = knocks_at id before
knocks_at id (Ruled rejoin ∷ before) = if rejoin == 0 then [] else knocks_at id before

-- how many of them an ack may answer
abbrev pub most_knocks : ℕ
most_knocks = 64

abbrev pub last_knocks : ℕ → List Event → List ℕ
last_knocks id h = take most_knocks (knocks_at id h)

-- the period in which a member was last joined again, since the table shows it
abbrev pub last_joined : ℕ → List Event → Option ℕ
last_joined id [] = None
last_joined id (Knocked other number ∷ before) = last_joined id before
last_joined id (Looked rows ∷ before) = if is_known id before then last_joined id before else None
last_joined id (Joined other period ∷ before) = if other == id then Some period else last_joined id before
last_joined id (Ruled rejoin ∷ before) = if rejoin == 0 then None else last_joined id before

-- the last verdict on a member that a table showed, since the table shows the member
abbrev pub last_verdict : ℕ → List Event → Option ℕ
last_verdict id [] = None
last_verdict id (Knocked other number ∷ before) = last_verdict id before
last_verdict id (Looked rows ∷ before) =
    option_or (verdict_in rows id) (if is_known id before then last_verdict id before else None)
last_verdict id (Joined other period ∷ before) = last_verdict id before
last_verdict id (Ruled rejoin ∷ before) = if rejoin == 0 then None else last_verdict id before

-- how many knocks since the verdict a member waits for before it is joined again: one at first
abbrev pub times : ℕ → List Event → ℕ
times id [] = 1
times id (Knocked other number ∷ before) = times id before
times id (Looked rows ∷ before) =
    if is_known id before
    then times_once_judged (times id before) (last_joined id before) (last_verdict id before) (verdict_in rows id)
    else 1
times id (Joined other period ∷ before) = times id before
times id (Ruled rejoin ∷ before) = if rejoin == 0 then 1 else times id before
