-- What the ticker of a life knocks.
use Rattle.std.specs.Prelude.{◌≡◌, ◌⊎◌, ℕ, ◌+◌, ◌-◌, ◌^◌, min, List, [], ◌∷◌, ◌++◌, length}
use Rattle.std.specs.Prelude.{Option, Some, None}
use mathlib.Core.List.{IsPrefix}
use Rattle.swim_wire.specs.Address.{Address}
use Rattle.swim_wire.specs.Messages.{Message}
use Rattle.swim_history.specs.declared.rows.Change.{Change}
use Rattle.swim_history.specs.declared.rows.Row.{Row}
use Rattle.swim_history.specs.declared.seats.Kept.{Kept as KeptCall}
use Rattle.swim_history.specs.Changes.{table_after}
use Rattle.swim_history.specs.Setting.{Setting}
use Rattle.swim_rejoin.specs.declared.knockers.KnockPing.{KnockPing}
use Rattle.swim_rejoin.specs.Knockers.{Kept, Follows}
use Rattle.swim_rejoin.specs.Knocking.{Start, knocked_by, ping_of}
use Rattle.swim_work.specs.Posts.{ArePosted, Posted, starts_in}

-- what the looks of a viewer showed at starts of periods, newest first, that has seen these changes by now: at each the
-- whole table, after a beginning of them, which has all that the look before showed
abbrev pub AreLooks : Setting → List Change → List Start → Type 0
AreLooks o seen [] = Unit {0}
AreLooks o seen (start ∷ before) =
    (then : List Change) × IsPrefix then seen × (start.rows ≡ table_after o then) × AreLooks o then before

-- which N was in force at these starts, oldest first
abbrev pub rejoins_at : List Start → List ℕ
rejoins_at [] = []
rejoins_at (start ∷ before) = rejoins_at before ++ start.rejoin ∷ []

-- a viewer that had seen some changes looks, and has then seen these: it is shown the table after all of them; or it is
-- shown none, has seen no more, and keeps the table that it was shown last
abbrev pub LooksOn : Setting → List Change → List Row → List Change → List Row → Type 0
LooksOn o saw was seen rows = (rows ≡ table_after o seen) ⊎ ((rows ≡ was) × (seen ≡ saw))

-- the number of the period that runs after so many starts; it stops at 2^64-1
abbrev pub number_after : Setting → ℕ → ℕ
number_after o starts = min (o.last + starts) (2 ^ 64 - 1)

-- the knock at a member with that row, in the period with that number, if there is one
abbrev pub knock_of : Setting → ℕ → Option Row → List (Address × Message)
knock_of o number None = []
knock_of o number (Some row) = (row.peer, ping_of o.me o.version row.id number) ∷ []

-- the knocks at the starts of periods, oldest first, where these starts are told newest first
abbrev pub knocks_of : Setting → List Start → List (Address × Message)
knocks_of o [] = []
knocks_of o (start ∷ before) =
    knocks_of o before
    ++ knock_of o (number_after o (length before + 1)) (knocked_by start.rejoin before start.rows)

-- at each of so many starts of periods looked a viewer that has seen these changes by now, and a lookup was asked once
-- which N is in force: what it had answered before, and has answered now. All that was handed over since are the knocks
-- at these starts, each once, in order: as many as were counted, and the count stops at 2^64-1
pub record HasKnocked (o : Setting) (starts : ℕ) (seen : List Change) (asked answered : List ℕ)
    (before now : Option (List Posted)) (knocks : ℕ) : Type 0 where
  pub looks : List Start
  pub each : AreLooks o seen looks
  pub at_starts : length looks ≡ starts
  pub answers : answered ≡ asked ++ rejoins_at looks
  pub unsent : ℕ
  pub posted : ArePosted (knocks_of o looks) before now unsent
  pub counted : knocks ≡ min (length (knocks_of o looks)) (2 ^ 64 - 1)

-- what a contract sees of who knocks: what the knocker keeps, what its viewer has seen and was shown last, the number
-- of the period that runs, what its lookup answered so far, what the post was handed so far, and how many knocks there
-- were
pub record AtKnocking : Type 0 where
  pub knocker : Kept
  pub seen : List Change
  pub table : List Row
  pub number : ℕ
  pub answered : List ℕ
  pub posted : Option (List Posted)
  pub knocks : ℕ

abbrev pub at_knocking : Kept → List Change → List Row → ℕ → List ℕ → Option (List Posted) → ℕ → AtKnocking
at_knocking knocker seen table number answered posted knocks = record {
  knocker = knocker;
  seen = seen;
  table = table;
  number = number;
  answered = answered;
  posted = posted;
  knocks = knocks;
}

-- that was handed over at so many starts, by a knocker of this node, and what it keeps is what these starts come to.
-- The table that its viewer was shown last is that after some beginning of what it has seen
pub record IsKnocking (o : Setting) (starts : ℕ) (asked : List ℕ) (before : Option (List Posted)) (now : AtKnocking) :
    Type 0 where
  pub shown : List Change
  pub later : IsPrefix shown now.seen
  pub table : now.table ≡ table_after o shown
  pub has : HasKnocked o starts shown asked now.answered before now.posted now.knocks
  pub number : now.number ≡ number_after o starts
  pub me : now.knocker.me ≡ o.me
  pub version : now.knocker.version ≡ o.version
  pub follows : Follows now.knocker has.looks

-- if that was so of some starts, it is so with so many more
abbrev pub KnocksOn : Setting → ℕ → AtKnocking → AtKnocking → Type 0
KnocksOn o more old new =
    (starts then : ℕ) (asked : List ℕ) (before : Option (List Posted)) → then ≡ starts + more →
    IsKnocking o starts asked before old → IsKnocking o then asked before new

-- and if it was so of the starts that some calls began, it is so of those that the calls began since
abbrev pub KnocksAtStarts : Setting → List KeptCall → AtKnocking → List KeptCall → AtKnocking → Type 0
KnocksAtStarts o calls old after new =
    (asked : List ℕ) (before : Option (List Posted)) → IsKnocking o (starts_in calls) asked before old →
    IsKnocking o (starts_in after) asked before new

-- a knock as it is handed over
abbrev pub sent_as : Option KnockPing → List (Address × Message)
sent_as None = []
sent_as (Some knock) = (knock.peer, knock.message) ∷ []

-- these were handed over, and are so many
abbrev pub AreKnocks : List (Address × Message) → Option (List Posted) → Option (List Posted) → ℕ → Type 0
AreKnocks messages old new count = (unsent : ℕ) × ArePosted messages old new unsent × (count ≡ length messages)
