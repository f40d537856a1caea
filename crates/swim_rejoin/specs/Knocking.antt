-- Whom a member knocks at, by the starts of its periods, the newest first.
use Rattle.std.specs.Prelude.{ℕ, ◌+◌, Bool, ◌&&◌, nat_le, nat_lt, List, [], ◌∷◌, find}
use Rattle.std.specs.Prelude.{Option, None, option_and_then, if◌then◌else◌}
use Rattle.std.specs.Option.{option_map, option_or}
use Rattle.swim_wire.specs.Messages.{Message}
use Rattle.swim_wire.specs.declared.messages.Kind.TheVariants.{Ping}
use Rattle.swim_wire.specs.declared.messages.Version.{Version}
use Rattle.swim_history.specs.declared.rows.Row.{Row}
use Rattle.swim_rejoin.specs.Failed.{is_failed}

-- a failed member with a higher id than that one's
abbrev pub is_after : ℕ → Row → Bool
is_after last row = is_failed row && nat_lt last row.id

-- whose turn it is, where the rows ascend by id: the next failed member after the one that was knocked at last, and
-- behind the highest again the lowest
abbrev pub whose_turn : Option ℕ → List Row → Option Row
whose_turn last rows = option_or (option_and_then (λ id. find (is_after id) rows) last) (find is_failed rows)

-- the start of a period: the N of the rule that was in force, and the rows of the member table
pub record Start : Type 0 where
  pub rejoin : ℕ
  pub rows : List Row

abbrev pub at_start : ℕ → List Row → Start
at_start rejoin rows = record { rejoin = rejoin; rows = rows }

-- these starts after those, with one N at all of them
abbrev pub steadily : ℕ → List (List Row) → List Start → List Start
steadily rejoin [] before = before
steadily rejoin (rows ∷ recent) before = at_start rejoin rows ∷ steadily rejoin recent before

-- one start more, where so many came since a knock was due: with an N of 0 the count begins anew
abbrev pub since_then : ℕ → ℕ → ℕ
since_then rejoin since = if nat_lt (since + 1) rejoin then since + 1 else 0

-- how many starts came since a knock was due
abbrev pub since_due : List Start → ℕ
since_due [] = 0
since_due (start ∷ before) = since_then start.rejoin (since_due before)

-- at the start after those a knock is due: it is the N-th since the last, or a later one, where N was higher before;
-- with an N of 0 none is. Where N never changes, that is each N-th start
abbrev pub is_due : ℕ → List Start → Bool
is_due rejoin before = nat_lt 0 rejoin && nat_le rejoin (since_due before + 1)

-- the member that a start knocks at, where it comes after those and the last knock was at that member
abbrev pub knocked_after : ℕ → List Start → Option ℕ → List Row → Option Row
knocked_after rejoin before last rows = if is_due rejoin before then whose_turn last rows else None

-- the member that was knocked at last
abbrev pub last_knocked : List Start → Option ℕ
last_knocked [] = None
last_knocked (start ∷ before) =
    let last = last_knocked before in
    option_or (option_map (λ row. row.id) (knocked_after start.rejoin before last start.rows)) last

-- the member that the start with this N and these rows knocks at, after those starts
abbrev pub knocked_by : ℕ → List Start → List Row → Option Row
knocked_by rejoin before rows = knocked_after rejoin before (last_knocked before) rows

-- a ping of this member's own in the period with that number
abbrev pub ping_of : ℕ → Version → ℕ → ℕ → Message
ping_of me version target number = record {
  version = version;
  kind = Ping;
  sender = me;
  initiator = me;
  target = target;
  number = number;
  at = None;
}
