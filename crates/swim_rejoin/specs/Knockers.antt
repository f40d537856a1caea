-- What a knocker keeps, and that it is what the starts so far come to.
use Rattle.std.specs.Prelude.{◌≡◌, ℕ, ◌+◌, Bool, ◌&&◌, nat_le, nat_lt, List, Option, None, if◌then◌else◌}
use Rattle.std.specs.Option.{option_map, option_or}
use Rattle.swim_wire.specs.declared.messages.Version.{Version}
use Rattle.swim_history.specs.declared.rows.Row.{Row}
use Rattle.swim_rejoin.specs.Knocking.{Start, last_knocked, ping_of, since_due, since_then, whose_turn}
use Rattle.swim_rejoin.specs.declared.knockers.KnockPing.{KnockPing}

-- this member, the version of its pings, how many periods started since the last knock was due, and which member was
-- knocked at last
pub record Kept : Type 0 where
  pub me : ℕ
  pub version : Version
  pub since : ℕ
  pub last : Option ℕ

-- what is kept is what the starts come to
pub record Follows (k : Kept) (h : List Start) : Type 0 where
  pub since : k.since ≡ since_due h
  pub last : k.last ≡ last_knocked h

-- the knock at a member with that row, in the period with that number
abbrev pub knock_at : ℕ → Version → ℕ → Row → KnockPing
knock_at me version number row = record { peer = row.peer; message = ping_of me version row.id number }

-- a knock is due at the next start
abbrev pub is_due_now : ℕ → Kept → Bool
is_due_now rejoin k = nat_lt 0 rejoin && nat_le rejoin (k.since + 1)

-- whom that start knocks at
abbrev pub whom_now : ℕ → Kept → List Row → Option Row
whom_now rejoin k rows = if is_due_now rejoin k then whose_turn k.last rows else None

-- what is kept after it
abbrev pub after_start : ℕ → Kept → List Row → Kept
after_start rejoin k rows = record k {
  since = since_then rejoin k.since;
  last = option_or (option_map (λ row. row.id) (whom_now rejoin k rows)) k.last;
}
