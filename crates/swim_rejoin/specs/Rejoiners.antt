-- What a rejoiner keeps, and that it is what its history comes to.
use Rattle.std.specs.Prelude.{◌≡◌, ℕ, ◌%◌, ◌<◌, Bool, true, false, List, length, slice_index_or}
use Rattle.std.specs.Prelude.{Option, Some, None, option_and_then, if◌then◌else◌}
use Rattle.swim_wire.specs.Address.{Address}
use Rattle.swim_wire.specs.Messages.{Message}
use Rattle.swim_history.specs.declared.rows.Row.{Row}
use Rattle.swim_rejoin.specs.Believing.{is_believed}
use Rattle.swim_rejoin.specs.Failed.{is_failed}
use Rattle.swim_rejoin.specs.Histories.{Event, rejoin_in, table_in}
use Rattle.swim_rejoin.specs.Knowing.{known_at, known_by}
use Rattle.swim_rejoin.specs.declared.known.Known.{Known}

-- the N that is in force, this member, what is kept of each member of the table, and a mark for each failed one
pub record Kept : Type 0 where
  pub rejoin : ℕ
  pub me : ℕ
  pub knowns : List Known
  pub marks : List Bool

-- how many marks there are
abbrev pub mark_count : ℕ
mark_count = 256

-- whether the mark of a member is set, which it shares with others
abbrev pub is_marked : List Bool → ℕ → Bool
is_marked marks id = slice_index_or marks (id % mark_count) false

-- the marks of the failed members are set
abbrev pub AreMarked : List Row → List Bool → Type 0
AreMarked rows marks = (place : ℕ) (d : Row) → place < length rows → is_failed (slice_index_or rows place d) ≡ true →
    is_marked marks (slice_index_or rows place d).id ≡ true

-- what is kept is what the history comes to
pub record Follows (k : Kept) (h : List Event) : Type 0 where
  pub ruled : k.rejoin ≡ rejoin_in h
  pub known : (id : ℕ) → known_at k.knowns id ≡ known_by h id
  pub marked : AreMarked (table_in h) k.marks

-- the row of a member, where a datagram shows that it is there again
abbrev pub shown_of : ℕ → Message → Address → Known → Option Row
shown_of me m from known =
    if is_believed me known.row known.knocks.numbers known.times m from then Some known.row else None

-- whom a datagram shows to be there again, by what is kept of its sender
abbrev pub shown_by : Kept → Message → Address → Option Row
shown_by k m from = option_and_then (shown_of k.me m from) (known_at k.knowns m.sender)
