-- That each failed member has its turn.
use Rattle.std.specs.Prelude.{◌≡◌, ◌<◌, ◌≤◌, ◌⊎◌, ℕ, Bool, true, false, not, ◌==◌, ◌||◌, List, [], ◌∷◌}
use Rattle.std.specs.Prelude.{Option, Some, None, is_some}
use Rattle.std.specs.List.{list_all}
use Rattle.swim_wire.specs.Ids.{has}
use Rattle.swim_history.specs.Changes.{IsAscending}
use Rattle.swim_history.specs.declared.rows.Row.{Row}
use Rattle.swim_rejoin.specs.Failed.{is_failed, verdict_in}
use Rattle.swim_rejoin.specs.Knocking.{Start, knocked_by, steadily}

-- each failed member of a table is one of these
abbrev pub are_among : List ℕ → List Row → Bool
are_among ids rows = list_all (λ row. not (is_failed row) || has ids row.id) rows

-- behind the last one that was knocked at, or from the lowest on if there is none, that id is the next on the way round
-- to a member's
abbrev pub IsNext : ℕ → Option ℕ → ℕ → Type 0
IsNext id None next = next ≤ id
IsNext id (Some last) next = ((last < next) × (last < id → next ≤ id)) ⊎ ((id ≤ last) × (next ≤ id))

-- that member is failed by each of these tables, and all who are failed are among those. The rows ascend by id
abbrev pub StaysFailed : ℕ → List ℕ → List (List Row) → Type 0
StaysFailed id ids [] = Unit {0}
StaysFailed id ids (rows ∷ tables) =
    IsAscending rows × (is_some (verdict_in rows id) ≡ true) × (are_among ids rows ≡ true) × StaysFailed id ids tables

abbrev pub is_of : ℕ → Option Row → Bool
is_of id None = false
is_of id (Some row) = row.id == id

-- one of the recent starts, with one N at all of them, knocked at that member
abbrev pub was_knocked_at : ℕ → ℕ → List (List Row) → List Start → Bool
was_knocked_at id rejoin [] before = false
was_knocked_at id rejoin (rows ∷ recent) before =
    is_of id (knocked_by rejoin (steadily rejoin recent before) rows) || was_knocked_at id rejoin recent before
