-- The texts of a member table and of a gap.
use Rattle.std.specs.Prelude.{ℕ, List, [], ◌∷◌, ◌++◌, Option, Some, None, codes, decimal}
use Rattle.swim_wire.specs.Address.{address_text}
use Rattle.swim_history.specs.declared.rows.Row.{Row}
use Rattle.swim_history.specs.declared.rows.RowState.{RowState}
use Rattle.swim_history.specs.declared.rows.RowState.TheVariants.{Up, Failed}
use Rattle.swim_history.specs.declared.gaps.Gap.{Gap}

-- a line feed
abbrev pub feed : List ℕ
feed = 10 ∷ []

-- whether a member is up, or the number of the period at whose end it was judged failed
abbrev pub state_text : RowState → List ℕ
state_text Up = codes " up"
state_text (Failed number) = codes " failed " ++ decimal number

-- the line of a row: its id, its address and its state
abbrev pub row_text : Row → List ℕ
row_text row = decimal row.id ++ (codes " " ++ (address_text row.peer ++ (state_text row.state ++ feed)))

abbrev pub rows_text : List Row → List ℕ
rows_text [] = []
rows_text (row ∷ rows) = row_text row ++ rows_text rows

-- the lines of a member table: one for each row, and a dot
abbrev pub table_text : List Row → List ℕ
table_text rows = rows_text rows ++ codes ".\n"

-- the line of a gap, if there is one: the numbers of its periods, and how many were listed and joined
abbrev pub gap_text : Option Gap → List ℕ
gap_text None = codes "gap none\n"
gap_text (Some gap) =
    codes "gap " ++ (decimal gap.a ++ (codes " " ++ (decimal gap.b ++ (codes " " ++ (decimal gap.n ++ feed)))))
