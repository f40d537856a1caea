-- What a reporter hears of lives.
use Rattle.std.specs.Prelude.{List, [], ◌∷◌, ◌++◌, Option}
use Rattle.swim_history.specs.declared.rows.Change.{Change}
use Rattle.swim_history.specs.declared.entries.Entry.{Entry}
use Rattle.swim_history.specs.Changes.{change_by}
use Rattle.swim_history.specs.Clock.{period_number}
use Rattle.swim_history.specs.Setting.{Setting}
use Rattle.swim_trail.specs.Growing.{Grows}
use Rattle.swim_node.specs.Cells.{Filing}
use Rattle.swim_node.specs.Following.{filing_of}

-- what it hears: that a life begins from this opening, and a call of it, whose it is, with its reply, and what it
-- changed of the member table
pub data Report : Type 0 where
  Began : Setting → Report
  Called : Filing → Option Change → Report

-- of a life with this history, oldest first
abbrev pub life_reports : Setting → List Entry → List Report
life_reports o [] = Began o ∷ []
life_reports o (e ∷ before) =
    life_reports o before ++ Called (filing_of before e) (change_by e.call e.reply (period_number o before)) ∷ []

-- it heard that the life begins, and of its calls, each once, in order
abbrev pub HasHeardOf : Setting → List Entry → Option (List Report) → Option (List Report) → Type 0
HasHeardOf o h old new = Grows old new (life_reports o h)
