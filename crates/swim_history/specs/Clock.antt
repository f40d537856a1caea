-- The clock: accepted ticks, the period that they make, and its phase.
use Rattle.std.specs.Prelude.{ℕ, zero, suc, ◌+◌, ◌/◌, ◌%◌, List, length, filter}
use Rattle.swim_history.specs.declared.entries.Entry.{Entry}
use Rattle.swim_history.specs.Setting.{Setting}
use Rattle.swim_history.specs.Events.{is_tick}

-- how many ticks were accepted
abbrev pub ticks : List Entry → ℕ
ticks h = length (filter is_tick h)

-- the number of the period after so many ticks, and before the first tick the last number used
abbrev pub number_at : ℕ → ℕ → ℕ → ℕ
number_at last period zero = last
number_at last period (suc t) = last + 1 + t / period

-- the last number used: that of the period that runs, if any
abbrev pub period_number : Setting → List Entry → ℕ
period_number o h = number_at o.last o.period (ticks h)

-- how far the period is, in ticks: where it is 0 the next accepted tick is a start
abbrev pub phase : Setting → List Entry → ℕ
phase o h = ticks h % o.period
