use Rattle.std.proofs.Common.{◌≡◌, ℕ, ◌<◌, true, length, get_or}
use Rattle.swim_history.specs.declared.rows.Row.{Row}
use Rattle.swim_rejoin.specs.Failed.{is_failed}
use Rattle.swim_rejoin.specs.Rejoiners.{is_marked}
use Rattle.swim_rejoin.proofs.marks.Marks.of.Given as goal

-- the marks of the failed members so far are set
abbrev pub invariant-loop-row : goal.invariant-loop-row
invariant-loop-row l = record {
  whole : length l.marks ≡ 256;
  marked : (place : ℕ) → place < l.row-index → (d : Row) → is_failed (get_or l.rows place d) ≡ true →
      is_marked l.marks (get_or l.rows place d).id ≡ true;
}
