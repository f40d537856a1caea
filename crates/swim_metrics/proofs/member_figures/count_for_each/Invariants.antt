use Rattle.std.proofs.Common.{◌≡◌, ℕ, ◌<◌, ◌≤◌, length, get_or}
use Rattle.swim_metrics.specs.Members.{figures_then}
use Rattle.swim_metrics.specs.declared.member_figures.MemberFigures.{MemberFigures}
use Rattle.swim_metrics.proofs.member_figures.count_for_each.Given as goal

-- the entry is counted for those before, and the others are as they were
abbrev pub invariant-loop-row : goal.invariant-loop-row
invariant-loop-row l = record {
  same : length l.rows ≡ length l.fn.rows;
  counted : (k : ℕ) (d : MemberFigures) → k < l.row-index →
      get_or l.rows k d ≡ figures_then l.call l.reply (get_or l.fn.rows k d);
  others : (k : ℕ) (d : MemberFigures) → l.row-index ≤ k → get_or l.rows k d ≡ get_or l.fn.rows k d;
}
