-- The failures that the end of a line counts: reads of it, and writes.
use Rattle.std.specs.Prelude.{◌≡◌, ℕ, Bool, true, false, Option, Some, None, refl}
use Rattle.swim_text.specs.declared.lines.Taken.{Taken}
use Rattle.swim_text.specs.declared.lines.Taken.TheVariants.{Line}
use Rattle.swim_text.specs.Lines.{failures_read, failures_sent, ended}

-- the failures after a step, which may have ended the line
abbrev pub failures_met : (ℕ → Taken → ℕ) → ℕ → Option Taken → ℕ
failures_met count n None = n
failures_met count n (Some taken) = count n taken

pub read_none : (n : ℕ) (is_empty is_long : Bool) → failures_read n (ended is_empty is_long) ≡ n
read_none n true is_long = refl
read_none n false true = refl
read_none n false false = refl

pub sent_none : (n : ℕ) (is_empty is_long : Bool) → failures_sent n (ended is_empty is_long) ≡ n
sent_none n true is_long = refl
sent_none n false true = refl
sent_none n false false = refl

-- a line was taken only where some byte was
pub ended_line : (is_empty is_long : Bool) → ended is_empty is_long ≡ Line → is_empty ≡ false
ended_line true is_long e = absurd cc
ended_line false is_long e = refl
