-- How many bytes of a source are read, where those are known.
use Rattle.std.specs.Prelude.{◌≡◌, ℕ, ◌+◌, ◌≤◌, List, [], ◌++◌, length, Option, Some, None}
use Rattle.std.proofs.Common.{refl, arith}
use Rattle.swim_text.specs.declared.lines.Taken.{Taken}
use Rattle.swim_text.specs.declared.lines.Taken.TheVariants.{Line, Long, Size, Over, Failed, Unsent}
use Rattle.swim_text.specs.Lines.{Takes}

-- at most so many bytes of a text were read, of which this is left
pub record IsReadWithin (most : ℕ) (text rest : List ℕ) : Type 0 where
  pub read : List ℕ
  pub whole : text ≡ read ++ rest
  pub within : length read ≤ most

-- ---- laws

-- of a line no more is read than the budget has bytes, and one more
pub line_within : (taken : Taken) (text rest line : List ℕ) (limit budget after : ℕ) →
    Takes taken text rest line limit budget after → IsReadWithin (budget + 1) text rest
line_within Line text rest line limit budget after t =
    record { read = t.piece; whole = t.whole; within = omega (arith, t.spent) }
line_within Long text rest line limit budget after t =
    record { read = t.piece; whole = t.whole; within = omega (arith, t.spent) }
line_within Size text rest line limit budget after t =
    record { read = t.taken; whole = t.whole; within = omega (arith, t.spent) }
line_within Over text rest line limit budget after t =
    record { read = []; whole = rw (t.0, t.1) refl; within = omega arith }
line_within Failed text rest line limit budget after t =
    record { read = t.taken; whole = t.whole; within = omega (arith, t.spent) }
line_within Unsent text rest line limit budget after t =
    record { read = t.taken; whole = t.whole; within = omega (arith, t.spent) }
