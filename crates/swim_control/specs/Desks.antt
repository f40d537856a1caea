-- What a desk tells.
use Rattle.std.specs.Prelude.{ℕ, Option}
use Rattle.arrayvec.specs.ArrayVec.{ArrayVec}
use Rattle.swim_history.specs.declared.rows.Row.{Row}
use Rattle.swim_history.specs.declared.gaps.Gap.{Gap}
use Rattle.swim_control.specs.declared.desks.Answer.{Answer}

-- the member table, if there is one; a member's widest gap, if there is one; the answer to a join or a removal; a text
-- of counts; what came of reading the configuration again
pub data Told : Type 0 where
  Shows : (table : Option (ArrayVec Row)) → Told
  Measures : (gap : Option Gap) → Told
  Answers : (answer : Answer) → Told
  Counts : (text : ArrayVec ℕ) → Told
  Reloads : (text : ArrayVec ℕ) → Told
