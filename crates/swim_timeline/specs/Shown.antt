-- What a picture shows of a history that may be too long for it.
use Rattle.std.specs.Prelude.{◌≡◌, ℕ, nat_le, nat_lt, List, [], ◌∷◌, filter, length, if◌then◌else◌}
use Rattle.swim_history.specs.declared.entries.Entry.{Entry}
use Rattle.swim_history.specs.Setting.{Setting}
use Rattle.swim_history.specs.Clock.{ticks}
use Rattle.swim_history.specs.Changes.{table}
use Rattle.swim_timeline.specs.declared.earlier_runs.EarlierRun.{EarlierRun}
use Rattle.swim_timeline.specs.declared.picture_marks.PictureMark.{PictureMark}
use Rattle.swim_timeline.specs.declared.pictures.Picture.{Picture}
use Rattle.swim_timeline.specs.Marks.{marks}
use Rattle.swim_timeline.specs.Lanes.{with_rows, lanes_from}

-- the longest older part of a history that has at most so many ticks
abbrev pub within : ℕ → List Entry → List Entry
within most [] = []
within most (e ∷ before) = if nat_le (ticks (e ∷ before)) most then e ∷ before else within most before

-- the longest older part of a history that has fewer ticks than that: what lies before a picture that begins with the
-- tick `first`
abbrev pub before_tick : ℕ → List Entry → List Entry
before_tick first [] = []
before_tick first (e ∷ before) = if nat_lt (ticks (e ∷ before)) first then e ∷ before else before_tick first before

-- of marks those from that tick on
abbrev pub from_tick : ℕ → List PictureMark → List PictureMark
from_tick first marks = filter (λ mark. nat_le first mark.tick) marks

-- how many entries lie before that tick, and the member table behind them
pub record Begins (o : Setting) (h : List Entry) (first : ℕ) (beginning : EarlierRun) : Type 0 where
  pub entries : beginning.entries ≡ length (before_tick first h)
  pub rows : beginning.rows.items ≡ table o (before_tick first h)

-- how many ticks there are, and how many entries within the last tick that is shown; of their marks those from the
-- first
-- tick on; and the lanes of these rows and of those who joined from then on
pub record Draws (o : Setting) (h : List Entry) (first until : ℕ) (shown : Picture) : Type 0 where
  pub ticks : shown.ticks ≡ ticks h
  pub entries : shown.entries ≡ length (within until h)
  pub marks : shown.marks.items ≡ from_tick first (marks o (within until h))
  pub lanes : shown.lanes.entries ≡ lanes_from first (with_rows [] shown.before.rows.items) (within until h)

-- what happened from one tick to another, and what lies before the first of them
pub record Shows (o : Setting) (h : List Entry) (first until : ℕ) (shown : Picture) : Type 0 where
  pub before : Begins o h first shown.before
  pub drawn : Draws o h first until shown
