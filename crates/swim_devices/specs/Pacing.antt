-- A pace that sleeps from tick to tick.
use Rattle.std.specs.Prelude.{◌≡◌, ℕ, ◌+◌, ◌-◌, ◌<◌, ◌≤◌, List, Option, Some, None}
use Rattle.std.specs.List.{sum_by}
use Rattle.swim_work.specs.declared.paces.Beat.{Beat}
use Rattle.swim_work.specs.declared.paces.Beat.TheVariants.{Tick, Idle, Stop}

-- how many milliseconds a tick has, how many of the present one are left, for how many its sleeper slept so far, where
-- that is known, and the beats that were given so far, oldest first
pub record Pacing : Type 0 where
  pub tick : ℕ
  pub left : ℕ
  pub slept : Option ℕ
  pub beats : List Beat

-- so many milliseconds were slept, where that is known; what isn't known stays so
abbrev pub HasSlept : Option ℕ → ℕ → Option ℕ → Type 0
HasSlept None time None = Unit {0}
HasSlept None time (Some new) = ⊥
HasSlept (Some old) time None = ⊥
HasSlept (Some old) time (Some new) = new ≡ old + time

-- a beat: a tick is given when all its milliseconds were slept, no more than 100 at once; a stop never is
abbrev pub Beats : Pacing → Beat → Pacing → Type 0
Beats old Tick new = (old.left ≤ 100) × HasSlept old.slept old.left new.slept × (new.tick ≡ old.tick) ×
    (new.left ≡ old.tick)
Beats old Idle new = (100 < old.left) × HasSlept old.slept 100 new.slept × (new.tick ≡ old.tick) ×
    (new.left ≡ old.left - 100)
Beats old Stop new = ⊥

-- how many milliseconds are over with a beat, where a tick has so many
abbrev pub over_with : ℕ → Beat → ℕ
over_with tick Tick = tick
over_with tick Idle = 0
over_with tick Stop = 0

-- all ticks that were given were slept, and what is over of the present one
abbrev pub IsSlept : Option ℕ → ℕ → ℕ → List Beat → Type 0
IsSlept None tick left beats = Unit {0}
IsSlept (Some slept) tick left beats = (left ≤ tick) × (sum_by (over_with tick) beats + (tick - left) ≤ slept)
