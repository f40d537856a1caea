-- What lies before a tick.
use Rattle.std.proofs.Common.{◌≡◌, ℕ, ◌+◌, ◌<◌, ◌≤◌, Bool, true, false, cond, List, [], ◌∷◌, length, nat_lt, refl, ap}
use Rattle.std.proofs.Common.{sym, subst, ◌∙◌, arith}
use Rattle.std.specs.Option.{option_to_list}
use Rattle.std.proofs.lemmas.Bool.{lt-ltb, le-ltb}
use Rattle.swim_history.specs.declared.entries.Entry.{Entry}
use Rattle.swim_history.specs.Setting.{Setting, IsSetting}
use Rattle.swim_history.specs.Clock.{ticks, period_number}
use Rattle.swim_history.specs.Changes.{change_by, rows_after, IsAscending}
use Rattle.swim_history.specs.Run.{IsRun}
use Rattle.swim_history.specs.Laws.Table.{table_ascends, table_bound, table_next}
use Rattle.swim_timeline.specs.declared.earlier_runs.EarlierRun.{EarlierRun}
use Rattle.swim_timeline.specs.Shown.{before_tick, Begins}

-- a history of fewer ticks than that lies before it
pub before_all : (first : ℕ) (h : List Entry) → ticks h < first → before_tick first h ≡ h
before_all first [] few = refl
before_all first (e ∷ before) few = rw (lt-ltb (ticks (e ∷ before)) first few) refl

before_length : (first : ℕ) (h : List Entry) → length (before_tick first h) ≤ length h
before_length first [] = omega arith
before_length first (e ∷ before) = by (nat_lt (ticks (e ∷ before)) first) (before_length first before) where
  by : (few : Bool) → length (before_tick first before) ≤ length before →
      length (cond few (e ∷ before) (before_tick first before)) ≤ length (e ∷ before)
  by true less = omega arith
  by false less = omega arith

-- one entry more that lies before the tick, and its change
pub begins_more : (o : Setting) (h : List Entry) (e : Entry) (first number : ℕ) (old new : EarlierRun) →
    ticks h < first → ticks (e ∷ h) < first →
    number ≡ period_number o h → Begins o h first old → new.entries ≡ old.entries + 1 →
    new.rows.items ≡ rows_after old.rows.items (option_to_list (change_by e.call e.reply number)) →
    Begins o (e ∷ h) first new
begins_more o h e first number old new few_before few is begins one_more changed =
    let whole = before_all first (e ∷ h) few in
    let older = before_all first h few_before in
    let count : old.entries ≡ length h = begins.entries ∙ ap length older in
    record {
      entries = rw whole (omega (arith, one_more, count));
      rows = rw whole (rw (changed, begins.rows, older, is) (sym (table_next o h e)));
    }

-- one more that doesn't
pub begins_still : (o : Setting) (h : List Entry) (e : Entry) (first : ℕ) (b : EarlierRun) → first ≤ ticks (e ∷ h) →
    Begins o h first b →
    Begins o (e ∷ h) first b
begins_still o h e first b many begins =
    let past : before_tick first (e ∷ h) ≡ before_tick first h = rw (le-ltb (ticks (e ∷ h)) first many) refl in
    record { entries = rw past begins.entries; rows = rw past begins.rows }

pub begins_few : (o : Setting) (h : List Entry) (first : ℕ) (b : EarlierRun) → Begins o h first b → b.entries ≤ length h
begins_few o h first b begins = omega (arith, begins.entries, before_length first h)

pub begins_ascending : (o : Setting) (h : List Entry) (first : ℕ) (b : EarlierRun) → Begins o h first b →
    IsAscending b.rows.items
begins_ascending o h first b begins = rw begins.rows (table_ascends o (before_tick first h))

-- in a run the table has room for one entry's change
pub begins_fits : (o : Setting) (h : List Entry) (e : Entry) (first number : ℕ) (b : EarlierRun) → IsSetting o →
    IsRun o (e ∷ h) → ticks h < first →
    number ≡ period_number o h → Begins o h first b →
    length (rows_after b.rows.items (option_to_list (change_by e.call e.reply number))) ≤ 128
begins_fits o h e first number b setting run few is begins =
    let older = before_all first h few in
    rw (begins.rows, older, is)
    (subst (λ rows. length rows ≤ 128) (table_next o h e) (table_bound o (e ∷ h) setting run))
