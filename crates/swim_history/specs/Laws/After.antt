-- Laws of what a detector goes on from after a journal: it is within the limits, and its period numbers are new.
use Rattle.std.proofs.Common.{◌≡◌, ℕ, ◌+◌, ◌<◌, ◌≤◌, ◌==◌, Bool, true, false, cond, nat_lt, nat_le, List, []}
use Rattle.std.proofs.Common.{◌∷◌, Option, Some, None, refl, sym, ap, ◌∙◌, arith, find, ◌||◌}
use Rattle.std.proofs.lemmas.Bool.{lt-ltb, le-leb, leb-true, and_parts, cond_both, ne_eqb}
use Rattle.std.specs.List.{AllByRecursion, list_all, list_any}
use Rattle.std.specs.Option.{option_map, option_to_list, is_some}
use Rattle.swim_wire.specs.Ids.{has_twice}
use Rattle.swim_history.specs.declared.rows.Row.{Row}
use Rattle.swim_history.specs.declared.rows.RowState.{RowState}
use Rattle.swim_history.specs.declared.rows.RowState.TheVariants as state
use Rattle.swim_history.specs.declared.calls.Call.{Call}
use Rattle.swim_history.specs.declared.calls.Call.TheVariants.{Tick, Join, Remove}
use Rattle.swim_history.specs.declared.replies.Reply.{Reply}
use Rattle.swim_history.specs.declared.replies.Reply.TheVariants.{Started, Joined, Removed}
use Rattle.swim_history.specs.declared.entries.Choice.{Choice}
use Rattle.swim_history.specs.declared.entries.Choice.TheVariants.{Nothing}
use Rattle.swim_history.specs.declared.entries.Entry.{Entry}
use Rattle.swim_history.specs.Setting.{Setting, IsSetting, ids_of, is_state_past}
use Rattle.swim_history.specs.Events.{is_start}
use Rattle.swim_history.specs.Clock.{period_number}
use Rattle.swim_history.specs.Aim.{unheard}
use Rattle.swim_history.specs.Rows.{up, failed, row_at, row_then, row_of}
use Rattle.swim_history.specs.Changes.{change_by, IsAscending, rows_after, table}
use Rattle.swim_history.specs.Run.{Answers, IsRun}
use Rattle.swim_history.specs.After.{setting_after, numbers, NumbersGoOn}
use Rattle.swim_history.specs.Laws.Run.{number_then}
use Rattle.swim_history.specs.Laws.Table.{table_next, table_shows, table_ascends, table_bound, none_below}
use Rattle.swim_history.specs.Laws.Table.{put_each, failed_each, gone_each, ascending_each}
use Rattle.swim_history.specs.Laws.Listed.{has_row}
use Rattle.swim_history.specs.Laws.DrawnRuns.{number_bound}

-- ---- period numbers

-- the number of a period is that of the one before or, at a start, one more
number_grows : (o : Setting) (h : List Entry) (e : Entry) → IsSetting o → IsRun o (e ∷ h) →
    period_number o h ≤ period_number o (e ∷ h)
number_grows o h e s run = by (is_start e) (number_then o h e s run.0) where
  by : (b : Bool) → period_number o (e ∷ h) ≡ cond b (period_number o h + 1) (period_number o h) →
      period_number o h ≤ period_number o (e ∷ h)
  by true then = omega (arith, then)
  by false then = omega (arith, then)

-- the opening's last number comes before all
least_number : (o : Setting) (h : List Entry) → IsSetting o → IsRun o h → o.last ≤ period_number o h
least_number o [] s run = omega arith
least_number o (e ∷ h) s run = omega (arith, least_number o h s run.1, number_grows o h e s run)

numbers_within : (o : Setting) (h : List Entry) → IsSetting o → IsRun o h → (most : ℕ) → period_number o h ≤ most →
    AllByRecursion (λ number. number ≤ most) (numbers o h)
numbers_within o [] s run most within = tt
numbers_within o (e ∷ h) s run most within =
    let older = numbers_within o h s run.1 most (omega (arith, number_grows o h e s run, within)) in
    cond_both (is_start e) _ _ (AllByRecursion (λ number. number ≤ most)) (λ _. (within, older)) (λ _. older)

numbers_beyond : (o : Setting) (h : List Entry) → IsSetting o → IsRun o h →
    AllByRecursion (λ number. o.last < number) (numbers o h)
numbers_beyond o [] s run = tt
numbers_beyond o (e ∷ h) s run = by (is_start e) (number_then o h e s run.0) (numbers_beyond o h s run.1)
  where
    by : (b : Bool) → period_number o (e ∷ h) ≡ cond b (period_number o h + 1) (period_number o h) →
        AllByRecursion (λ number. o.last < number) (numbers o h) →
        AllByRecursion (λ number. o.last < number) (cond b (period_number o (e ∷ h) ∷ numbers o h) (numbers o h))
    by true then older = (omega (arith, then, least_number o h s run.1), older)
    by false then older = older

each_below : (most number : ℕ) (earlier : List ℕ) → most < number → AllByRecursion (λ n. n ≤ most) earlier →
    AllByRecursion (λ n. n < number) earlier
each_below most number [] beyond each = tt
each_below most number (n ∷ earlier) beyond each =
    (omega (arith, each.0, beyond), each_below most number earlier beyond each.1)

each_beyond : (most : ℕ) (earlier later : List ℕ) → AllByRecursion (λ n. n ≤ most) earlier →
    AllByRecursion (λ n. most < n) later →
    AllByRecursion (λ number. AllByRecursion (λ n. n < number) earlier) later
each_beyond most earlier [] within each = tt
each_beyond most earlier (n ∷ later) within each =
    (each_below most n earlier each.0 within, each_beyond most earlier later within each.1)

-- ---- the limits

-- this member is never known
never_known : (o : Setting) (h : List Entry) → IsSetting o → IsRun o h → row_of o h o.me ≡ None
never_known o [] s run = by (row_at o.rows o.me) (sym (has_row o.rows o.me) ∙ s.others) where
  by : (row : Option Row) → is_some row ≡ false → row ≡ None
  by None e = refl
  by (Some row) e = absurd cc
never_known o (e ∷ h) s run =
    by e.call e.reply e.choice run.0.answer (row_of o h o.me) (never_known o h s run.1)
  where
    number : ℕ
    number = period_number o h

    by : (call : Call) (reply : Reply) (choice : Choice) → Answers o h call reply choice → (row : Option Row) →
        row ≡ None → row_then call reply number o.me row ≡ None
    by (Join id peer) (Joined place) Nothing a row none = rw (ne_eqb id o.me a.0) none
    by (Join id peer) (Joined place) choice a row none = absurd a
    by (Remove id) Removed choice a row none = cond_both (id == o.me) _ _ (λ r. r ≡ None) (λ _. refl) (λ _. none)
    by Tick (Started (Some judged) probe) choice a row none =
        cond_both (judged == o.me) _ _ (λ r. r ≡ None) (λ _. ap (option_map (failed number)) none) (λ _. none)
    by call reply choice a row none = none

-- ids that ascend are different
ascending_once : (rows : List Row) → IsAscending rows → has_twice (ids_of rows) ≡ false
ascending_once [] ascends = refl
ascending_once (row ∷ rows) ascends =
    rw (has_row rows row.id, none_below row.id rows ascends.0) (ascending_once rows ascends.1)

-- where a member goes unheard, a period was begun
begun : (o : Setting) (h : List Entry) (m : ℕ) → IsSetting o → IsRun o h → unheard o h ≡ Some m →
    0 < period_number o h
begun o h m s run silent = by (list_any is_start h) refl where
  counts : (h : List Entry) → IsRun o h → list_any is_start h ≡ true → 0 < period_number o h
  counts [] run any = absurd cc
  counts (e ∷ h) run any = from (is_start e) any (number_then o h e s run.0) (counts h run.1) where
    from : (b : Bool) → (b || list_any is_start h) ≡ true →
        period_number o (e ∷ h) ≡ cond b (period_number o h + 1) (period_number o h) →
        (list_any is_start h ≡ true → 0 < period_number o h) → 0 < period_number o (e ∷ h)
    from true any then older = omega (arith, then)
    from false any then older = omega (arith, then, older any)

  none : (h : List Entry) → list_any is_start h ≡ false → find is_start h ≡ None
  none [] any = refl
  none (e ∷ h) any = from (is_start e) any (none h) where
    from : (b : Bool) → (b || list_any is_start h) ≡ false →
        (list_any is_start h ≡ false → find is_start h ≡ None) → cond b (Some e) (find is_start h) ≡ None
    from true any older = absurd cc
    from false any older = older any

  by : (b : Bool) → list_any is_start h ≡ b → 0 < period_number o h
  by true any = counts h run any
  by false any = absurd (some_none (sym silent ∙ silenced (none h any))) where
    some_none : Some m ≡ None → ⊥
    some_none e = absurd cc

    silenced : find is_start h ≡ None → unheard o h ≡ None
    silenced e = rw e refl

-- what failed by a number failed by a greater one
past_more : (number more : ℕ) (s : RowState) → number ≤ more → is_state_past number s ≡ true →
    is_state_past more s ≡ true
past_more number more state.Up le past = refl
past_more number more (state.Failed at) le past =
    let parts = and_parts (nat_lt 0 at) (nat_le at number) past in
    rw (parts.0, le-leb at more (omega (arith, leb-true at number parts.1, le))) refl

abbrev IsPast : ℕ → Row → Type 0
IsPast number row = is_state_past number row.state ≡ true

each_past_more : (number more : ℕ) (rows : List Row) → number ≤ more → AllByRecursion (IsPast number) rows →
    AllByRecursion (IsPast more) rows
each_past_more number more [] le each = tt
each_past_more number more (row ∷ rows) le each =
    (past_more number more row.state le each.0, each_past_more number more rows le each.1)

each_is : (number : ℕ) (rows : List Row) → list_all (λ row. is_state_past number row.state) rows ≡ true →
    AllByRecursion (IsPast number) rows
each_is number [] all = tt
each_is number (row ∷ rows) all =
    let others = list_all (λ row. is_state_past number row.state) rows in
    let parts = and_parts (is_state_past number row.state) others all in
    (parts.0, each_is number rows parts.1)

all_are : (number : ℕ) (rows : List Row) → AllByRecursion (IsPast number) rows →
    list_all (λ row. is_state_past number row.state) rows ≡ true
all_are number [] each = refl
all_are number (row ∷ rows) each = rw each.0 (all_are number rows each.1)

-- members of the table failed in periods that were used
states_past : (o : Setting) (h : List Entry) → IsSetting o → IsRun o h →
    AllByRecursion (IsPast (period_number o h)) (table o h)
states_past o [] s run = ascending_each (IsPast o.last) o.rows (each_is o.last o.rows s.states)
states_past o (e ∷ h) s run =
    rw (table_next o h e)
    (by e.call e.reply e.choice run.0.answer
    (each_past_more number next (table o h) (number_grows o h e s run) (states_past o h s run.1)))
  where
    number : ℕ
    number = period_number o h

    next : ℕ
    next = period_number o (e ∷ h)

    by : (call : Call) (reply : Reply) (choice : Choice) → Answers o h call reply choice →
        AllByRecursion (IsPast next) (table o h) →
        AllByRecursion (IsPast next) (rows_after (table o h) (option_to_list (change_by call reply number)))
    by (Join id peer) (Joined place) choice a each = put_each (IsPast next) (up id peer) (table o h) refl each
    by (Remove id) Removed choice a each = gone_each (IsPast next) id (table o h) each
    by Tick (Started (Some judged) probe) choice a each =
        failed_each (IsPast next) judged number (table o h)
        (λ row past. rw (
          lt-ltb 0 number (begun o h judged s run.1 (sym a.judges)),
          le-leb number next (number_grows o h e s run),
        ) refl)
        each
    by call reply choice a each = each

-- what goes on is within the limits
pub setting_after_is : (o : Setting) (h : List Entry) → IsSetting o → IsRun o h → IsSetting (setting_after o h)
setting_after_is o h s run = record {
  relays = s.relays;
  timing = s.timing;
  rows = table_bound o h s run;
  others = has_row (table o h) o.me ∙ ap is_some (table_shows o h o.me ∙ never_known o h s run);
  once = ascending_once (table o h) (table_ascends o h);
  states = all_are (period_number o h) (table o h) (states_past o h s run);
  last = omega (arith, number_bound o h s run);
}

-- and its numbers are new
pub numbers_go_on : (o : Setting) (h : List Entry) → IsSetting o → IsRun o h → NumbersGoOn o h
numbers_go_on o h s run newer going =
    each_beyond (period_number o h) (numbers o h) (numbers (setting_after o h) newer)
    (numbers_within o h s run (period_number o h) (omega arith))
    (numbers_beyond (setting_after o h) newer (setting_after_is o h s run) going)
