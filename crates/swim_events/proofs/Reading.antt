-- What is known of a run, one entry on.
use Rattle.std.proofs.Common.{◌≡◌, ℕ, ◌+◌, ◌-◌, ◌^◌, ◌<◌, ◌≤◌, min, Bool, true, false, cond, List, ◌∷◌, length, Option}
use Rattle.std.proofs.Common.{Some, None, refl, sym, ap, subst, ◌∙◌, arith}
use Rattle.std.proofs.lemmas.Bool.{le-leb}
use Rattle.std.specs.Option.{option_to_list}
use Rattle.swim_history.specs.declared.rows.Row.{Row}
use Rattle.swim_history.specs.declared.rows.Change.{Change}
use Rattle.swim_history.specs.declared.calls.Call.{Call}
use Rattle.swim_history.specs.declared.replies.Reply.{Reply}
use Rattle.swim_history.specs.declared.entries.Entry.{Entry}
use Rattle.swim_history.specs.Setting.{Setting, IsSetting}
use Rattle.swim_history.specs.Events.{is_start}
use Rattle.swim_history.specs.Clock.{period_number}
use Rattle.swim_history.specs.Changes.{change_by, after_change, rows_after, table}
use Rattle.swim_history.specs.Run.{IsRun}
use Rattle.swim_history.specs.Laws.Run.{begins, number_then as number_of_run}
use Rattle.swim_history.specs.Laws.Table.{table_bound, table_next}
use Rattle.swim_events.specs.Watching.{Known, known, rows_then, number_then}

-- a change that leaves no more rows than there may be is made
rows_within : (change : Option Change) (rows : List Row) → length (rows_after rows (option_to_list change)) ≤ 128 →
    rows_then change rows ≡ rows_after rows (option_to_list change)
rows_within None rows fits = refl
rows_within (Some change) rows fits = rw (le-leb (length (after_change change rows)) 128 fits) refl

-- the number goes on by one at a start, and in a run it is not the last
number_within : (starts : Bool) (n : ℕ) → (starts ≡ true → n < 2 ^ 64 - 1) →
    cond starts (min (n + 1) (2 ^ 64 - 1)) n ≡ cond starts (n + 1) n
number_within true n unspent = let less : n < 2 ^ 64 - 1 = unspent refl in omega (arith, less)
number_within false n unspent = refl

pub known_next : (o : Setting) (h : List Entry) (e : Entry) → IsSetting o → IsRun o (e ∷ h) →
    (rows_then (change_by e.call e.reply (period_number o h)) (table o h) ≡ table o (e ∷ h))
    × (number_then e.reply (period_number o h) ≡ period_number o (e ∷ h))
known_next o h e s run =
    let change = change_by e.call e.reply (period_number o h) in
    let bound : length (rows_after (table o h) (option_to_list change)) ≤ 128 =
    subst (λ (rows : List Row). length rows ≤ 128) (table_next o h e) (table_bound o (e ∷ h) s run) in (
      rows_within change (table o h) bound ∙ sym (table_next o h e),
      number_within (is_start e) (period_number o h)
          (λ starts. let b = begins o h e.call e.reply e.choice run.0.answer starts in b.fits.unspent)
          ∙ sym (number_of_run o h e s run.0),
    )

-- the same, as a reader has it
pub known_then : (o : Setting) (h : List Entry) (e : Entry) (call : Call) (reply : Reply) (change : Option Change)
    (old new : Known) →
    IsSetting o → IsRun o (e ∷ h) → e.call ≡ call → e.reply ≡ reply → old ≡ known o h →
    change ≡ change_by call reply old.number → new.rows ≡ rows_then change old.rows →
    new.number ≡ number_then reply old.number →
    new ≡ known o (e ∷ h)
known_then o h e call reply change old new s run calls replies is changed rows number =
    let next = known_next o h e s run in
    let change_is : change ≡ change_by e.call e.reply (period_number o h) = rw (changed, is, calls, replies) refl in
    let rows_are : new.rows ≡ table o (e ∷ h) = rw (rows, change_is, is) next.0 in
    let number_is : new.number ≡ period_number o (e ∷ h) = rw (number, ← replies, is) next.1 in
    ap (λ (r : List Row). record { rows = r; number = new.number }) rows_are
    ∙ ap (λ (n : ℕ). record { rows = table o (e ∷ h); number = n }) number_is
