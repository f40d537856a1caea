-- What one more entry does to the changes of a run, and what is told of it.
use Rattle.std.proofs.Common.{◌≡◌, ℕ, ◌<◌, ◌≤◌, List, [], ◌∷◌, ◌++◌, length, Option, Some, None, refl, sym, ap, subst}
use Rattle.std.proofs.Common.{arith, length-append}
use Rattle.std.specs.Option.{option_to_list}
use Rattle.std.specs.List.{AllByRecursion}
use Rattle.swim_history.specs.declared.calls.Call.{Call}
use Rattle.swim_history.specs.declared.rows.Change.{Change}
use Rattle.swim_history.specs.declared.entries.Entry.{Entry}
use Rattle.swim_history.specs.declared.seats.Kept.{Kept}
use Rattle.swim_history.specs.Setting.{Setting, IsSetting}
use Rattle.swim_history.specs.Clock.{period_number}
use Rattle.swim_history.specs.Changes.{change_by, changes, table_after}
use Rattle.swim_history.specs.Run.{Continues, IsRun}
use Rattle.swim_history.specs.Laws.Table.{table_bound}
use Rattle.swim_history.specs.Laws.Judgement.{judges_by_rule}
use Rattle.swim_history.specs.Laws.Gap.{gap_bound, probed_in_time}
use Rattle.swim_detector.specs.Recording.{IsChangeOf}
use Rattle.swim_node.specs.Seats.{Seated}
use Rattle.swim_node.specs.Answered.{EndsARun}
use Rattle.swim_node.specs.OneHistory.{HoldsCalls, IsOneHistory}

option_length : {A : Type 0} (o : Option A) → length (option_to_list o) ≤ 1
option_length None = omega arith
option_length (Some x) = omega arith

-- there are no more changes than entries
pub changes_within : (o : Setting) (h : List Entry) → length (changes o h) ≤ length h
changes_within o [] = omega arith
changes_within o (e ∷ h) =
    let change = change_by e.call e.reply (period_number o h) in
    omega (arith, changes_within o h, length-append (changes o h) (option_to_list change), option_length change)

-- what is told with the change of the next entry are the changes with it
pub changes_then : (o at : Setting) (h past new : List Entry) (call : Call) (change : Option Change)
    (old now : List Change) (e : Entry) → at ≡ o → past ≡ h → Continues at past e → e.call ≡ call
    → IsChangeOf at past call change → new ≡ e ∷ past → old ≡ changes o h → now ≡ old ++ option_to_list change →
    now ≡ changes o new
changes_then o at h past new call change old now e is_o is_h next is_call is_change is_new is_old is_now =
    let makes = is_change e.reply e.choice (rw is_call at next.answer) in
    rw (is_now, is_old, is_new, makes, ← is_call, is_o, is_h) refl

-- and the table has room for it
pub change_fits : (o at : Setting) (h past : List Entry) (call : Call) (change : Option Change) (old : List Change)
    (e : Entry) → at ≡ o → past ≡ h → IsSetting o → IsRun o h → Continues at past e → e.call ≡ call
    → IsChangeOf at past call change → old ≡ changes o h → length (table_after o (old ++ option_to_list change)) ≤ 128
change_fits o at h past call change old e is_o is_h setting run next is_call is_change is_old =
    let told : old ++ option_to_list change ≡ changes o (e ∷ h) =
    changes_then o at h past (e ∷ h) call change old (old ++ option_to_list change) e is_o is_h next is_call is_change
    (ap (λ x. e ∷ x) (sym is_h)) is_old refl in
    let continues : Continues o h e = rw (is_o, is_h) at next in
    subst (λ (l : List Change). length (table_after o l) ≤ 128) (sym told)
    (table_bound o (e ∷ h) setting (continues, run))

-- an entry that continues a run ends one
pub ends_run : (o : Setting) (h : List Entry) (e : Entry) (seat : ℕ) (k : Kept) (news : List Change) → IsRun o h →
    Continues o h e → e.seat ≡ seat → k.position ≡ length h → k.number ≡ e.number → k.call ≡ e.call
    → k.reply ≡ e.reply → news ≡ changes o (e ∷ h) → EndsARun o seat k news
ends_run o h e seat k news run next is_seat is_position is_number is_call is_reply told = record {
  before = h;
  choice = e.choice;
  run = rw (← is_seat, is_number, is_call, is_reply) (next, run);
  position = sym is_position;
  told = rw (is_call, is_reply) told;
}

-- in a run each entry is of one of the four seats
callers_of : (o : Setting) (h : List Entry) → IsRun o h → AllByRecursion (λ e. e.seat < 4) h
callers_of o [] run = tt
callers_of o (e ∷ h) run = (run.0.seat, callers_of o h run.1)

-- what a closed node hands back, from what was compared
pub one_history : (o : Setting) (h : List Entry) (seats : List Seated) (news : List Change) → IsSetting o → IsRun o h →
    HoldsCalls h seats → news ≡ changes o h → IsOneHistory o h seats news
one_history o h seats news setting run calls told = record {
  run = run;
  calls = calls;
  callers = callers_of o h run;
  judged = judges_by_rule o h setting run;
  gaps = gap_bound o h setting run;
  rounds = probed_in_time o h setting run;
  told = told;
}
