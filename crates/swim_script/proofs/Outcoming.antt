-- What came of a line, and that it is written.
use Rattle.std.proofs.Common.{◌≡◌, ℕ, ◌+◌, ◌≤◌, Bool, true, false, List, [], ◌∷◌, length, Option, Some, None, Result}
use Rattle.std.proofs.Common.{Ok}
use Rattle.std.proofs.Common.{Err, refl, sym, ap, subst, ◌∙◌, inr}
use Rattle.std.specs.Prelude.{if◌then◌else◌}
use Rattle.swim_text.specs.Streams.{Puts}
use Rattle.swim_history.specs.declared.calls.Call.{Call}
use Rattle.swim_history.specs.declared.entries.Entry.{Entry}
use Rattle.swim_history.specs.declared.replies.Reply.{Reply}
use Rattle.swim_detector.specs.Recording.{Recording, IsLatest, RecordsCall}
use Rattle.swim_script.specs.declared.choosers.Drawer.{Drawer}
use Rattle.swim_script.specs.declared.faults.FaultKind.TheVariants.{Write}
use Rattle.swim_script.specs.declared.faults.ScriptFault.{ScriptFault}
use Rattle.swim_script.specs.declared.outcomes.LineOutcome.{LineOutcome}
use Rattle.swim_script.specs.Choosers.{ChoosesOrder, ChoosesPlace}
use Rattle.swim_script.specs.Headers.{Told}
use Rattle.swim_script.specs.Texts.{answer_text}
use Rattle.swim_script.specs.Script.{at_line}
use Rattle.swim_script.specs.Holds.{Played, Answers, Starts, Called, IsPlayed, IsShown, PlaysLine, ShowsLine}
use Rattle.swim_script.specs.Outcomes.{latest, text_with, outcome_text}

-- the newest reply is what is written
pub latest_is : (past : List Entry) (reply : Reply) → IsLatest past reply → reply ≡ latest past
latest_is [] reply is = is
latest_is (e ∷ before) reply is = is

-- an entry was added, and the newest reply is its own
pub made_by : (old new : Recording Drawer) (call : Call) (before after : Option (List ℕ)) (done : Bool) →
    length old.past + 1 ≤ old.limit → RecordsCall ChoosesOrder ChoosesPlace old new 0 call →
    Puts before after (answer_text new.opening (latest new.past)) done → Answers old new call before after done
made_by old new call before after done room made wrote =
    let e = made.0 in
    let text : answer_text new.opening (latest new.past) ≡ answer_text old.opening e.reply =
    ap (λ o. answer_text o (latest new.past)) made.3.3 ∙
    ap (λ (h : List Entry). answer_text old.opening (latest h)) made.3.2 in
    inr (inr (e, made.1, made.2, room, made.3, subst (λ (t : List ℕ). Puts before after t done) text wrote))

-- the recorder is open at an event line
starts_some : (header : Told) (recorded new : Option (Recording Drawer)) → Starts header recorded new →
    (a : Recording Drawer) × (new ≡ Some a) × Starts header recorded (Some a)
starts_some header None None s = absurd s
starts_some header (Some a) None s = absurd cc
starts_some header recorded (Some b) s = (b, refl, s)

called_some : (a : Recording Drawer) (new : Option (Recording Drawer)) (call : Call)
    (before after : Option (List ℕ)) (done : Bool) → Called (Some a) new call before after done →
    (b : Recording Drawer) × (new ≡ Some b) × Answers a b call before after done
called_some a None call before after done c = absurd c
called_some a (Some b) call before after done c = (b, refl, c)

-- a call was made, and its answer was written, or a front of it
made_so : (old new : Played) (mid : Option (Recording Drawer)) (call : Call) (outcome : LineOutcome)
    (before after : Option (List ℕ)) (done : Bool) → Starts old.header old.recorded mid →
    ((front back : Option (List ℕ)) (all : Bool) → Puts front back (outcome_text new.recorded outcome) all →
    Called mid new.recorded call front back all) → new.lines ≡ old.lines + 1 →
    Puts before after (outcome_text new.recorded outcome) done → IsPlayed old new call before after done
made_so old new mid call outcome before after done started called count wrote =
    let s = starts_some old.header old.recorded mid started in
    let c = called_some s.0 new.recorded call before after done
    (subst (λ (m : Option (Recording Drawer)). Called m new.recorded call before after done) s.1
    (called before after done wrote)) in
    (s.0, s.2, c.0, c.1, c.2, count)

-- a call was made, and its answer was written, or the writer failed at it
pub played_by : (old new : Played) (mid : Option (Recording Drawer)) (call : Call) (outcome : LineOutcome)
    (before after : Option (List ℕ)) (done : Bool) (result : Result (Unit {0}) ScriptFault) →
    Starts old.header old.recorded mid →
    ((front back : Option (List ℕ)) (all : Bool) → Puts front back (outcome_text new.recorded outcome) all →
    Called mid new.recorded call front back all) → new.lines ≡ old.lines + 1 →
    Puts before after (outcome_text new.recorded outcome) done →
    result ≡ (if done then Ok tt else Err (record { line = new.lines; kind = Write })) →
    PlaysLine old new call before after result
played_by old new mid call outcome before after true result started called count wrote is =
    subst (PlaysLine old new call before after) (sym is)
    (made_so old new mid call outcome before after true started called count wrote)
played_by old new mid call outcome before after false result started called count wrote is =
    subst (PlaysLine old new call before after) (sym is)
    (inr (
      ap (λ n. at_line n Write) count,
      made_so old new mid call outcome before after false started called count wrote,
    ))

-- what was recorded so far answers, and that was written, or a front of it
shown_so : (old new : Played) (outcome : LineOutcome) (before after : Option (List ℕ)) (done : Bool) →
    Starts old.header old.recorded new.recorded → new.lines ≡ old.lines + 1 →
    Puts before after (outcome_text new.recorded outcome) done →
    IsShown old new (λ a. text_with a outcome) before after done
shown_so old new outcome before after done started count wrote =
    let s = starts_some old.header old.recorded new.recorded started in
    let shown = subst (λ (r : Option (Recording Drawer)). Puts before after (outcome_text r outcome) done) s.1 wrote in
    (s.0, s.2, s.1, shown, count)

-- what was recorded so far answers, and that was written, or the writer failed at it
pub shown_by : (old new : Played) (outcome : LineOutcome) (before after : Option (List ℕ)) (done : Bool)
    (result : Result (Unit {0}) ScriptFault) → Starts old.header old.recorded new.recorded →
    new.lines ≡ old.lines + 1 → Puts before after (outcome_text new.recorded outcome) done →
    result ≡ (if done then Ok tt else Err (record { line = new.lines; kind = Write })) →
    ShowsLine old new (λ a. text_with a outcome) before after result
shown_by old new outcome before after true result started count wrote is =
    subst (ShowsLine old new (λ a. text_with a outcome) before after) (sym is)
    (shown_so old new outcome before after true started count wrote)
shown_by old new outcome before after false result started count wrote is =
    subst (ShowsLine old new (λ a. text_with a outcome) before after) (sym is)
    (inr (ap (λ n. at_line n Write) count, shown_so old new outcome before after false started count wrote))
