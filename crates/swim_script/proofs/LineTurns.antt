-- What a line does to a session, whatever it says.
use Rattle.std.specs.Prelude.{is_some}
use Rattle.std.proofs.Common.{◌≡◌, ℕ, ◌+◌, ◌≤◌, cond, Bool, true, false, List, [], ◌∷◌, ◌++◌, length, Option, Some}
use Rattle.std.proofs.Common.{None, Result, Ok, Err, refl, sym, ap, subst, ◌∙◌, inl, inr, arith, append-nil}
use Rattle.std.specs.Io.KnownBytes.{Keeps}
use Rattle.swim_text.specs.Streams.{PutsFront, appends_none}
use Rattle.swim_wire.specs.Address.{Address}
use Rattle.swim_wire.specs.declared.codec.WireFault.{WireFault}
use Rattle.swim_history.specs.declared.calls.Call.{Call}
use Rattle.swim_history.specs.declared.calls.Call.TheVariants as calls
use Rattle.swim_history.specs.declared.entries.Entry.{Entry}
use Rattle.swim_detector.specs.Recording.{Recording}
use Rattle.swim_script.specs.declared.arguments.Opened.{Opened}
use Rattle.swim_script.specs.declared.choosers.Drawer.{Drawer}
use Rattle.swim_script.specs.declared.commands.Command.{Command}
use Rattle.swim_script.specs.declared.commands.Command.TheVariants.{Open, Row as RowLine, Order, Place, Seed, Wire}
use Rattle.swim_script.specs.declared.commands.Command.TheVariants.{Tick, Hear, Join, Remove, Table, Gap, Answer}
use Rattle.swim_script.specs.declared.commands.Draws.{Draws}
use Rattle.swim_script.specs.declared.commands.LineFault.TheVariants as faults
use Rattle.swim_script.specs.declared.commands.Stage.TheVariants.{Blank, Events}
use Rattle.swim_script.specs.declared.commands.Word.{Word}
use Rattle.swim_script.specs.declared.commands.Word.TheVariants as words
use Rattle.swim_script.specs.declared.faults.FaultKind.TheVariants.{Memory, Differs, Write}
use Rattle.swim_script.specs.declared.faults.ScriptFault.{ScriptFault}
use Rattle.swim_script.specs.Commands.{fault_of_word, word_for}
use Rattle.swim_script.specs.Headers.{Told, told_then, is_event, draws_with, stage_with, stage_told, Head, stage_of}
use Rattle.swim_script.specs.Headers.{read_after, head_then, head_of}
use Rattle.swim_script.specs.Texts.{wire_text, newest_text}
use Rattle.swim_script.specs.Script.{Turn, lines_of, asked_by, IsConfirmed, IsContrary, takes_memory, at_line}
use Rattle.swim_script.specs.Script.{fault_of_opening, fault_of_command, fault_with, fault_of_header, fault_of_read}
use Rattle.swim_script.specs.Script.{IsTold}
use Rattle.swim_script.specs.Script.Asked.{Nothing, Calls}
use Rattle.swim_script.specs.Holds.{Played, stage_in, kept, line_of, Plays, Holds, IsPlayed, IsShown, IsStopped}
use Rattle.swim_script.specs.Holds.{IsNoted, PlaysLine, IsTurn}
use Rattle.swim_script.specs.Holds.{ShowsLine, table_of, gap_of, Tells, TellsOther, Confirms, Done, TurnDone, TurnFails}
use Rattle.swim_script.specs.Holds.{Turned}
use Rattle.swim_script.proofs.KeptRows.{fault_of_kept, kept_more}
use Rattle.swim_script.proofs.Courses.{told_by}
use Rattle.swim_script.proofs.Turns.{taken, stage_is, noted, head_after, asked_after, records_on}
use Rattle.swim_script.proofs.Answered.{after_event, played, shown}

-- before the first event line no recorder is open
no_event_yet : (header : Told) (recorded : Option (Recording Drawer)) (word : Word) →
    fault_of_word Events word ≡ Some faults.Word → fault_of_word (stage_in header recorded) word ≡ None →
    recorded ≡ None
no_event_yet header None word late stands = refl
no_event_yet header (Some a) word late stands = absurd (cc (late, stands))

-- an opening stands before an event line, so its fault is its own
opened_at_event : (opened : Option Opened) (draws : Draws) (wired : Bool) (word : Word) (fault : Option ScriptFault) →
    fault_of_word Blank word ≡ Some faults.Word → fault_of_word (stage_with opened draws wired) word ≡ None →
    fault ≡ fault_with opened fault
opened_at_event None draws wired word fault early stands = absurd (cc (early, stands))
opened_at_event (Some opened) draws wired word fault early stands = refl

-- the opening is refused at the first event line
refused_at_event : (turns : List Turn) (run : List Entry) (text : List ℕ) (header : Told)
    (recorded : Option (Recording Drawer)) (command : Command) (fault : ScriptFault) →
    is_event command ≡ true → fault_of_word Blank (word_for command) ≡ Some faults.Word →
    fault_of_word (stage_of (head_of (lines_of turns))) (word_for command) ≡ None →
    Plays turns run text header recorded → recorded ≡ None → fault_of_header header ≡ Some fault →
    fault_of_command (head_of (lines_of turns)) command ≡ Some fault
refused_at_event turns run text header (Some a) command fault event early stands p none found = absurd cc
refused_at_event turns run text header None command fault event early stands p none found =
    let told = (head_of (lines_of turns)).told in
    let before : stage_of (head_of (lines_of turns)) ≡ stage_told told = rw p.begun refl in
    let opening : fault_of_command (head_of (lines_of turns)) command ≡ fault_of_opening told =
    rw (p.begun, event) refl in
    opening ∙ opened_at_event told.opened (draws_with told.orders told.places told.seed) (is_some told.wire)
    (word_for command) (fault_of_opening told) early (rw (← before) stands)
    ∙ sym (fault_of_kept told) ∙ ap fault_of_header (sym p.told) ∙ found

-- a line of which a front of the answer was written
unfinished : (turns : List Turn) (text piece : List ℕ) (new : Played) (before after : Option (List ℕ)) →
    IsTurn turns text piece new before after false →
    (answer : List ℕ) × IsTold (piece ∷ lines_of turns) (text ++ answer) × PutsFront before after answer
unfinished turns text piece new before after turn = (
  turn.more,
  told_by (record { line = piece; refused = turn.refused } ∷ turns) turn.run (text ++ turn.more) new.header new.recorded
      turn.holds.plays,
  turn.written,
)

-- the session stopped at an event line
stopped : (turns : List Turn) (run : List Entry) (text piece : List ℕ) (s new : Played) (command : Command)
    (fault : ScriptFault) (before after : Option (List ℕ)) (Answering : Type 0) →
    read_after (lines_of turns) piece ≡ Ok (Some command) → is_event command ≡ true →
    fault_of_word Blank (word_for command) ≡ Some faults.Word →
    fault_of_word (stage_in s.header s.recorded) (word_for command) ≡ None → Holds turns run text s →
    IsStopped Answering s fault before after → (Answering → IsTurn turns text piece new before after false) →
    TurnFails turns run text piece fault before after
stopped turns run text piece s new command fault before after Answering read event early stands h done turn =
    elim done [
      | inl refused ↦
          let stage = stage_is turns run text s h in
          inl (
            rw read (refused_at_event turns run text s.header s.recorded command fault event early (rw stage stands)
                h.plays refused.0 refused.1),
            refused.2,
          )
      | inr failed ↦
          let rest = unfinished turns text piece new before after (turn failed.1) in
          inr (inr (inl (
            failed.0 ∙ ap (λ n. record { line = n + 1; kind = Write }) h.count,
            rw read event,
            rest.0,
            rest.1,
            rest.2,
          )))
    ]

-- a line with no answer
pub silent_turn : (turns : List Turn) (run : List Entry) (text piece : List ℕ) (new : Played)
    (before after : Option (List ℕ)) →
    fault_of_read (length (lines_of turns) + 1) (head_of (lines_of turns)) (read_after (lines_of turns) piece) ≡ None →
    Keeps before after → Holds (taken piece ∷ turns) run text new → TurnDone turns text piece new before after
silent_turn turns run text piece new before after none keeps holds = record {
  none = none;
  refused = false;
  run = run;
  more = [];
  holds = rw append-nil holds;
  written = appends_none before after keeps;
}

-- ---- header lines

no_fault_in_header : (head : Head) (command : Command) → is_event command ≡ false → fault_of_command head command ≡ None
no_fault_in_header head command event = rw event (by head.begun)
  where
    by : (begun : Bool) → cond {A = Option ScriptFault} begun None None ≡ None
    by true = refl
    by false = refl

-- a header line that was kept
noted_turn : (turns : List Turn) (run : List Entry) (text piece : List ℕ) (s new : Played) (header : Told)
    (command : Command) (before after : Option (List ℕ)) →
    read_after (lines_of turns) piece ≡ Ok (Some command) → is_event command ≡ false →
    asked_by (Some command) ≡ Nothing → IsConfirmed (Some command) [] →
    fault_of_word Events (word_for command) ≡ Some faults.Word →
    fault_of_word (stage_in s.header s.recorded) (word_for command) ≡ None →
    ((t : Told) → s.header ≡ kept t → header ≡ kept (told_then (length (lines_of turns) + 1) command t)) →
    (line_of s.header.opened ≤ length (lines_of turns) → line_of header.opened ≤ length (lines_of turns) + 1) →
    Holds turns run text s → IsNoted s new header before after → TurnDone turns text piece new before after
noted_turn turns run text piece s new header command before after read event asks calm late stands keeps within h d =
    silent_turn turns run text piece new before after
    (rw read (no_fault_in_header (head_of (lines_of turns)) command event)) d.1
    (subst (Holds (taken piece ∷ turns) run text) (sym d.0)
    (noted turns run text piece s header command read event asks calm
    (no_event_yet s.header s.recorded (word_for command) late stands) keeps within h))

-- one for which there was no memory
memory_turn : (turns : List Turn) (run : List Entry) (text piece : List ℕ) (s : Played) (command : Command)
    (fault : ScriptFault) (before after : Option (List ℕ)) →
    read_after (lines_of turns) piece ≡ Ok (Some command) → takes_memory (Some command) ≡ true →
    Holds turns run text s →
    (fault ≡ at_line (s.lines + 1) Memory) × Keeps before after → TurnFails turns run text piece fault before after
memory_turn turns run text piece s command fault before after read takes h d =
    inr (inl (d.0 ∙ ap (λ n. at_line (n + 1) Memory) h.count, rw read takes, d.1))

-- ---- event lines

calls_turn : (turns : List Turn) (run : List Entry) (text piece : List ℕ) (s new : Played) (command : Command)
    (call : Call) (before after : Option (List ℕ)) (result : Result (Unit {0}) ScriptFault) →
    read_after (lines_of turns) piece ≡ Ok (Some command) → asked_by (Some command) ≡ Calls call →
    is_event command ≡ true →
    head_then (length (lines_of turns) + 1) (Some command) (head_of (lines_of turns)) ≡
    after_event (head_of (lines_of turns)) →
    fault_of_word Blank (word_for command) ≡ Some faults.Word →
    fault_of_word (stage_in s.header s.recorded) (word_for command) ≡ None → Holds turns run text s →
    PlaysLine s new call before after result → Turned turns run text piece new before after result
calls_turn turns run text piece s new command call before after (Ok done) read asks event heads early stands h d =
    played turns run text piece s new command call before after true read asks heads h d
calls_turn turns run text piece s new command call before after (Err fault) read asks event heads early stands h d =
    stopped turns run text piece s new command fault before after (IsPlayed s new call before after false) read event
    early stands h d (played turns run text piece s new command call before after false read asks heads h)

unread_shown : (turns : List Turn) (run : List Entry) (text piece : List ℕ) (s new : Played) (source : Address)
    (wire : WireFault) (before after : Option (List ℕ)) (whole : Bool) →
    read_after (lines_of turns) piece ≡ Ok (Some (Hear source (Err wire))) → Holds turns run text s →
    IsShown s new (λ a. wire_text wire) before after whole → IsTurn turns text piece new before after whole
unread_shown turns run text piece s new source wire before after whole read h d =
    shown turns run text piece s new (Hear source (Err wire)) (λ a. wire_text wire) before after whole read refl
    (λ turn asked. rw asked refl) (λ turn o a asked opening past. rw asked refl)
    (λ turn is confirmed. rw is (tt, confirmed)) h d

unread_turn : (turns : List Turn) (run : List Entry) (text piece : List ℕ) (s new : Played) (source : Address)
    (wire : WireFault) (before after : Option (List ℕ)) (result : Result (Unit {0}) ScriptFault) →
    read_after (lines_of turns) piece ≡ Ok (Some (Hear source (Err wire))) →
    fault_of_word (stage_in s.header s.recorded) words.Hear ≡ None → Holds turns run text s →
    ShowsLine s new (λ a. wire_text wire) before after result → Turned turns run text piece new before after result
unread_turn turns run text piece s new source wire before after (Ok done) read stands h d =
    unread_shown turns run text piece s new source wire before after true read h d
unread_turn turns run text piece s new source wire before after (Err fault) read stands h d =
    stopped turns run text piece s new (Hear source (Err wire)) fault before after
    (IsShown s new (λ a. wire_text wire) before after false) read refl refl stands h d
    (unread_shown turns run text piece s new source wire before after false read h)

table_shown : (turns : List Turn) (run : List Entry) (text piece : List ℕ) (s new : Played)
    (before after : Option (List ℕ)) (whole : Bool) → read_after (lines_of turns) piece ≡ Ok (Some Table) →
    Holds turns run text s → IsShown s new table_of before after whole → IsTurn turns text piece new before after whole
table_shown turns run text piece s new before after whole read h d =
    shown turns run text piece s new Table table_of before after whole read refl
    (λ turn asked. rw asked refl) (λ turn o a asked opening past. rw (asked, opening, past) refl)
    (λ turn is confirmed. rw is (tt, confirmed)) h d

table_turn : (turns : List Turn) (run : List Entry) (text piece : List ℕ) (s new : Played)
    (before after : Option (List ℕ)) (result : Result (Unit {0}) ScriptFault) →
    read_after (lines_of turns) piece ≡ Ok (Some Table) →
    fault_of_word (stage_in s.header s.recorded) words.Table ≡ None → Holds turns run text s →
    ShowsLine s new table_of before after result → Turned turns run text piece new before after result
table_turn turns run text piece s new before after (Ok done) read stands h d =
    table_shown turns run text piece s new before after true read h d
table_turn turns run text piece s new before after (Err fault) read stands h d =
    stopped turns run text piece s new Table fault before after (IsShown s new table_of before after false) read refl
    refl stands h d (table_shown turns run text piece s new before after false read h)

gap_shown : (turns : List Turn) (run : List Entry) (text piece : List ℕ) (s new : Played) (id : ℕ)
    (before after : Option (List ℕ)) (whole : Bool) → read_after (lines_of turns) piece ≡ Ok (Some (Gap id)) →
    Holds turns run text s → IsShown s new (gap_of id) before after whole →
    IsTurn turns text piece new before after whole
gap_shown turns run text piece s new id before after whole read h d =
    shown turns run text piece s new (Gap id) (gap_of id) before after whole read refl
    (λ turn asked. rw asked refl) (λ turn o a asked opening past. rw (asked, opening, past) refl)
    (λ turn is confirmed. rw is (tt, confirmed)) h d

gap_turn : (turns : List Turn) (run : List Entry) (text piece : List ℕ) (s new : Played) (id : ℕ)
    (before after : Option (List ℕ)) (result : Result (Unit {0}) ScriptFault) →
    read_after (lines_of turns) piece ≡ Ok (Some (Gap id)) →
    fault_of_word (stage_in s.header s.recorded) words.Gap ≡ None → Holds turns run text s →
    ShowsLine s new (gap_of id) before after result → Turned turns run text piece new before after result
gap_turn turns run text piece s new id before after (Ok done) read stands h d =
    gap_shown turns run text piece s new id before after true read h d
gap_turn turns run text piece s new id before after (Err fault) read stands h d =
    stopped turns run text piece s new (Gap id) fault before after (IsShown s new (gap_of id) before after false) read
    refl refl stands h d (gap_shown turns run text piece s new id before after false read h)

-- ---- lines that tell of answers

-- a recorder is open
recorded_by : (opened : Option Opened) (draws : Draws) (wired : Bool) →
    fault_of_word (stage_with opened draws wired) words.Answer ≡ None → ⊥
recorded_by None draws wired stands = absurd cc
recorded_by (Some opened) draws wired stands = absurd cc

begun_by : (turns : List Turn) (run : List Entry) (text : List ℕ) (header : Told)
    (recorded : Option (Recording Drawer)) → fault_of_word (stage_in header recorded) words.Answer ≡ None →
    Plays turns run text header recorded → (head_of (lines_of turns)).begun ≡ true
begun_by turns run text header None stands p =
    absurd (recorded_by header.opened (draws_with header.orders header.places header.seed) (is_some header.wire) stands)
begun_by turns run text header (Some a) stands p = p.0

confirmed_by : (turns : List Turn) (run : List Entry) (text piece told : List ℕ) (header : Told)
    (recorded : Option (Recording Drawer)) → read_after (lines_of turns) piece ≡ Ok (Some (Answer told)) →
    Tells recorded told → Plays turns run text header recorded → Plays (taken piece ∷ turns) run text header recorded
confirmed_by turns run text piece told header None read tells p = absurd tells
confirmed_by turns run text piece told header (Some a) read tells p =
    let head : head_of (piece ∷ lines_of turns) ≡ head_of (lines_of turns) =
    head_after turns (taken piece) (Some (Answer told)) read in (
      ap (λ (x : Head). x.begun) head ∙ p.0,
      records_on turns (taken piece) run text a (asked_after turns (taken piece) (Some (Answer told)) read)
          (rw read (ap newest_text (sym p.1.past) ∙ tells)) head p.1,
    )

contrary_by : (turns : List Turn) (run : List Entry) (text told : List ℕ) (header : Told)
    (recorded : Option (Recording Drawer)) → fault_of_word (stage_in header recorded) words.Answer ≡ None →
    TellsOther recorded told → Plays turns run text header recorded → IsContrary (Some (Answer told)) run
contrary_by turns run text told header None stands other p =
    absurd (recorded_by header.opened (draws_with header.orders header.places header.seed) (is_some header.wire) stands)
contrary_by turns run text told header (Some a) stands other p = λ same. other (ap newest_text p.1.past ∙ same)

answer_turn : (turns : List Turn) (run : List Entry) (text piece told : List ℕ) (s new : Played)
    (before after : Option (List ℕ)) (result : Result (Unit {0}) ScriptFault) →
    read_after (lines_of turns) piece ≡ Ok (Some (Answer told)) →
    fault_of_word (stage_in s.header s.recorded) words.Answer ≡ None → Holds turns run text s →
    Confirms s new told before after result → Turned turns run text piece new before after result
answer_turn turns run text piece told s new before after (Ok done) read stands h d =
    silent_turn turns run text piece new before after
    (rw read (no_fault_in_header (head_of (lines_of turns)) (Answer told) refl)) d.1.1
    (subst (Holds (taken piece ∷ turns) run text) (sym d.1.0)
    (record {
      count = omega (arith, h.count);
      plays = confirmed_by turns run text piece told s.header s.recorded read d.0 h.plays;
    }))
answer_turn turns run text piece told s new before after (Err fault) read stands h d =
    elim d [
      | inl short ↦ memory_turn turns run text piece s (Answer told) fault before after read refl h short
      | inr other ↦
          inr (inr (inr (
            other.0 ∙ ap (λ n. at_line (n + 1) Differs) h.count,
            begun_by turns run text s.header s.recorded stands h.plays,
            rw read (contrary_by turns run text told s.header s.recorded stands other.1 h.plays),
            other.2,
          )))
    ]

-- what a line did that says something
pub turned_by : (turns : List Turn) (run : List Entry) (text piece : List ℕ) (s new : Played) (command : Command)
    (before after : Option (List ℕ)) (result : Result (Unit {0}) ScriptFault) →
    read_after (lines_of turns) piece ≡ Ok (Some command) →
    fault_of_word (stage_in s.header s.recorded) (word_for command) ≡ None → Holds turns run text s →
    Done s new command before after result → Turned turns run text piece new before after result
turned_by turns run text piece s new (Open arguments) before after (Ok done) read stands h d =
    noted_turn turns run text piece s new (told_then (s.lines + 1) (Open arguments) s.header) (Open arguments) before
    after read refl refl tt refl stands
    (λ t is. ap (λ n. told_then (n + 1) (Open arguments) s.header) h.count ∙
    ap (told_then (length (lines_of turns) + 1) (Open arguments)) is) (λ within. omega (arith, h.count)) h d
turned_by turns run text piece s new (Open arguments) before after (Err fault) read stands h d = absurd d
turned_by turns run text piece s new (RowLine row) before after (Ok done) read stands h d =
    noted_turn turns run text piece s new (kept (told_then (s.lines + 1) (RowLine row) s.header)) (RowLine row) before
    after read refl refl tt refl stands
    (λ t is. ap (λ (header : Told). kept (told_then (s.lines + 1) (RowLine row) header)) is ∙ kept_more t row)
    (λ within. omega (arith, within)) h d
turned_by turns run text piece s new (RowLine row) before after (Err fault) read stands h d = absurd d
turned_by turns run text piece s new (Order order) before after (Ok done) read stands h d =
    noted_turn turns run text piece s new (told_then (s.lines + 1) (Order order) s.header) (Order order) before after
    read refl refl tt refl stands
    (λ t is. ap (told_then (s.lines + 1) (Order order)) is) (λ within. omega (arith, within)) h d
turned_by turns run text piece s new (Order order) before after (Err fault) read stands h d =
    memory_turn turns run text piece s (Order order) fault before after read refl h d
turned_by turns run text piece s new (Place place) before after (Ok done) read stands h d =
    noted_turn turns run text piece s new (told_then (s.lines + 1) (Place place) s.header) (Place place) before after
    read refl refl tt refl stands
    (λ t is. ap (told_then (s.lines + 1) (Place place)) is) (λ within. omega (arith, within)) h d
turned_by turns run text piece s new (Place place) before after (Err fault) read stands h d =
    memory_turn turns run text piece s (Place place) fault before after read refl h d
turned_by turns run text piece s new (Seed key life) before after (Ok done) read stands h d =
    noted_turn turns run text piece s new (told_then (s.lines + 1) (Seed key life) s.header) (Seed key life) before
    after read refl refl tt refl stands
    (λ t is. ap (told_then (s.lines + 1) (Seed key life)) is) (λ within. omega (arith, within)) h d
turned_by turns run text piece s new (Seed key life) before after (Err fault) read stands h d = absurd d
turned_by turns run text piece s new (Wire version) before after (Ok done) read stands h d =
    noted_turn turns run text piece s new (told_then (s.lines + 1) (Wire version) s.header) (Wire version) before after
    read refl refl tt refl stands
    (λ t is. ap (told_then (s.lines + 1) (Wire version)) is) (λ within. omega (arith, within)) h d
turned_by turns run text piece s new (Wire version) before after (Err fault) read stands h d = absurd d
turned_by turns run text piece s new Tick before after result read stands h d =
    calls_turn turns run text piece s new Tick calls.Tick before after result read refl refl refl refl stands h d
turned_by turns run text piece s new (Hear source (Ok message)) before after result read stands h d =
    calls_turn turns run text piece s new (Hear source (Ok message)) (calls.Hear source message) before after result
    read refl refl refl refl stands h d
turned_by turns run text piece s new (Hear source (Err wire)) before after result read stands h d =
    unread_turn turns run text piece s new source wire before after result read stands h d
turned_by turns run text piece s new (Join id peer) before after result read stands h d =
    calls_turn turns run text piece s new (Join id peer) (calls.Join id peer) before after result read refl refl refl
    refl stands h d
turned_by turns run text piece s new (Remove id) before after result read stands h d =
    calls_turn turns run text piece s new (Remove id) (calls.Remove id) before after result read refl refl refl refl
    stands h d
turned_by turns run text piece s new Table before after result read stands h d =
    table_turn turns run text piece s new before after result read stands h d
turned_by turns run text piece s new (Gap id) before after result read stands h d =
    gap_turn turns run text piece s new id before after result read stands h d
turned_by turns run text piece s new (Answer told) before after result read stands h d =
    answer_turn turns run text piece told s new before after result read stands h d
