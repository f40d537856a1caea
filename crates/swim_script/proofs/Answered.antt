-- What an event line does to what a session's fields mean.
use Rattle.std.proofs.Common.{◌≡◌, ℕ, ◌+◌, ◌≤◌, cond, Bool, true, false, List, [], ◌∷◌, ◌++◌, length, Option, Some}
use Rattle.std.proofs.Common.{None, Ok, refl, sym, ap, subst, ◌∙◌, inl, inr, arith}
use Rattle.std.proofs.lemmas.Bool.{lt-ltb, le-ltb, eq-eqb}
use Rattle.std.proofs.lemmas.List.{length-map}
use Rattle.std.proofs.lemmas.Option.{same_Some}
use Rattle.swim_history.specs.declared.calls.Call.{Call}
use Rattle.swim_history.specs.declared.entries.Entry.{Entry}
use Rattle.swim_history.specs.Drawn.{DrawsEntry}
use Rattle.swim_history.specs.Setting.{Setting}
use Rattle.swim_history.specs.Run.{Continues}
use Rattle.swim_detector.specs.Recording.{Recording, IsKept, Records}
use Rattle.swim_script.specs.declared.arguments.Opened.{Opened}
use Rattle.swim_script.specs.declared.choosers.Drawer.{Drawer}
use Rattle.swim_script.specs.declared.commands.Command.{Command}
use Rattle.swim_script.specs.declared.commands.Command.TheVariants as commands
use Rattle.swim_script.specs.declared.faults.ScriptFault.{ScriptFault}
use Rattle.swim_script.specs.Choosers.{ChoosesOrder, ChoosesPlace}
use Rattle.swim_script.specs.Headers.{said, Told, is_event, Head, read_after, head_then, head_of, setting_in, limit_in}
use Rattle.swim_script.specs.Headers.{chooser_in}
use Rattle.swim_script.specs.Texts.{answer_text, full_text, no_memory_text}
use Rattle.swim_script.specs.Script.{Turn, lines_of, asked_by, asked_in, is_full, calls_in, output_of, IsConfirmed}
use Rattle.swim_script.specs.Script.{AreConfirmed, IsRunOf, fault_of_opening, fault_of_command, fault_with}
use Rattle.swim_script.specs.Script.{fault_of_header}
use Rattle.swim_script.specs.Script.Asked.{Calls}
use Rattle.swim_script.specs.Holds.{Played, IsRecorded, Plays, Holds, Starts, IsPlayed, IsShown, IsTurn}
use Rattle.swim_script.proofs.KeptRows.{all_kept}
use Rattle.swim_script.proofs.Turns.{head_after, asked_after}

-- the header after an event line
abbrev pub after_event : Head → Head
after_event head = record { told = head.told; begun = true }

-- ---- where the opening has no fault

no_fault_begun : (head : Head) (command : Command) → head.begun ≡ true → fault_of_command head command ≡ None
no_fault_begun head command begun = rw begun refl

-- the fault of an opening that is there is its own
no_fault_opened : (opened : Option Opened) (fault : Option ScriptFault) → fault_with opened fault ≡ None → fault ≡ None
no_fault_opened None fault none = absurd cc
no_fault_opened (Some opened) fault none = none

no_fault_at_event : (head : Head) (command : Command) → head.begun ≡ false → fault_of_header head.told ≡ None →
    fault_of_command head command ≡ None
no_fault_at_event head command begun none = rw begun (by (is_event command))
  where
    by : (event : Bool) → cond event (fault_of_opening head.told) None ≡ None
    by true = no_fault_opened head.told.opened (fault_of_opening head.told) none
    by false = refl

-- the recorder made the run of the lines so far, and the next line has no fault of the opening
record IsReady (turns : List Turn) (run : List Entry) (text : List ℕ) (a : Recording Drawer) : Type 0 where
  pub recorded : IsRecorded turns run text a
  pub none : (command : Command) → fault_of_command (head_of (lines_of turns)) command ≡ None

-- a run with no entry
no_entry : (told : Told) (made : List Call) (run : List Entry) (chooser : Drawer) → made ≡ [] → run ≡ [] →
    chooser ≡ chooser_in told → IsRunOf told made run chooser
no_entry told made run chooser none empty is =
    let base : IsRunOf told [] [] (chooser_in told) =
    record { legal = tt; drawn = refl; calls = refl; one_seat = refl } in
    subst (λ (c : Drawer). IsRunOf told made run c) (sym is)
    (subst (λ (m : List Call). IsRunOf told m run (chooser_in told)) (sym none)
    (subst (λ (r : List Entry). IsRunOf told [] r (chooser_in told)) (sym empty) base))

ready_by : (turns : List Turn) (run : List Entry) (text : List ℕ) (header : Told) (recorded : Option (Recording Drawer))
    (a : Recording Drawer) →
    Plays turns run text header recorded → Starts header recorded (Some a) → IsReady turns run text a
ready_by turns run text header (Some b) a p started = record {
  recorded = subst (IsRecorded turns run text) (sym (same_Some a b started)) p.1;
  none = λ command. no_fault_begun (head_of (lines_of turns)) command p.0;
}
ready_by turns run text header None a p started =
    let told = (head_of (lines_of turns)).told in
    let all : header ≡ told = p.told ∙ all_kept told (ap fault_of_header (sym p.told) ∙ started.0) in
    record {
      recorded = record {
        past = started.1 ∙ sym p.none;
        opening = started.2 ∙ ap setting_in all;
        limit = started.3 ∙ ap limit_in all;
        made = no_entry told (calls_in turns) run a.chooser (p.silent 0).0 p.none (started.4 ∙ ap chooser_in all);
        confirmed = subst (λ (r : List Entry). AreConfirmed turns r) (sym p.none) (p.silent 0).2;
        text_is = p.nothing ∙ sym ((p.silent 0).1 (setting_in told)) ∙
            ap (output_of (setting_in told) turns) (sym p.none);
      };
      none = λ command. no_fault_at_event (head_of (lines_of turns)) command p.begun
          (ap fault_of_header (sym all) ∙ started.0);
    }

-- ---- what a session is after an event line

next_holds : (turns : List Turn) (turn : Turn) (run run' : List Entry) (text text' : List ℕ) (s new : Played)
    (b : Recording Drawer) →
    head_of (lines_of (turn ∷ turns)) ≡ after_event (head_of (lines_of turns)) → Holds turns run text s →
    new.recorded ≡ Some b → new.lines ≡ s.lines + 1 → IsRecorded (turn ∷ turns) run' text' b →
    Holds (turn ∷ turns) run' text' new
next_holds turns turn run run' text text' s new b head h recorded lines r = record {
  count = omega (arith, lines, h.count);
  plays = subst (Plays (turn ∷ turns) run' text' new.header) (sym recorded) (ap (λ (x : Head). x.begun) head, r);
}

-- how many calls were made, against the limit
made_is : (turns : List Turn) (run : List Entry) (text : List ℕ) (a : Recording Drawer) → IsRecorded turns run text a →
    length (calls_in turns) ≡ length a.past
made_is turns run text a r = ap length (sym r.made.calls) ∙ length-map run (λ e. e.call) ∙ ap length (sym r.past)

full_now : (turns : List Turn) (run : List Entry) (text : List ℕ) (a : Recording Drawer) → IsRecorded turns run text a →
    length a.past ≡ a.limit → is_full (limit_in (head_of (lines_of turns)).told) (length (calls_in turns)) ≡ true
full_now turns run text a r full =
    rw (le-ltb (length (calls_in turns)) (limit_in (head_of (lines_of turns)).told)
    (omega (arith, made_is turns run text a r, r.limit, full))) refl

room_now : (turns : List Turn) (run : List Entry) (text : List ℕ) (a : Recording Drawer) → IsRecorded turns run text a →
    length a.past + 1 ≤ a.limit → is_full (limit_in (head_of (lines_of turns)).told) (length (calls_in turns)) ≡ false
room_now turns run text a r room =
    rw (lt-ltb (length (calls_in turns)) (limit_in (head_of (lines_of turns)).told)
    (omega (arith, made_is turns run text a r, r.limit, room))) refl

-- the recorder is as before, and the line has an answer
still_recorded : (turns : List Turn) (turn : Turn) (run : List Entry) (text more : List ℕ) (a b : Recording Drawer) →
    head_of (lines_of (turn ∷ turns)) ≡ after_event (head_of (lines_of turns)) →
    IsRecorded turns run text a → IsKept a b → calls_in (turn ∷ turns) ≡ calls_in turns →
    AreConfirmed (turn ∷ turns) run →
    output_of (setting_in (head_of (lines_of turns)).told) (turn ∷ turns) run ≡
    output_of (setting_in (head_of (lines_of turns)).told) turns run ++ more →
    IsRecorded (turn ∷ turns) run (text ++ more) b
still_recorded turns turn run text more a b head r same calls confirmed output =
    let told : (head_of (lines_of (turn ∷ turns))).told ≡ (head_of (lines_of turns)).told =
    ap (λ (x : Head). x.told) head in
    record {
      past = same.1 ∙ r.past;
      opening = same.0 ∙ r.opening ∙ ap setting_in (sym told);
      limit = same.2 ∙ r.limit ∙ ap limit_in (sym told);
      made = subst (λ (t : Told). IsRunOf t (calls_in (turn ∷ turns)) run b.chooser) (sym told)
          (subst (λ (made : List Call). IsRunOf (head_of (lines_of turns)).told made run b.chooser) (sym calls)
          (subst (λ (c : Drawer). IsRunOf (head_of (lines_of turns)).told (calls_in turns) run c) (sym same.3) r.made));
      confirmed = confirmed;
      text_is = ap (λ t. t ++ more) r.text_is ∙ sym output ∙
          ap (λ (t : Told). output_of (setting_in t) (turn ∷ turns) run) (sym told);
    }

-- an entry more of a run
entry_made : (told : Told) (made : List Call) (run : List Entry) (a b : Recording Drawer) (e : Entry) (call : Call) →
    a.past ≡ run → a.opening ≡ setting_in told → IsRunOf told made run a.chooser →
    e.seat ≡ 0 → e.call ≡ call → Records ChoosesOrder ChoosesPlace a b e →
    IsRunOf told (call ∷ made) (e ∷ run) b.chooser
entry_made told made run a b e call past opening m seat called adds = record {
  legal = (
    subst (λ (h : List Entry). Continues (setting_in told) h e) past
        (subst (λ (o : Setting). Continues o a.past e) opening adds.0),
    m.legal,
  );
  drawn = (
    a.chooser,
    m.drawn,
    subst (λ (h : List Entry). DrawsEntry ChoosesOrder ChoosesPlace (setting_in told) h e.call e.reply e.choice
        a.chooser b.chooser) past
        (subst (λ (o : Setting). DrawsEntry ChoosesOrder ChoosesPlace o a.past e.call e.reply e.choice a.chooser
        b.chooser) opening adds.1),
  );
  calls = rw (called, m.calls) refl;
  one_seat = rw (eq-eqb e.seat 0 seat, m.one_seat) refl;
}

-- an entry was added
entry_recorded : (turns : List Turn) (turn : Turn) (run : List Entry) (text : List ℕ) (a b : Recording Drawer)
    (e : Entry) (call : Call) → head_of (lines_of (turn ∷ turns)) ≡ after_event (head_of (lines_of turns)) →
    IsRecorded turns run text a → e.seat ≡ 0 → e.call ≡ call → Records ChoosesOrder ChoosesPlace a b e →
    calls_in (turn ∷ turns) ≡ call ∷ calls_in turns → AreConfirmed (turn ∷ turns) (e ∷ run) →
    ((o : Setting) → output_of o (turn ∷ turns) (e ∷ run) ≡ output_of o turns run ++ answer_text o e.reply) →
    IsRecorded (turn ∷ turns) (e ∷ run) (text ++ answer_text a.opening e.reply) b
entry_recorded turns turn run text a b e call head r seat called adds calls confirmed output =
    let before = (head_of (lines_of turns)).told in
    let told : (head_of (lines_of (turn ∷ turns))).told ≡ before = ap (λ (x : Head). x.told) head in
    record {
      past = adds.2 ∙ ap (λ h. e ∷ h) r.past;
      opening = adds.3 ∙ r.opening ∙ ap setting_in (sym told);
      limit = adds.4 ∙ r.limit ∙ ap limit_in (sym told);
      made = subst (λ (t : Told). IsRunOf t (calls_in (turn ∷ turns)) (e ∷ run) b.chooser) (sym told)
          (subst (λ (made : List Call). IsRunOf before made (e ∷ run) b.chooser) (sym calls)
          (entry_made before (calls_in turns) run a b e call r.past r.opening r.made seat called adds));
      confirmed = confirmed;
      text_is = ap (λ (o : Setting). text ++ answer_text o e.reply) r.opening ∙
          ap (λ t. t ++ answer_text (setting_in before) e.reply) r.text_is
          ∙ sym (output (setting_in before)) ∙
          ap (λ (t : Told). output_of (setting_in t) (turn ∷ turns) (e ∷ run)) (sym told);
    }

-- a line that makes a call tells of no answer
calm_call : (command : Command) (call : Call) (run : List Entry) → asked_by (Some command) ≡ Calls call →
    IsConfirmed (Some command) run
calm_call (commands.Open arguments) call run asks = tt
calm_call (commands.Row row) call run asks = tt
calm_call (commands.Order order) call run asks = tt
calm_call (commands.Place place) call run asks = tt
calm_call (commands.Wire version) call run asks = tt
calm_call (commands.Seed key life) call run asks = tt
calm_call commands.Tick call run asks = tt
calm_call (commands.Hear peer datagram) call run asks = tt
calm_call (commands.Join id peer) call run asks = tt
calm_call (commands.Remove id) call run asks = tt
calm_call commands.Table call run asks = tt
calm_call (commands.Gap id) call run asks = tt
calm_call (commands.Answer text) call run asks = absurd cc

-- ---- the lines

-- a line that makes a call
pub played : (turns : List Turn) (run : List Entry) (text piece : List ℕ) (s new : Played) (command : Command)
    (call : Call) (before after : Option (List ℕ)) (whole : Bool) →
    read_after (lines_of turns) piece ≡ Ok (Some command) → asked_by (Some command) ≡ Calls call →
    head_then (length (lines_of turns) + 1) (Some command) (head_of (lines_of turns)) ≡
    after_event (head_of (lines_of turns)) →
    Holds turns run text s → IsPlayed s new call before after whole → IsTurn turns text piece new before after whole
played turns run text piece s new command call before after whole read asks heads h done =
    let a = done.0 in
    let b = done.2 in
    let is_ready = ready_by turns run text s.header s.recorded a h.plays done.1 in
    let r = is_ready.recorded in
    let head : (refused : Bool) → head_of (piece ∷ lines_of turns) ≡ after_event (head_of (lines_of turns)) =
    λ refused. head_after turns (record { line = piece; refused = refused }) (Some command) read ∙ heads in
    let said_is : said (lines_of turns) piece ≡ Some command = rw read refl in
    let calm : (r : List Entry) → IsConfirmed (Some command) r = λ r. calm_call command call r asks in
    let asked : (refused : Bool) → asked_in (lines_of turns) piece ≡ Calls call =
    λ refused. asked_after turns (record { line = piece; refused = refused }) (Some command) read ∙ asks in
    elim done.4 [
      | inl full ↦
          let turn : Turn = record { line = piece; refused = false } in
          let is = full_now turns run text a r full.0 in
          record {
            none = rw read (is_ready.none command);
            refused = false;
            run = run;
            more = full_text;
            holds = next_holds turns turn run run text (text ++ full_text) s new b (head false) h done.3 done.5
                (still_recorded turns turn run text full_text a b (head false) r full.1 (rw (asked false, is) refl)
                (rw (said_is, asks, is) (calm run, r.confirmed)) (rw (asked false, is) refl));
            written = full.2;
          }
      | inr (inl short) ↦
          let turn : Turn = record { line = piece; refused = true } in
          let is = room_now turns run text a r short.0 in
          record {
            none = rw read (is_ready.none command);
            refused = true;
            run = run;
            more = no_memory_text;
            holds = next_holds turns turn run run text (text ++ no_memory_text) s new b (head true) h done.3 done.5
                (still_recorded turns turn run text no_memory_text a b (head true) r short.1 (rw (asked true, is) refl)
                (rw (said_is, asks, is) (calm run, r.confirmed)) (rw (asked true, is) refl));
            written = short.2;
          }
      | inr (inr made) ↦
          let turn : Turn = record { line = piece; refused = false } in
          let e = made.0 in
          let is = room_now turns run text a r made.3 in
          record {
            none = rw read (is_ready.none command);
            refused = false;
            run = e ∷ run;
            more = answer_text a.opening e.reply;
            holds = next_holds turns turn run (e ∷ run) text (text ++ answer_text a.opening e.reply) s new b
                (head false) h done.3 done.5
                (entry_recorded turns turn run text a b e call (head false) r made.1 made.2 made.4
                (rw (asked false, is) refl) (rw (said_is, asks, is) (calm (e ∷ run), r.confirmed))
                (λ o. rw (asked false, is) refl));
            written = made.5;
          }
    ]

-- a line that is answered by what was recorded so far, and makes no call
pub shown : (turns : List Turn) (run : List Entry) (text piece : List ℕ) (s new : Played) (command : Command)
    (shows : Recording Drawer → List ℕ) (before after : Option (List ℕ)) (whole : Bool) →
    read_after (lines_of turns) piece ≡ Ok (Some command) →
    head_then (length (lines_of turns) + 1) (Some command) (head_of (lines_of turns)) ≡
    after_event (head_of (lines_of turns)) →
    ((turn : Turn) → asked_in (lines_of turns) turn.line ≡ asked_by (Some command) →
    calls_in (turn ∷ turns) ≡ calls_in turns) →
    ((turn : Turn) (o : Setting) (a : Recording Drawer) →
    asked_in (lines_of turns) turn.line ≡ asked_by (Some command) → a.opening ≡ o → a.past ≡ run →
    output_of o (turn ∷ turns) run ≡ output_of o turns run ++ shows a) →
    ((turn : Turn) → said (lines_of turns) turn.line ≡ Some command → AreConfirmed turns run →
    AreConfirmed (turn ∷ turns) run) →
    Holds turns run text s → IsShown s new shows before after whole → IsTurn turns text piece new before after whole
shown turns run text piece s new command shows before after whole read heads calls output confirms h done =
    let a = done.0 in
    let turn : Turn = record { line = piece; refused = false } in
    let is_ready = ready_by turns run text s.header s.recorded a h.plays done.1 in
    let r = is_ready.recorded in
    let head : head_of (piece ∷ lines_of turns) ≡ after_event (head_of (lines_of turns)) =
    head_after turns turn (Some command) read ∙ heads in
    let asked = asked_after turns turn (Some command) read in
    record {
      none = rw read (is_ready.none command);
      refused = false;
      run = run;
      more = shows a;
      holds = next_holds turns turn run run text (text ++ shows a) s new a head h done.2 done.4
          (still_recorded turns turn run text (shows a) a a head r (refl, refl, refl, refl) (calls turn asked)
          (confirms turn (rw read refl) r.confirmed)
          (output turn (setting_in (head_of (lines_of turns)).told) a asked r.opening r.past));
      written = done.3;
    }
