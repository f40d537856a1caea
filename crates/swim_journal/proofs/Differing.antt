-- A line of a run's file is told otherwise only behind a call that was refused for want of memory.
use Rattle.std.specs.Prelude.{is_some as is_told}
use Rattle.std.proofs.Common.{◌≡◌, ◌≢◌, ℕ, suc, ◌<◌, ◌≤◌, ◌+◌, ◌^◌, Bool, true, false, List, [], ◌∷◌, ◌++◌, length, map}
use Rattle.std.proofs.Common.{inr, drop, Option, Some, None, Result, Ok, Err, refl, sym, ap, subst, ◌∙◌, arith}
use Rattle.std.proofs.lemmas.Bool.{lt-ltb}
use Rattle.rand_chacha.specs.ChaCha.{ChaCha}
use Rattle.swim_text.specs.Lines.{bare}
use Rattle.swim_history.specs.declared.calls.Call.{Call}
use Rattle.swim_history.specs.declared.calls.Call.TheVariants.{Tick, Hear, Join, Remove}
use Rattle.swim_history.specs.declared.entries.Entry.{Entry}
use Rattle.swim_history.specs.Setting.{Setting}
use Rattle.swim_script.specs.declared.choosers.Drawer.{Drawer}
use Rattle.swim_script.specs.declared.choosers.Drawer.TheVariants as drawers
use Rattle.swim_script.specs.declared.commands.Command.{Command}
use Rattle.swim_script.specs.declared.commands.Command.TheVariants.{Answer}
use Rattle.swim_script.specs.declared.arguments.Opened.{Opened}
use Rattle.swim_script.specs.declared.commands.Draws.{Draws}
use Rattle.swim_script.specs.declared.commands.Draws.TheVariants.{Seeded}
use Rattle.swim_script.specs.declared.commands.LineFault.{LineFault}
use Rattle.swim_script.specs.declared.commands.Stage.{Stage}
use Rattle.swim_script.specs.declared.commands.Stage.TheVariants.{Blank, Header, Events}
use Rattle.swim_script.specs.Commands.{fault_of_word, word_for, line_read, LineStandsAt}
use Rattle.swim_script.specs.Forms.{is_mark, form_of}
use Rattle.swim_script.specs.Headers.{Told, Head, draws_with, stage_with, stage_of, stage_told, command_in, read_with}
use Rattle.swim_script.specs.Headers.{head_of, said, setting_in, chooser_in, limit_in}
use Rattle.swim_script.specs.Texts.{placed_text, newest_text}
use Rattle.swim_script.specs.Script.{Turn, lines_of, asked_by, asked_in, is_full, calls_in, AreConfirmed, IsContrary}
use Rattle.swim_script.specs.Script.{IsRunOf}
use Rattle.swim_script.specs.Script.Asked.{Calls}
use Rattle.swim_script.proofs.StandingLines.{line_stands}
use Rattle.swim_journal.specs.Lines.{call_line, answer_line, command_of}
use Rattle.swim_journal.specs.Seatless.{reseated}
use Rattle.swim_journal.specs.Replays.{lines_in, told_by, IsDrawnRun, IsJournalFile, IsBehindRefusal}
use Rattle.swim_journal.proofs.FileLines.{IsAt, call_says, call_at, answer_says}
use Rattle.swim_journal.proofs.FileText.{calls_back}
use Rattle.swim_journal.proofs.Tellings.{lines_onto, CallsReadBack, is_some, onto_at, asked_of, are_told, none_then}
use Rattle.swim_journal.proofs.Tellings.{none_called, calls_few}
use Rattle.swim_journal.proofs.Unrefused.{older, all_called}
use Rattle.swim_journal.proofs.Replayed.{replay_of}

-- ---- a line of a header tells no answer

stands_not : (stage : Stage) (text : List ℕ) (read : Result (Option Command) LineFault) → LineStandsAt stage read →
    command_in read ≡ Some (Answer text) → stage ≡ Events
stands_not Events text read stands is = refl
stands_not Blank text (Ok (Some command)) stands is =
    let same : command ≡ Answer text = cc is in
    let bad : fault_of_word Blank (word_for (Answer text)) ≡ None =
    subst (λ (c : Command). fault_of_word Blank (word_for c) ≡ None) same stands in
    absurd (cc bad)
stands_not (Header draws wired) text (Ok (Some command)) stands is =
    let same : command ≡ Answer text = cc is in
    let bad : fault_of_word (Header draws wired) (word_for (Answer text)) ≡ None =
    subst (λ (c : Command). fault_of_word (Header draws wired) (word_for c) ≡ None) same stands in
    absurd (cc bad)
stands_not Blank text (Ok None) stands is = absurd cc
stands_not (Header draws wired) text (Ok None) stands is = absurd cc
stands_not Blank text (Err fault) stands is = absurd cc
stands_not (Header draws wired) text (Err fault) stands is = absurd cc

not_header : (opened : Option Opened) (draws : Draws) (wired : Bool) → stage_with opened draws wired ≡ Events → ⊥
not_header None draws wired e = cc
not_header (Some opened) draws wired e = cc

not_begun : (head : Head) → head.begun ≡ false → stage_of head ≡ Events → ⊥
not_begun head begun events =
    not_header head.told.opened (draws_with head.told.orders head.told.places head.told.seed) (is_told head.told.wire)
    (rw begun at events)

no_answer : (before : List (List ℕ)) (line text : List ℕ) → (head_of before).begun ≡ false →
    said before line ≡ Some (Answer text) → ⊥
no_answer before line text begun is = by (is_mark (length before) (bare line)) is
  where
    by : (mark : Bool) → command_in (read_with mark (form_of before) (head_of before) line) ≡ Some (Answer text) → ⊥
    by true is = cc
    by false is =
        not_begun (head_of before) begun
        (stands_not (stage_of (head_of before)) text
        (line_read (form_of before) (stage_of (head_of before)) (bare line))
        (line_stands (form_of before) (stage_of (head_of before)) (bare line)) is)

-- older lines of a header are such lines
begun_less : (front before : List (List ℕ)) → (head_of (front ++ before)).begun ≡ false → (head_of before).begun ≡ false
begun_less [] before e = e
begun_less (line ∷ front) before e =
    begun_less front before
    (none_then (length (front ++ before) + 1) (head_of (front ++ before)) (said (front ++ before) line) e).0

-- ---- what a line tells otherwise

record TellsOther (o : Option Command) (run : List Entry) : Type 0 where
  pub text : List ℕ
  pub tells : o ≡ Some (Answer text)
  pub other : newest_text run ≢ Some text

tells_other : (o : Option Command) (run : List Entry) → IsContrary o run → TellsOther o run
tells_other None run contrary = absurd contrary
tells_other (Some (Answer text)) run contrary = record { text = text; tells = refl; other = contrary }
tells_other (Some command) run contrary = absurd contrary

call_agrees : (call : Call) (run : List Entry) → IsContrary (Some (command_of call)) run → ⊥
call_agrees Tick run contrary = contrary
call_agrees (Hear source m) run contrary = contrary
call_agrees (Join id peer) run contrary = contrary
call_agrees (Remove id) run contrary = contrary

-- ---- a call that was made is answered as it was

reseated_length : (h : List Entry) → length (reseated h) ≡ length h
reseated_length [] = refl
reseated_length (e ∷ h) = ap suc (reseated_length h)

-- what is known of a journal file's header, and of the run that it is followed by
pub record IsFile (before : List (List ℕ)) (told : Told) (start : ChaCha) (h : List Entry) : Type 0 where
  pub seeded : stage_told told ≡ Header Seeded (is_told told.wire)
  pub at : IsAt before told false
  pub back : CallsReadBack h
  pub drawn : IsDrawnRun (setting_in told) start h
  pub chooser : chooser_in told ≡ drawers.Seeded start
  pub small : length h < 2 ^ 64
  pub within : length h ≤ limit_in told

pub file_older : (before : List (List ℕ)) (told : Told) (start : ChaCha) (x : Entry) (h : List Entry) →
    IsFile before told start (x ∷ h) → IsFile before told start h
file_older before told start x h f = record {
  seeded = f.seeded;
  at = f.at;
  back = f.back.1;
  drawn = record { setting = f.drawn.setting; run = f.drawn.run.1; now = f.drawn.drawn.0; drawn = f.drawn.drawn.1 };
  chooser = f.chooser;
  small = omega (arith, f.small);
  within = omega (arith, f.within);
}

-- the run of the calls of a file, behind the call of x
answered : (before : List (List ℕ)) (told : Told) (start : ChaCha) (x : Entry) (h : List Entry) (rest : List Turn)
    (run : List Entry) (after : Drawer) → IsFile before told start (x ∷ h) → lines_of rest ≡ lines_onto h before →
    IsRunOf told (x.call ∷ calls_in rest) run after → AreConfirmed rest (drop 1 run) →
    newest_text run ≡ Some (placed_text (length h) x.reply)
answered before told start x h rest [] after f lines made confirmed = absurd (cc made.calls)
answered before told start x h rest (e ∷ run) after f lines made confirmed =
    let each = are_told before told h rest f.seeded f.at f.back.1 lines in
    let none : calls_in each.base ≡ [] =
    none_called each.base (ap (λ l. (head_of l).begun) each.are ∙ ap (λ (head : Head). head.begun) f.at.head) in
    let left = older told x.call (calls_in rest) e run after made in
    let earlier = all_called each.base h rest told run left.0 each.each none (omega (arith, f.small)) left.1
    confirmed in
    let first : e.call ≡ x.call = cc made.calls in
    let calls : map (λ (y : Entry). y.call) (e ∷ run) ≡ map (λ (y : Entry). y.call) (x ∷ h) =
    ap (λ (c : Call). c ∷ map (λ (y : Entry). y.call) run) first ∙ ap (λ (l : List Call). x.call ∷ l) earlier.0 in
    let same : e ∷ run ≡ reseated (x ∷ h) =
    replay_of (x ∷ h) (x.call ∷ calls_in rest) told start (e ∷ run) after f.drawn f.chooser made calls in
    ap newest_text same ∙ ap (λ (n : ℕ). Some (placed_text n x.reply)) (reseated_length h)

pub file_of : (header : List ℕ) (h : List Entry) (j : IsJournalFile header h) →
    IsFile (lines_in header) (told_by header) j.start h
file_of header h j = record {
  seeded = rw j.head.begun at j.head.stage;
  at = record {
    form = j.head.form;
    head = ap (λ (b : Bool). record { told = told_by header; begun = b }) j.head.begun;
  };
  back = calls_back h j.back;
  drawn = subst (λ (o : Setting). IsDrawnRun o j.start h) (sym j.head.opening) j.run;
  chooser = j.head.chooser;
  small = omega (arith, j.within.0, j.within.1);
  within = omega (arith, j.within.0, j.head.limit_is);
}

-- ---- where it is told otherwise

behind_call : (before : List (List ℕ)) (told : Told) (start : ChaCha) (x : Entry) (h : List Entry) (asks : Turn)
    (rest : List Turn) (piece : List ℕ) (run : List Entry) (after : Drawer) → IsFile before told start (x ∷ h) →
    piece ≡ answer_line (length h) x.reply → asks.line ≡ call_line x.call → lines_of rest ≡ lines_onto h before →
    IsRunOf (head_of (lines_of (asks ∷ rest))).told (calls_in (asks ∷ rest)) run after →
    AreConfirmed (asks ∷ rest) run → IsContrary (said (lines_of (asks ∷ rest)) piece) run →
    IsBehindRefusal (asks ∷ rest)
behind_call before told start x h asks rest piece run after f piece-is asks-is lines made confirmed contrary =
    let here : IsAt (lines_onto h before) told (is_some h) = onto_at before told h f.seeded f.at f.back.1 in
    let whole : lines_of (asks ∷ rest) ≡ call_line x.call ∷ lines_onto h before =
    ap (λ (l : List (List ℕ)). asks.line ∷ l) lines ∙ ap (λ (l : List ℕ). l ∷ lines_onto h before) asks-is in
    let next : IsAt (call_line x.call ∷ lines_onto h before) told true =
    call_at (lines_onto h before) told (is_some h) x.call f.seeded here f.back.0 in
    let says : said (lines_of (asks ∷ rest)) piece ≡ Some (Answer (placed_text (length h) x.reply)) =
    ap (λ (l : List (List ℕ)). said l piece) whole ∙ ap (said (call_line x.call ∷ lines_onto h before)) piece-is ∙
    answer_says (call_line x.call ∷ lines_onto h before) told (length h) x.reply next in
    let asked : asked_in (lines_of rest) asks.line ≡ Calls x.call =
    ap asked_by (ap (λ (l : List (List ℕ)). said l asks.line) lines ∙ ap (said (lines_onto h before)) asks-is ∙
    call_says (lines_onto h before) told (is_some h) x.call f.seeded here f.back.0) ∙ asked_of x.call in
    let told-is : (head_of (lines_of (asks ∷ rest))).told ≡ told = ap (λ l. (head_of l).told) whole ∙
    ap (λ (head : Head). head.told) next.head in
    let limit-is : limit_in (head_of (lines_of rest)).told ≡ limit_in told =
    ap limit_in (ap (λ l. (head_of l).told) lines ∙ ap (λ (head : Head). head.told) here.head) in
    let each = are_told before told h rest f.seeded f.at f.back.1 lines in
    let none : calls_in each.base ≡ [] =
    none_called each.base (ap (λ l. (head_of l).begun) each.are ∙ ap (λ (head : Head). head.begun) f.at.head) in
    let few : length (calls_in rest) < limit_in (head_of (lines_of rest)).told =
    omega (arith, calls_few each.base h rest each.each none, f.within, limit-is) in
    let other : newest_text run ≢ Some (placed_text (length h) x.reply) = rw says at contrary in
    let open_yet : is_full (limit_in (head_of (lines_of rest)).told) (length (calls_in rest)) ≡ false =
    rw (lt-ltb (length (calls_in rest)) (limit_in (head_of (lines_of rest)).told) few) refl in
    by asks.refused refl asked open_yet other
    (subst (λ (t : Told). IsRunOf t (calls_in (asks ∷ rest)) run after) told-is made)
  where
    by : (refused : Bool) → asks.refused ≡ refused → asked_in (lines_of rest) asks.line ≡ Calls x.call →
        is_full (limit_in (head_of (lines_of rest)).told) (length (calls_in rest)) ≡ false →
        newest_text run ≢ Some (placed_text (length h) x.reply) → IsRunOf told (calls_in (asks ∷ rest)) run after →
        IsBehindRefusal (asks ∷ rest)
    by true r asked open_yet other made = inr (r, x.call, asked)
    by false r asked open_yet other made =
        let calls : calls_in (asks ∷ rest) ≡ x.call ∷ calls_in rest = rw (asked, open_yet, r) refl in
        absurd (other (answered before told start x h rest run after f lines
        (subst (λ (c : List Call). IsRunOf told c run after) calls made) (rw (asked, open_yet, r) at confirmed.1)))

pub differs_late : (before : List (List ℕ)) (told : Told) (start : ChaCha) (h : List Entry) (front : List (List ℕ))
    (piece : List ℕ) (turns : List Turn) (run : List Entry) (after : Drawer) → IsFile before told start h →
    lines_onto h before ≡ front ++ piece ∷ lines_of turns →
    IsRunOf (head_of (lines_of turns)).told (calls_in turns) run after → AreConfirmed turns run →
    IsContrary (said (lines_of turns) piece) run → IsBehindRefusal turns
differs_late before told start [] front piece turns run after f lines made confirmed contrary =
    let other = tells_other (said (lines_of turns) piece) run contrary in
    let begun : (head_of (front ++ piece ∷ lines_of turns)).begun ≡ false = ap (λ l. (head_of l).begun) (sym lines) ∙
    ap (λ (head : Head). head.begun) f.at.head in
    let here = none_then (length (lines_of turns) + 1) (head_of (lines_of turns)) (said (lines_of turns) piece)
    (begun_less front (piece ∷ lines_of turns) begun) in
    absurd (no_answer (lines_of turns) piece other.text here.0 other.tells)
differs_late before told start (x ∷ h) [] piece [] run after f lines made confirmed contrary = absurd (cc lines)
differs_late before told start (x ∷ h) [] piece (asks ∷ rest) run after f lines made confirmed contrary =
    behind_call before told start x h asks rest piece run after f (cc lines) (cc lines) (cc lines) made confirmed
    contrary
differs_late before told start (x ∷ h) (first ∷ []) piece turns run after f lines made confirmed contrary =
    let here : IsAt (lines_onto h before) told (is_some h) = onto_at before told h f.seeded f.at f.back.1 in
    let turns-are : lines_of turns ≡ lines_onto h before = cc lines in
    let piece-is : piece ≡ call_line x.call = cc lines in
    let says : said (lines_of turns) piece ≡ Some (command_of x.call) =
    ap (λ (l : List (List ℕ)). said l piece) turns-are ∙ ap (said (lines_onto h before)) piece-is ∙
    call_says (lines_onto h before) told (is_some h) x.call f.seeded here f.back.0 in
    absurd (call_agrees x.call run (rw says at contrary))
differs_late before told start (x ∷ h) (first ∷ second ∷ front) piece turns run after f lines made confirmed contrary =
    differs_late before told start h front piece turns run after (file_older before told start x h f) (cc lines) made
    confirmed contrary
