-- What a line that makes no call does to what a session's fields mean.
use Rattle.std.proofs.Common.{◌≡◌, ℕ, zero, suc, ◌+◌, ◌≤◌, ◌||◌, true, false, List, [], ◌∷◌, length, Option, Some, None}
use Rattle.std.proofs.Common.{Result, Ok, refl, sym, ap, subst, ◌∙◌, arith}
use Rattle.swim_text.specs.Lines.{bare}
use Rattle.swim_history.specs.declared.calls.Call.{Call}
use Rattle.swim_history.specs.declared.entries.Entry.{Entry}
use Rattle.swim_history.specs.Setting.{Setting}
use Rattle.swim_detector.specs.Recording.{Recording}
use Rattle.swim_script.specs.declared.choosers.Drawer.{Drawer}
use Rattle.swim_script.specs.declared.commands.Command.{Command}
use Rattle.swim_script.specs.declared.commands.LineFault.{LineFault}
use Rattle.swim_script.specs.declared.commands.Stage.{Stage}
use Rattle.swim_script.specs.declared.forms.Form.{Form}
use Rattle.swim_script.specs.Commands.{line_read}
use Rattle.swim_script.specs.Forms.{is_mark, form_of}
use Rattle.swim_script.specs.Headers.{said, Told, told_then, is_event, Head, stage_told, stage_of, read_after}
use Rattle.swim_script.specs.Headers.{head_then, head_of, setting_in, limit_in}
use Rattle.swim_script.specs.Script.{Turn, lines_of, asked_by, asked_in, calls_in, output_of, IsConfirmed, AreConfirmed}
use Rattle.swim_script.specs.Script.{IsRunOf}
use Rattle.swim_script.specs.Script.Asked.{Nothing}
use Rattle.swim_script.specs.Holds.{Played, stage_in, kept, IsSilent, line_of, IsWaiting, IsRecorded, Plays, Holds}

-- a line of a script that was not refused for want of memory
abbrev pub taken : List ℕ → Turn
taken piece = record { line = piece; refused = false }

-- the header after a line, by what it says
pub head_after : (turns : List Turn) (turn : Turn) (command : Option Command) →
    read_after (lines_of turns) turn.line ≡ Ok command →
    head_of (lines_of (turn ∷ turns)) ≡ head_then (length (lines_of turns) + 1) command (head_of (lines_of turns))
head_after turns turn command read = rw read refl

pub asked_after : (turns : List Turn) (turn : Turn) (command : Option Command) →
    read_after (lines_of turns) turn.line ≡ Ok command →
    asked_in (lines_of turns) turn.line ≡ asked_by command
asked_after turns turn command read = rw read refl

-- the session is as far as its script
stage_by : (turns : List Turn) (run : List Entry) (text : List ℕ) (header : Told)
    (recorded : Option (Recording Drawer)) → Plays turns run text header recorded →
    stage_of (head_of (lines_of turns)) ≡ stage_in header recorded
stage_by turns run text header None p =
    let before : stage_of (head_of (lines_of turns)) ≡ stage_told (kept (head_of (lines_of turns)).told) =
    rw p.begun refl in
    before ∙ ap stage_told (sym p.told)
stage_by turns run text header (Some a) p = rw p.0 refl

pub stage_is : (turns : List Turn) (run : List Entry) (text : List ℕ) (s : Played) → Holds turns run text s →
    stage_of (head_of (lines_of turns)) ≡ stage_in s.header s.recorded
stage_is turns run text s h = stage_by turns run text s.header s.recorded h.plays

-- the first line of a journal file says nothing
pub marked_read : (turns : List Turn) (piece line : List ℕ) (lines : ℕ) → lines ≡ length (lines_of turns) →
    bare piece ≡ line → is_mark lines line ≡ true → read_after (lines_of turns) piece ≡ Ok None
marked_read turns piece line lines count is mark =
    let marked : is_mark (length (lines_of turns)) (bare piece) ≡ true = ap (is_mark (length (lines_of turns))) is ∙
    (ap (λ n. is_mark n line) (sym count) ∙ mark) in
    rw marked refl

-- any other line says what its words say in a script of that form
pub unmarked_read : (turns : List Turn) (piece line : List ℕ) (form : Form) (stage : Stage) (lines : ℕ)
    (read : Result (Option Command) LineFault) → lines ≡ length (lines_of turns) → bare piece ≡ line →
    form ≡ form_of (piece ∷ lines_of turns) → is_mark lines line ≡ false → stage_of (head_of (lines_of turns)) ≡ stage →
    line_read form stage line ≡ read → read_after (lines_of turns) piece ≡ read
unmarked_read turns piece line form stage lines read count is told mark at reads =
    let plain : is_mark (length (lines_of turns)) (bare piece) ≡ false = ap (is_mark (length (lines_of turns))) is ∙
    (ap (λ n. is_mark n line) (sym count) ∙ mark) in
    let kept : form_of (piece ∷ lines_of turns) ≡ form_of (lines_of turns) = rw plain refl in
    let same : form_of (lines_of turns) ≡ form = sym (told ∙ kept) in
    let plainly : read_after (lines_of turns) piece ≡
    line_read (form_of (lines_of turns)) (stage_of (head_of (lines_of turns))) (bare piece) = rw plain refl in
    plainly ∙ (ap (λ f. line_read f (stage_of (head_of (lines_of turns))) (bare piece)) same ∙
    (ap (λ st. line_read form st (bare piece)) at ∙ (ap (line_read form stage) is ∙ reads)))

-- a line that asks nothing makes no call and has no answer
calls_of_nothing : (turns : List Turn) (turn : Turn) → asked_in (lines_of turns) turn.line ≡ Nothing →
    calls_in (turn ∷ turns) ≡ calls_in turns
calls_of_nothing turns turn nothing = rw nothing refl

output_of_nothing : (o : Setting) (turns : List Turn) (turn : Turn) (run : List Entry) →
    asked_in (lines_of turns) turn.line ≡ Nothing → output_of o (turn ∷ turns) run ≡ output_of o turns run
output_of_nothing o turns turn run nothing = rw nothing refl

-- and tells of no answer but what was answered
pub confirmed_more : (turns : List Turn) (turn : Turn) (run : List Entry) →
    asked_in (lines_of turns) turn.line ≡ Nothing → IsConfirmed (said (lines_of turns) turn.line) run →
    AreConfirmed turns run → AreConfirmed (turn ∷ turns) run
confirmed_more turns turn run nothing told confirmed = rw nothing (told, confirmed)

-- and leaves silent lines silent
silent_more : (turns : List Turn) (turn : Turn) → asked_in (lines_of turns) turn.line ≡ Nothing →
    IsConfirmed (said (lines_of turns) turn.line) [] → IsSilent turns → IsSilent (turn ∷ turns)
silent_more turns turn nothing told silent zero = (
  calls_of_nothing turns turn nothing ∙
      (silent 0).0,
  (λ o. output_of_nothing o turns turn [] nothing ∙ (silent 0).1 o),
  confirmed_more turns turn [] nothing told (silent 0).2,
)
silent_more turns turn nothing told silent (suc k) = silent k

-- a line more before the first event line
waits_on : (turns : List Turn) (turn : Turn) (run : List Entry) (text : List ℕ) (header header' : Told) →
    asked_in (lines_of turns) turn.line ≡ Nothing → IsConfirmed (said (lines_of turns) turn.line) [] →
    (head_of (lines_of (turn ∷ turns))).begun ≡ false → header' ≡ kept (head_of (lines_of (turn ∷ turns))).told →
    line_of header'.opened ≤ length (lines_of turns) + 1 →
    IsWaiting turns run text header → IsWaiting (turn ∷ turns) run text header'
waits_on turns turn run text header header' nothing calm begun told within p = record {
  begun = begun;
  told = told;
  none = p.none;
  nothing = p.nothing;
  silent = silent_more turns turn nothing calm p.silent;
  within = omega (arith, within);
}

-- a line more that asks nothing and tells nothing
pub records_on : (turns : List Turn) (turn : Turn) (run : List Entry) (text : List ℕ) (a : Recording Drawer) →
    asked_in (lines_of turns) turn.line ≡ Nothing → IsConfirmed (said (lines_of turns) turn.line) run →
    head_of (lines_of (turn ∷ turns)) ≡ head_of (lines_of turns) → IsRecorded turns run text a →
    IsRecorded (turn ∷ turns) run text a
records_on turns turn run text a nothing calm head r =
    let told : (head_of (lines_of (turn ∷ turns))).told ≡ (head_of (lines_of turns)).told =
    ap (λ (x : Head). x.told) head in
    record {
      past = r.past;
      opening = r.opening ∙ ap setting_in (sym told);
      limit = r.limit ∙ ap limit_in (sym told);
      made = subst (λ (t : Told). IsRunOf t (calls_in (turn ∷ turns)) run a.chooser) (sym told)
          (subst (λ (made : List Call). IsRunOf (head_of (lines_of turns)).told made run a.chooser)
          (sym (calls_of_nothing turns turn nothing)) r.made);
      confirmed = confirmed_more turns turn run nothing calm r.confirmed;
      text_is = r.text_is ∙
          sym (output_of_nothing (setting_in (head_of (lines_of turns)).told) turns turn run nothing) ∙
          ap (λ (t : Told). output_of (setting_in t) (turn ∷ turns) run) (sym told);
    }

-- a line that is skipped
pub skipped : (turns : List Turn) (run : List Entry) (text piece : List ℕ) (s : Played) →
    read_after (lines_of turns) piece ≡ Ok None → Holds turns run text s →
    Holds (taken piece ∷ turns) run text (record { lines = s.lines + 1; header = s.header; recorded = s.recorded })
skipped turns run text piece s read h = record { count = omega (arith, h.count); plays = by s.recorded h.plays }
  where
    head : head_of (piece ∷ lines_of turns) ≡ head_of (lines_of turns)
    head = head_after turns (taken piece) None read

    by : (recorded : Option (Recording Drawer)) → Plays turns run text s.header recorded →
        Plays (taken piece ∷ turns) run text s.header recorded
    by None p =
        waits_on turns (taken piece) run text s.header s.header (asked_after turns (taken piece) None read) (rw read tt)
        (ap (λ (x : Head). x.begun) head ∙ p.begun) (p.told ∙ ap (λ (x : Head). kept x.told) (sym head))
        (omega (arith, p.within)) p
    by (Some a) p = (
      ap (λ (x : Head). x.begun) head ∙
          p.0,
      records_on turns (taken piece) run text a (asked_after turns (taken piece) None read) (rw read tt) head
          p.1,
    )

-- a header line
pub noted : (turns : List Turn) (run : List Entry) (text piece : List ℕ) (s : Played) (header : Told)
    (command : Command) → read_after (lines_of turns) piece ≡ Ok (Some command) →
    is_event command ≡ false → asked_by (Some command) ≡ Nothing → IsConfirmed (Some command) [] → s.recorded ≡ None →
    ((t : Told) → s.header ≡ kept t → header ≡ kept (told_then (length (lines_of turns) + 1) command t)) →
    (line_of s.header.opened ≤ length (lines_of turns) → line_of header.opened ≤ length (lines_of turns) + 1) →
    Holds turns run text s →
    Holds (taken piece ∷ turns) run text (record { lines = s.lines + 1; header = header; recorded = s.recorded })
noted turns run text piece s header command read event asks calm none keeps within h =
    record { count = omega (arith, h.count); plays = by s.recorded none h.plays }
  where
    head : head_of (piece ∷ lines_of turns) ≡
        head_then (length (lines_of turns) + 1) (Some command) (head_of (lines_of turns))
    head = head_after turns (taken piece) (Some command) read

    by : (recorded : Option (Recording Drawer)) → recorded ≡ None → Plays turns run text s.header recorded →
        Plays (taken piece ∷ turns) run text header recorded
    by None is p =
        let begun : (is_event command || (head_of (lines_of turns)).begun) ≡ false = rw (event, p.begun) refl in
        waits_on turns (taken piece) run text s.header header
        (asked_after turns (taken piece) (Some command) read ∙ asks) (rw read calm)
        (ap (λ (x : Head). x.begun) head ∙ begun)
        (keeps (head_of (lines_of turns)).told p.told ∙ ap (λ (x : Head). kept x.told) (sym head)) (within p.within)
        p
    by (Some a) is p = absurd cc
