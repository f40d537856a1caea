-- A journal file has no fault that the format of scripts names.
use Rattle.std.proofs.Common.{◌≡◌, ℕ, ◌+◌, ◌≤◌, Bool, true, false, cond, ltb, List, [], ◌∷◌, length, Option, Some, None}
use Rattle.std.proofs.Common.{Result, Ok, Err, refl, ap, ◌∙◌, arith, length-append}
use mathlib.Core.List.{reverse_aux}
use Rattle.std.specs.List.{flat_map}
use Rattle.std.proofs.lemmas.Bool.{le-ltb}
use Rattle.rand_chacha.specs.ChaCha.{ChaCha}
use Rattle.swim_text.specs.Cutting.{lines_join}
use Rattle.swim_text.specs.Lines.{pieces, bare}
use Rattle.swim_history.specs.declared.calls.Call.{Call}
use Rattle.swim_history.specs.declared.calls.Call.TheVariants.{Tick, Hear, Join, Remove}
use Rattle.swim_history.specs.declared.entries.Entry.{Entry}
use Rattle.swim_script.specs.declared.arguments.Opened.{Opened}
use Rattle.swim_script.specs.declared.commands.Command.{Command}
use Rattle.swim_script.specs.declared.commands.Command.TheVariants.{Answer}
use Rattle.swim_script.specs.declared.commands.LineFault.{LineFault}
use Rattle.swim_script.specs.declared.faults.ScriptFault.{ScriptFault}
use Rattle.swim_script.specs.declared.forms.Form.TheVariants.{Journal}
use Rattle.swim_script.specs.Forms.{form_of, most_bytes}
use Rattle.swim_script.specs.Headers.{Told, Head, head_of, command_in, read_after, said, setting_in}
use Rattle.swim_script.specs.Texts.{placed_text}
use Rattle.swim_script.specs.Script.{fault_at, fault_at_end, fault_from, fault_of_command, fault_of_header}
use Rattle.swim_script.specs.Script.{fault_of_opening, fault_of_read, fault_with, first_of, bytes_of}
use Rattle.swim_journal.specs.Lines.{call_line, answer_line, command_of}
use Rattle.swim_journal.specs.Replays.{lines_in}
use Rattle.swim_journal.proofs.Differing.{IsFile, file_older}
use Rattle.swim_journal.proofs.FileLines.{IsAt, call_says, call_at, answer_says, answer_bare}
use Rattle.swim_journal.proofs.Short.{answer_short}
use Rattle.swim_journal.proofs.Tellings.{lines_onto, is_some, onto_at}

-- ---- lines, newest first

-- no line has a fault behind those before it
abbrev pub AreFaultless : List (List ℕ) → Type 0
AreFaultless [] = Unit {0}
AreFaultless (line ∷ before) = (fault_at before line ≡ None) × AreFaultless before

both_none : (first later : Option ScriptFault) → first_of first later ≡ None → (first ≡ None) × (later ≡ None)
both_none None later e = (refl, e)
both_none (Some fault) later e = absurd cc

-- lines without a fault are such
pub after_all : (lines before : List (List ℕ)) → fault_from before lines ≡ None → AreFaultless before →
    AreFaultless (reverse_aux lines before) × (fault_at_end (head_of (reverse_aux lines before)) ≡ None)
after_all [] before e all = (all, e)
after_all (line ∷ lines) before e all =
    let parts = both_none (fault_at before line) (fault_from (line ∷ before) lines) e in
    after_all lines (line ∷ before) parts.1 (parts.0, all)

older_faultless : (lines before : List (List ℕ)) → AreFaultless (reverse_aux lines before) → AreFaultless before
older_faultless [] before all = all
older_faultless (line ∷ lines) before all = (older_faultless lines (line ∷ before) all).1

-- and such lines are without one
pub none_from : (lines before : List (List ℕ)) → AreFaultless (reverse_aux lines before) →
    fault_at_end (head_of (reverse_aux lines before)) ≡ None → fault_from before lines ≡ None
none_from [] before all e = e
none_from (line ∷ lines) before all e =
    ap (λ (first : Option ScriptFault). first_of first (fault_from (line ∷ before) lines))
    (older_faultless lines (line ∷ before) all).0
    ∙ none_from lines (line ∷ before) all e

-- the bytes of all lines are the text's
bytes_after : (lines before : List (List ℕ)) →
    bytes_of (reverse_aux lines before) ≡ length (flat_map (λ (piece : List ℕ). piece) lines) + bytes_of before
bytes_after [] before = omega arith
bytes_after (line ∷ lines) before =
    bytes_after lines (line ∷ before) ∙ omega (arith, length-append line (flat_map (λ (piece : List ℕ). piece) lines))

pub bytes_in : (text : List ℕ) → bytes_of (lines_in text) ≡ length text
bytes_in text = bytes_after (pieces text) [] ∙ omega (arith, ap length (lines_join text))

-- ---- one line

pub neither : {A : Type 0} (one two : Bool) (x y z : A) → one ≡ false → two ≡ false → cond one x (cond two y z) ≡ z
neither true two x y z p q = absurd cc
neither false true x y z p q = absurd cc
neither false false x y z p q = refl

read_is : (read : Result (Option Command) LineFault) (command : Command) → command_in read ≡ Some command →
    read ≡ Ok (Some command)
read_is (Ok o) command e = ap (λ (o : Option Command). Ok o) e
read_is (Err fault) command e = absurd cc

pub no_fault : (before : List (List ℕ)) (line : List ℕ) (command : Command) → form_of before ≡ Journal →
    length line + bytes_of before ≤ 1073741824 → length (bare line) ≤ 2048 → said before line ≡ Some command →
    fault_of_command (head_of before) command ≡ None → fault_at before line ≡ None
no_fault before line command journal fits short says none =
    let within : ltb (most_bytes (form_of before)) (length line + bytes_of before) ≡ false =
    rw journal (le-ltb 1073741824 (length line + bytes_of before) fits) in
    neither (ltb (most_bytes (form_of before)) (length line + bytes_of before)) (ltb 2048 (length (bare line))) _ _ _
    within (le-ltb 2048 (length (bare line)) short)
    ∙ ap (fault_of_read (length before + 1) (head_of before)) (read_is (read_after before line) command says) ∙ none

call_opens : (told : Told) (begun : Bool) (call : Call) → fault_of_opening told ≡ None →
    fault_of_command (record { told = told; begun = begun }) (command_of call) ≡ None
call_opens told true call e = refl
call_opens told false Tick e = e
call_opens told false (Hear source m) e = e
call_opens told false (Join id peer) e = e
call_opens told false (Remove id) e = e

-- ---- the lines of a file

pub onto_faultless : (before : List (List ℕ)) (told : Told) (start : ChaCha) (h : List Entry) →
    IsFile before told start h → fault_of_opening told ≡ None → AreFaultless before →
    bytes_of (lines_onto h before) ≤ 1073741824 → AreFaultless (lines_onto h before)
onto_faultless before told start [] f opens all fits = all
onto_faultless before told start (x ∷ h) f opens all fits =
    let older = lines_onto h before in
    let call = call_line x.call in
    let answer = answer_line (length h) x.reply in
    let again = onto_faultless before told start h (file_older before told start x h f) opens all
    (omega (arith, fits)) in
    let here : IsAt older told (is_some h) = onto_at before told h f.seeded f.at f.back.1 in
    let next : IsAt (call ∷ older) told true = call_at older told (is_some h) x.call f.seeded here f.back.0 in
    let called = call_says older told (is_some h) x.call f.seeded here f.back.0 in
    let call_fits : length call + bytes_of older ≤ 1073741824 = omega (arith, fits) in
    let opens_here : fault_of_command (head_of older) (command_of x.call) ≡ None =
    ap (λ (head : Head). fault_of_command head (command_of x.call)) here.head ∙
    call_opens told (is_some h) x.call opens in
    let answered = answer_says (call ∷ older) told (length h) x.reply next in
    let short : length (bare answer) ≤ 2048 =
    omega (
      arith,
      ap length (answer_bare (length h) x.reply),
      answer_short (setting_in told) h x.call x.reply x.choice (length h) f.drawn.setting.relays
          f.drawn.run.0.answer,
    ) in
    let begun : fault_of_command (head_of (call ∷ older)) (Answer (placed_text (length h) x.reply)) ≡ None =
    ap (λ (head : Head). fault_of_command head (Answer (placed_text (length h) x.reply))) next.head in (
      no_fault (call ∷ older) answer (Answer (placed_text (length h) x.reply)) next.form fits short answered begun,
      (
        no_fault older call (command_of x.call) here.form call_fits
            (omega (arith, ap length f.back.0.bare, f.back.0.short)) called opens_here,
        again,
      ),
    )

pub opening_none : (opened : Option Opened) (fault : Option ScriptFault) → fault_with opened fault ≡ None → fault ≡ None
opening_none None fault e = absurd cc
opening_none (Some opened) fault e = e

pub end_none : (told : Told) (begun : Bool) → fault_of_header told ≡ None →
    fault_at_end (record { told = told; begun = begun }) ≡ None
end_none told true e = refl
end_none told false e = e
