-- Lines have no fault if they have none without their comments, and those aren't too long.
use Rattle.std.proofs.Common.{◌≡◌, ℕ, ◌+◌, ◌≤◌, Bool, true, false, cond, List, [], ◌∷◌, length, Option, Some, None}
use Rattle.std.proofs.Common.{Result, Ok, Err, ltb, refl, sym, ap, subst, ◌∙◌, arith}
use Rattle.std.proofs.lemmas.Bool.{le-ltb, ltb-false}
use Rattle.std.specs.Prelude.{◌==◌}
use Rattle.swim_text.specs.Lines.{bare}
use Rattle.swim_history.specs.Setting.{Setting}
use Rattle.swim_script.specs.declared.arguments.Opened.{Opened}
use Rattle.swim_script.specs.declared.commands.Command.{Command}
use Rattle.swim_script.specs.declared.commands.LineFault.{LineFault}
use Rattle.swim_script.specs.declared.faults.FaultKind.{FaultKind}
use Rattle.swim_script.specs.declared.faults.FaultKind.TheVariants.{Size, Long}
use Rattle.swim_script.specs.declared.forms.Form.{Form}
use Rattle.swim_script.specs.declared.forms.Form.TheVariants.{Journal}
use Rattle.swim_script.specs.Forms.{form_of, most_bytes}
use Rattle.swim_script.specs.Headers.{Told, is_event, setting_in, head_of, read_after}
use Rattle.swim_script.specs.Script.{opening_at, kind_of_setting, fault_of_setting, fault_of_opening, fault_of_command}
use Rattle.swim_script.specs.Script.{at_line, fault_of_read, fault_at, fault_with, fault_of_header, fault_at_end}
use Rattle.swim_script.specs.Script.{bytes_of}
use Rattle.swim_journal.specs.Comments.{is_comment, uncommented, AreShort}
use Rattle.swim_journal.proofs.Faultless.{AreFaultless, neither}
use Rattle.swim_journal.proofs.Uncommented.{IsToldAlike, setting_alike, AreAlike, read_alike, comment_read}
use Rattle.swim_journal.proofs.Uncommented.{uncommented_alike, arguments_of, told_back}

-- ---- openings

pub opening_alike : (a b : Told) → IsToldAlike a b → fault_of_opening a ≡ None → fault_of_opening b ≡ None
opening_alike a b alike none =
    by a.opened b.opened alike.opened
    (subst (λ (o : Setting). fault_of_setting a.opened o ≡ None) (setting_alike a b alike) none)
  where
    at : (n m : ℕ) (kind : Option FaultKind) → opening_at n kind ≡ None → opening_at m kind ≡ None
    at n m None e = refl
    at n m (Some kind) e = absurd (cc e)

    by : (x y : Option Opened) → arguments_of x ≡ arguments_of y → fault_of_setting x (setting_in b) ≡ None →
        fault_of_setting y (setting_in b) ≡ None
    by None None e none = refl
    by None (Some y) e none = absurd (cc e)
    by (Some x) None e none = absurd (cc e)
    by (Some x) (Some y) e none = at x.line y.line (kind_of_setting (setting_in b)) none

pub header_alike : (a b : Told) → IsToldAlike a b → fault_of_header a ≡ None → fault_of_header b ≡ None
header_alike a b alike none =
    by a.opened b.opened alike.opened (opening_alike a b alike) none
  where
    by : (x y : Option Opened) → arguments_of x ≡ arguments_of y →
        (fault_of_opening a ≡ None → fault_of_opening b ≡ None) →
        fault_with x (fault_of_opening a) ≡ None → fault_with y (fault_of_opening b) ≡ None
    by None y e both none = absurd (cc none)
    by (Some x) None e both none = absurd (cc e)
    by (Some x) (Some y) e both none = both none

-- ---- heads

at_end_of : (begun : Bool) (a b : Told) → IsToldAlike a b →
    fault_at_end (record { told = a; begun = begun }) ≡ None → fault_at_end (record { told = b; begun = begun }) ≡ None
at_end_of true a b alike none = refl
at_end_of false a b alike none = header_alike a b alike none

pub end_alike : (a b : List (List ℕ)) → AreAlike a b → fault_at_end (head_of a) ≡ None → fault_at_end (head_of b) ≡ None
end_alike a b alike none =
    subst (λ (begun : Bool). fault_at_end (record { told = (head_of b).told; begun = begun }) ≡ None) alike.begun
    (at_end_of (head_of a).begun (head_of a).told (head_of b).told alike.told none)

command_of : (begun event : Bool) (a b : Told) → IsToldAlike a b →
    cond begun None (cond event (fault_of_opening a) None) ≡ None →
    cond begun None (cond event (fault_of_opening b) None) ≡ None
command_of true event a b alike none = refl
command_of false false a b alike none = refl
command_of false true a b alike none = opening_alike a b alike none

command_alike : (a b : List (List ℕ)) (command : Command) → AreAlike a b →
    fault_of_command (head_of a) command ≡ None → fault_of_command (head_of b) command ≡ None
command_alike a b command alike none =
    subst (λ (begun : Bool). cond begun None (cond (is_event command) (fault_of_opening (head_of b).told) None) ≡ None)
    alike.begun
    (command_of (head_of a).begun (is_event command) (head_of a).told (head_of b).told alike.told none)

read_none : (n m : ℕ) (a b : List (List ℕ)) (read : Result (Option Command) LineFault) → AreAlike a b →
    fault_of_read n (head_of a) read ≡ None → fault_of_read m (head_of b) read ≡ None
read_none n m a b (Err fault) alike none = absurd (cc none)
read_none n m a b (Ok None) alike none = refl
read_none n m a b (Ok (Some command)) alike none = command_alike a b command alike none

-- ---- lines

-- why a line has no fault: it isn't too much, isn't too long, and reads
record HasNone (before : List (List ℕ)) (line : List ℕ) : Type 0 where
  pub fits : ltb (most_bytes (form_of before)) (length line + bytes_of before) ≡ false
  pub short : ltb 2048 (length (bare line)) ≡ false
  pub read : fault_of_read (length before + 1) (head_of before) (read_after before line) ≡ None

has_none : (before : List (List ℕ)) (line : List ℕ) → fault_at before line ≡ None → HasNone before line
has_none before line e =
    by (ltb (most_bytes (form_of before)) (length line + bytes_of before)) (ltb 2048 (length (bare line))) refl refl e
  where
    by : (large long : Bool) → ltb (most_bytes (form_of before)) (length line + bytes_of before) ≡ large →
        ltb 2048 (length (bare line)) ≡ long →
        cond large (Some (at_line (length before + 1) Size))
        (cond long (Some (at_line (length before + 1) Long))
        (fault_of_read (length before + 1) (head_of before) (read_after before line))) ≡ None →
        HasNone before line
    by true long fits short e = absurd (cc e)
    by false true fits short e = absurd (cc e)
    by false false fits short e = record { fits = fits; short = short; read = e }

none_at : (before : List (List ℕ)) (line : List ℕ) → HasNone before line → fault_at before line ≡ None
none_at before line has =
    neither (ltb (most_bytes (form_of before)) (length line + bytes_of before)) (ltb 2048 (length (bare line))) _ _ _
    has.fits has.short
    ∙ has.read

comment_none : (before : List (List ℕ)) (line : List ℕ) → is_comment before line ≡ true → form_of before ≡ Journal →
    length line + bytes_of before ≤ 1073741824 → length (bare line) ≤ 2048 → fault_at before line ≡ None
comment_none before line is journal fits short =
    none_at before line (record {
      fits = rw journal (le-ltb 1073741824 (length line + bytes_of before) fits);
      short = le-ltb 2048 (length (bare line)) short;
      read = ap (fault_of_read (length before + 1) (head_of before)) (comment_read before line is);
    })

-- without comments there are no more bytes
pub fewer_bytes : (lines : List (List ℕ)) → bytes_of (uncommented lines) ≤ bytes_of lines
fewer_bytes [] = omega arith
fewer_bytes (line ∷ before) = by (is_comment before line) (fewer_bytes before)
  where
    by : (c : Bool) → bytes_of (uncommented before) ≤ bytes_of before →
        bytes_of (cond c (uncommented before) (line ∷ uncommented before)) ≤ length line + bytes_of before
    by true fewer = omega (arith, fewer)
    by false fewer = omega (arith, fewer)

fits_less : (form : Form) (bytes fewer : ℕ) → fewer ≤ bytes → ltb (most_bytes form) bytes ≡ false →
    ltb (most_bytes form) fewer ≡ false
fits_less form bytes fewer less fits =
    le-ltb (most_bytes form) fewer (omega (arith, less, ltb-false (most_bytes form) bytes fits))

-- a line that is no comment
kept_none : (before : List (List ℕ)) (line : List ℕ) → fault_at before line ≡ None →
    fault_at (uncommented before) line ≡ None
kept_none before line none =
    let alike = uncommented_alike before in
    let has = has_none before line none in
    none_at (uncommented before) line (record {
      fits =
          subst (λ (f : Form). ltb (most_bytes f) (length line + bytes_of (uncommented before)) ≡ false) alike.form
          (fits_less (form_of before) (length line + bytes_of before) (length line + bytes_of (uncommented before))
          (omega (arith, fewer_bytes before)) has.fits);
      short = has.short;
      read =
          subst (λ (r : Result (Option Command) LineFault).
          fault_of_read (length (uncommented before) + 1) (head_of (uncommented before)) r ≡ None)
          (read_alike before (uncommented before) line alike)
          (read_none (length before + 1) (length (uncommented before) + 1) before (uncommented before)
          (read_after before line) alike has.read);
    })

pub uncommented_faultless : (lines : List (List ℕ)) → AreFaultless lines → AreFaultless (uncommented lines)
uncommented_faultless [] all = tt
uncommented_faultless (line ∷ before) all =
    by (is_comment before line) (uncommented_faultless before all.1) (kept_none before line all.0)
  where
    by : (c : Bool) → AreFaultless (uncommented before) → fault_at (uncommented before) line ≡ None →
        AreFaultless (cond c (uncommented before) (line ∷ uncommented before))
    by true older none = older
    by false older none = (none, older)

pub alike_back : (lines : List (List ℕ)) → AreAlike (uncommented lines) lines
alike_back lines =
    let alike = uncommented_alike lines in
    record {
      first = sym alike.first;
      form = sym alike.form;
      begun = sym alike.begun;
      told = told_back (head_of lines).told (head_of (uncommented lines)).told
          alike.told;
    }

line_none : (before : List (List ℕ)) (line : List ℕ) → form_of before ≡ Journal →
    length line + bytes_of before ≤ 1073741824 → fault_at (uncommented before) line ≡ None → fault_at before line ≡ None
line_none before line journal fits none =
    let alike = alike_back before in
    let has = has_none (uncommented before) line none in
    none_at before line (record {
      fits = rw journal (le-ltb 1073741824 (length line + bytes_of before) fits);
      short = has.short;
      read =
          subst (λ (r : Result (Option Command) LineFault). fault_of_read (length before + 1) (head_of before) r ≡ None)
          (read_alike (uncommented before) before line alike)
          (read_none (length (uncommented before) + 1) (length before + 1) (uncommented before) before
          (read_after (uncommented before) line) alike has.read);
    })

-- a text whose first line makes it a journal file is one behind each line
older_journal : (line last : List ℕ) (before : List (List ℕ)) → form_of (line ∷ last ∷ before) ≡ Journal →
    form_of (last ∷ before) ≡ Journal
older_journal line last before journal =
    let n : (length (last ∷ before) == 0) ≡ false = grind arith in rw n at journal

pub all_faultless : (lines : List (List ℕ)) → form_of lines ≡ Journal → bytes_of lines ≤ 1073741824 → AreShort lines →
    AreFaultless (uncommented lines) → AreFaultless lines
all_faultless [] journal fits short all = tt
all_faultless (line ∷ []) journal fits short all = (all.0, tt)
all_faultless (line ∷ last ∷ before) journal fits short all =
    by (is_comment older line) refl (all_faultless (last ∷ before) journal_yet (omega (arith, fits)) short.1) all
  where
    older : List (List ℕ)
    older = last ∷ before

    journal_yet : form_of older ≡ Journal
    journal_yet = older_journal line last before journal

    by : (c : Bool) → is_comment older line ≡ c → (AreFaultless (uncommented older) → AreFaultless older) →
        AreFaultless (cond c (uncommented older) (line ∷ uncommented older)) → AreFaultless (line ∷ older)
    by true is again all = (comment_none older line is journal_yet fits (short.0 is), again all)
    by false is again all = (line_none older line journal_yet fits all.0, again all.1)
