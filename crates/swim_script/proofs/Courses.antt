-- Where the lines lead that were read of a script: at the start, and after one more line.
use Rattle.std.proofs.Common.{◌≡◌, ℕ, zero, suc, ◌+◌, ◌-◌, ◌<◌, ◌≤◌, List, [], ◌∷◌, ◌++◌, length, take, drop, reverse}
use Rattle.std.proofs.Common.{Option, Some, None, refl, sym, ap, subst, ◌∙◌, arith}
use Rattle.std.specs.Io.KnownBytes.{Keeps}
use Rattle.std.proofs.lemmas.Bool.{lt-ltb, le-ltb}
use Rattle.std.proofs.lemmas.Grind.{reverse_onto}
use Rattle.std.proofs.lemmas.List.{append_assoc, take_at, take-append-drop, map-append, length-map, length-drop}
use Rattle.std.proofs.lemmas.List.{length-reverse, reverse-append, reverse-reverse}
use Rattle.swim_text.specs.Lines.{pieces, bare, IsLine}
use Rattle.swim_text.specs.Streams.{appends_none, appends_both, kept_appends, keeps_self}
use Rattle.swim_history.specs.declared.entries.Entry.{Entry}
use Rattle.swim_detector.specs.Recording.{Recording}
use Rattle.swim_script.specs.declared.choosers.Drawer.{Drawer}
use Rattle.swim_script.specs.declared.faults.FaultKind.TheVariants.{Size, Long}
use Rattle.swim_script.specs.declared.faults.ScriptFault.{ScriptFault}
use Rattle.swim_script.specs.declared.forms.Form.{Form}
use Rattle.swim_script.specs.declared.forms.Form.TheVariants.{Script}
use Rattle.swim_script.specs.Forms.{form_after, form_of, most_bytes}
use Rattle.swim_script.specs.Headers.{Told, nothing_told, read_after, head_of, setting_in, chooser_in}
use Rattle.swim_script.specs.Script.{Turn, lines_of, at_line, fault_of_read, bytes_of, fault_at, first_of, fault_from}
use Rattle.swim_script.specs.Script.{fault_of, IsTold, lines_before}
use Rattle.swim_script.specs.Holds.{Played, IsSilent, IsWaiting, Plays, Holds, TurnDone, Course}

-- ---- lines of a script

-- the lines before the line that comes next
pub before_next : (n : ℕ) (script : List ℕ) (before more : List (List ℕ)) → n - 1 ≡ length before →
    pieces script ≡ reverse before ++ more → lines_before n script ≡ before
before_next n script before more count cut =
    ap (λ (lines : List (List ℕ)). reverse (take (n - 1) lines)) cut ∙
    (ap reverse (take_at (reverse before) more (n - 1) (length-reverse before ∙ sym count)) ∙
    reverse-reverse before)

-- one line more was read
pub cut_more : (before : List (List ℕ)) (piece : List ℕ) (more : List (List ℕ)) →
    reverse before ++ (piece ∷ more) ≡ reverse (piece ∷ before) ++ more
cut_more before piece more = sym (append_assoc (reverse before) (piece ∷ []) more) ∙
    ap (λ (lines : List (List ℕ)). lines ++ more) (sym (reverse_onto before piece []))

-- the lines before any line of those that were read
before_earlier : (n : ℕ) (script : List ℕ) (turns : List Turn) (more : List (List ℕ)) → n - 1 ≤ length turns →
    pieces script ≡ reverse (lines_of turns) ++ more →
    lines_before n script ≡ lines_of (drop (length turns - (n - 1)) turns)
before_earlier n script turns more earlier cut =
    let j = length turns - (n - 1) in
    let newer = lines_of (take j turns) in
    let older = lines_of (drop j turns) in
    let parts : lines_of turns ≡ newer ++ older = ap lines_of (sym (take-append-drop j turns)) ∙
    map-append (λ (turn : Turn). turn.line) (take j turns) (drop j turns) in
    let count : length older ≡ length turns - j = length-map (drop j turns) (λ (turn : Turn). turn.line) ∙
    length-drop j turns in
    before_next n script older (reverse newer ++ more) (omega (arith, count, earlier))
    (cut ∙ (ap (λ (lines : List (List ℕ)). reverse lines ++ more) parts ∙
    (ap (λ (lines : List (List ℕ)). lines ++ more) (reverse-append newer older) ∙
    append_assoc (reverse older) (reverse newer) more)))

-- ---- what was told

-- before the first event line nothing was
silent_told : (turns : List Turn) → IsSilent turns → (k : ℕ) → IsTold (lines_of (drop k turns)) []
silent_told turns silent k = record {
  turns = drop k turns;
  are = refl;
  run = [];
  after = chooser_in (head_of (lines_of (drop k turns))).told;
  made = record { legal = tt; drawn = refl; calls = sym (silent k).0; one_seat = refl };
  confirmed = (silent k).2;
  text_is = sym ((silent k).1 (setting_in (head_of (lines_of (drop k turns))).told));
}

pub told_by : (turns : List Turn) (run : List Entry) (text : List ℕ) (header : Told)
    (recorded : Option (Recording Drawer)) → Plays turns run text header recorded → IsTold (lines_of turns) text
told_by turns run text header None p = subst (IsTold (lines_of turns)) (sym p.nothing) (silent_told turns p.silent 0)
told_by turns run text header (Some a) p = record {
  turns = turns;
  are = refl;
  run = run;
  after = a.chooser;
  made = p.1.made;
  confirmed = p.1.confirmed;
  text_is = p.1.text_is;
}

-- the lines that were read were answered
pub told_so_far : (n : ℕ) (script : List ℕ) (turns : List Turn) (run : List Entry) (text : List ℕ)
    (more : List (List ℕ)) (s : Played) → n ≡ length (lines_of turns) + 1 →
    pieces script ≡ reverse (lines_of turns) ++ more → Holds turns run text s → IsTold (lines_before n script) text
told_so_far n script turns run text more s count cut h =
    subst (λ (lines : List (List ℕ)). IsTold lines text)
    (sym (before_next n script (lines_of turns) more (omega (arith, count)) cut))
    (told_by turns run text s.header s.recorded h.plays)

-- those before a line that was read were, where no event line was met
pub told_earlier : (n : ℕ) (script : List ℕ) (turns : List Turn) (run : List Entry) (text : List ℕ)
    (more : List (List ℕ)) (header : Told) → n - 1 ≤ length turns →
    pieces script ≡ reverse (lines_of turns) ++ more → IsWaiting turns run text header →
    IsTold (lines_before n script) text
told_earlier n script turns run text more header earlier cut p =
    subst (λ (lines : List (List ℕ)). IsTold lines text) (sym (before_earlier n script turns more earlier cut))
    (subst (IsTold (lines_of (drop (length turns - (n - 1)) turns))) (sym p.nothing)
    (silent_told turns p.silent (length turns - (n - 1))))

-- ---- faults

-- a line within the limits has the fault of what it says
pub fault_within : (before : List (List ℕ)) (piece : List ℕ) →
    length piece + bytes_of before ≤ most_bytes (form_of before) → length (bare piece) ≤ 2048 →
    fault_at before piece ≡ fault_of_read (length before + 1) (head_of before) (read_after before piece)
fault_within before piece size fits =
    rw (
      le-ltb (most_bytes (form_of before)) (length piece + bytes_of before) size,
      le-ltb 2048 (length (bare piece)) fits,
    ) refl

pub fault_long : (before : List (List ℕ)) (piece : List ℕ) →
    length piece + bytes_of before ≤ most_bytes (form_of before) → 2048 < length (bare piece) →
    fault_at before piece ≡ Some (at_line (length before + 1) Long)
fault_long before piece size long =
    rw (
      le-ltb (most_bytes (form_of before)) (length piece + bytes_of before) size,
      lt-ltb 2048 (length (bare piece)) long,
    ) refl

pub fault_size : (before : List (List ℕ)) (piece : List ℕ) →
    most_bytes (form_of before) < length piece + bytes_of before →
    fault_at before piece ≡ Some (at_line (length before + 1) Size)
fault_size before piece over = rw (lt-ltb (most_bytes (form_of before)) (length piece + bytes_of before) over) refl

-- the first fault is that of the next line
pub first_fault_is : (script rest piece : List ℕ) (more : List (List ℕ)) (before : List (List ℕ))
    (fault : ScriptFault) → fault_of script ≡ fault_from before (pieces rest) → pieces rest ≡ piece ∷ more →
    fault_at before piece ≡ Some fault → fault_of script ≡ Some fault
first_fault_is script rest piece more before fault from first is =
    from ∙ (ap (fault_from before) first ∙ ap (λ f. first_of f (fault_from (piece ∷ before) more)) is)

-- ---- one more line

-- the form with it
pub form_next : (script rest left line : List ℕ) (old mid : Option (List ℕ)) (form told : Form) (budget after : ℕ)
    (s : Played) (c : Course script rest old mid form budget s) (i : IsLine rest left line 2048 budget after) →
    told ≡ form_after s.lines line form → told ≡ form_of (i.piece ∷ lines_of c.turns)
form_next script rest left line old mid form told budget after s c i is =
    is ∙ (ap (λ n. form_after n line form) c.holds.count ∙
    (ap (λ (l : List ℕ). form_after (length (lines_of c.turns)) l form) (sym i.bytes) ∙
    ap (form_after (length (lines_of c.turns)) (bare i.piece)) c.form_is))

pub next : (script rest left line : List ℕ) (old mid mid' new : Option (List ℕ)) (form told : Form)
    (budget after after' : ℕ) (s s' : Played) (c : Course script rest old mid form budget s)
    (i : IsLine rest left line 2048 budget after) →
    Keeps mid mid' → told ≡ form_after s.lines line form → after' + most_bytes form ≡ after + most_bytes told →
    TurnDone c.turns c.text i.piece s' mid' new → Course script left old new told after' s'
next script rest left line old mid mid' new form told budget after after' s s' c i kept is grows d =
    let before = lines_of c.turns in
    let within = fault_within before i.piece (omega (arith, c.spent, i.spent, ap most_bytes c.form_is))
    (rw (i.bytes) i.fits) in
    record {
      turns = record { line = i.piece; refused = d.refused } ∷ c.turns;
      run = d.run;
      text = c.text ++ d.more;
      holds = d.holds;
      cut = c.cut ∙ (ap (λ (lines : List (List ℕ)). reverse before ++ lines) i.first ∙
          cut_more before i.piece (pieces left));
      fault = c.fault ∙ (ap (fault_from before) i.first ∙
          ap (λ f. first_of f (fault_from (i.piece ∷ before) (pieces left))) (within ∙ d.none));
      form_is = form_next script rest left line old mid form told budget after s c i is;
      spent = omega (arith, c.spent, i.spent, grows);
      written = appends_both old mid new c.text d.more c.written (kept_appends mid mid' new d.more kept d.written);
    }

-- ---- the start

nothing_silent : IsSilent []
nothing_silent zero = (refl, (λ o. refl), tt)
nothing_silent (suc k) = (refl, (λ o. refl), tt)

pub at_start : (script : List ℕ) (written : Option (List ℕ)) →
    Course script script written written Script 16777216 (record { lines = 0; header = nothing_told; recorded = None })
at_start script written = record {
  turns = [];
  run = [];
  text = [];
  holds = record {
    count = refl;
    plays = record {
      begun = refl;
      told = refl;
      none = refl;
      nothing = refl;
      silent = nothing_silent;
      within = omega arith;
    };
  };
  cut = refl;
  fault = refl;
  form_is = refl;
  spent = refl;
  written = appends_none written written (keeps_self written);
}
