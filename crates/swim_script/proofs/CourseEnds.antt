-- How the run of a script ends, from where its lines lead.
use Rattle.std.proofs.Common.{◌≡◌, ◌≢◌, ℕ, ◌+◌, Bool, true, false, cond, List, [], ◌∷◌, ◌++◌, length, reverse, Option}
use Rattle.std.proofs.Common.{Some, None, Result, Ok, Err, refl, sym, ap, subst, ◌∙◌, inl, inr, arith, append-nil}
use Rattle.std.specs.Io.KnownBytes.{Keeps, Appends}
use Rattle.std.proofs.lemmas.List.{length-map, reverse-reverse}
use Rattle.swim_text.specs.Lines.{pieces, IsLine, IsLong, IsOversize, IsCutShort}
use Rattle.swim_text.specs.Streams.{PutsFront, appends_both, appends_kept}
use Rattle.swim_history.specs.declared.entries.Entry.{Entry}
use Rattle.std.proofs.lemmas.Option.{same_Some}
use Rattle.swim_history.specs.declared.openings.OpeningFault.{OpeningFault}
use Rattle.swim_history.specs.Check.{first_fault}
use Rattle.swim_history.specs.Setting.{Setting}
use Rattle.swim_detector.specs.Recording.{Recording}
use Rattle.swim_script.specs.declared.arguments.Opened.{Opened}
use Rattle.swim_script.specs.declared.choosers.Drawer.{Drawer}
use Rattle.swim_script.specs.declared.commands.Command.{Command}
use Rattle.swim_script.specs.declared.commands.LineFault.{LineFault}
use Rattle.swim_script.specs.declared.commands.LineFault.TheVariants.{Word}
use Rattle.swim_script.specs.declared.faults.FaultKind.{FaultKind}
use Rattle.swim_script.specs.declared.faults.FaultKind.TheVariants.{Size, Long, Words, Opening, Unused, Memory, Differs}
use Rattle.swim_script.specs.declared.faults.FaultKind.TheVariants.{Read, Write}
use Rattle.swim_script.specs.declared.faults.ScriptFault.{ScriptFault}
use Rattle.swim_script.specs.declared.forms.Form.{Form}
use Rattle.swim_script.specs.Forms.{most_bytes}
use Rattle.swim_script.specs.Headers.{Told, is_event, read_after, said, head_of, setting_in}
use Rattle.swim_script.specs.Script.{Turn, lines_of, at_line, opening_at, are_past, kind_with, kind_of_setting}
use Rattle.swim_script.specs.Script.{fault_of_setting, fault_of_opening, fault_of_read, fault_with, fault_of_header}
use Rattle.swim_script.specs.Script.{fault_at_end, fault_from, fault_of, IsTold, lines_before, takes_memory, IsContrary}
use Rattle.swim_script.specs.Script.{IsDifferent, WantsMemory, WaitsFor, is_answered, IsAnswering, RunsTo}
use Rattle.swim_script.specs.Holds.{Played, line_of, Plays, Holds, ending, ending_with, TurnFails, Course}
use Rattle.swim_script.specs.Ends.{IsEndOf}
use Rattle.swim_script.proofs.KeptRows.{fault_of_kept}
use Rattle.swim_script.proofs.Courses.{before_next, told_by, told_so_far, told_earlier, fault_within, fault_long}
use Rattle.swim_script.proofs.Courses.{fault_size, first_fault_is}

-- ---- how a run ends

-- a fault that the format names by the script alone
abbrev pub IsNamed : FaultKind → Type 0
IsNamed kind = (kind ≢ Read) × (kind ≢ Write) × (kind ≢ Memory) × (kind ≢ Differs)

-- any fault but the reader's, the writer's and the want of memory
ends_with : (script left : List ℕ) (old new : Option (List ℕ)) (fault : ScriptFault) (kind : FaultKind) → IsNamed kind →
    (fault_of script ≡ Some fault) × (text : List ℕ) × IsTold (lines_before fault.line script) text ×
    Appends old new text → RunsTo script left old new fault kind
ends_with script left old new fault Size named p = p
ends_with script left old new fault Long named p = p
ends_with script left old new fault (Words wrong) named p = p
ends_with script left old new fault (Opening opening) named p = p
ends_with script left old new fault Unused named p = p
ends_with script left old new fault Read named p = absurd (named.0 refl)
ends_with script left old new fault Write named p = absurd (named.1 refl)
ends_with script left old new fault Memory named p = absurd (named.2 refl)
ends_with script left old new fault Differs named p = absurd (named.3 refl)

-- the lines before such a fault's line were answered
abbrev pub Stands : List ℕ → List ℕ → ScriptFault → Type 0
Stands script text fault = IsTold (lines_before fault.line script) text × IsNamed fault.kind

named_words : (wrong : LineFault) → IsNamed (Words wrong)
named_words wrong = ((λ e. absurd (cc e)), (λ e. absurd (cc e)), (λ e. absurd (cc e)), (λ e. absurd (cc e)))

named_opening : (refused : OpeningFault) → IsNamed (Opening refused)
named_opening refused = ((λ e. absurd (cc e)), (λ e. absurd (cc e)), (λ e. absurd (cc e)), (λ e. absurd (cc e)))

named_unused : IsNamed Unused
named_unused = ((λ e. absurd (cc e)), (λ e. absurd (cc e)), (λ e. absurd (cc e)), (λ e. absurd (cc e)))

named_kind : (refused : Option OpeningFault) (past : Bool) (kind : FaultKind) → kind_with refused past ≡ Some kind →
    IsNamed kind
named_kind (Some refused) past kind found =
    subst IsNamed (same_Some (Opening refused) kind found) (named_opening refused)
named_kind None true kind found = absurd (cc found)
named_kind None false kind found = subst IsNamed (same_Some Unused kind found) named_unused

-- the fault of an opening stands in its `open` line
refused_at : (n : ℕ) (refused : Option FaultKind) (fault : ScriptFault) →
    ((kind : FaultKind) → refused ≡ Some kind → IsNamed kind) → opening_at n refused ≡ Some fault →
    (fault.line ≡ n) × IsNamed fault.kind
refused_at n None fault named found = absurd (cc found)
refused_at n (Some kind) fault named found =
    subst (λ (f : ScriptFault). (f.line ≡ n) × IsNamed f.kind) (same_Some (at_line n kind) fault found)
    (refl, named kind refl)

opening_stands : (opened : Option Opened) (o : Setting) (fault : ScriptFault) → fault_of_setting opened o ≡ Some fault →
    (fault.line ≡ line_of opened) × IsNamed fault.kind
opening_stands None o fault found = absurd (cc found)
opening_stands (Some opened) o fault found =
    refused_at opened.line (kind_of_setting o) fault (named_kind (first_fault o) (are_past o.last o.rows)) found

-- a fault of a command is one of the opening, at the first event line
opening_found : (begun event : Bool) (refused : Option ScriptFault) (fault : ScriptFault) →
    cond begun None (cond event refused None) ≡ Some fault → (begun ≡ false) × (refused ≡ Some fault)
opening_found true event refused fault found = absurd (cc found)
opening_found false true refused fault found = (refl, found)
opening_found false false refused fault found = absurd (cc found)

event_stands : (script : List ℕ) (turns : List Turn) (run : List Entry) (text : List ℕ) (more : List (List ℕ))
    (header : Told) (recorded : Option (Recording Drawer)) (fault : ScriptFault) →
    pieces script ≡ reverse (lines_of turns) ++ more → Plays turns run text header recorded →
    (head_of (lines_of turns)).begun ≡ false →
    fault_of_opening (head_of (lines_of turns)).told ≡ Some fault → Stands script text fault
event_stands script turns run text more header (Some a) fault cut p begun found = absurd (cc (p.0, begun))
event_stands script turns run text more header None fault cut p begun found =
    let told = (head_of (lines_of turns)).told in
    let stands = opening_stands told.opened (setting_in told) fault found in
    let line : fault.line ≡ line_of header.opened = stands.0 ∙ ap (λ (t : Told). line_of t.opened) (sym p.told) in (
      told_earlier fault.line script turns run text more header
          (omega (arith, line, p.within, length-map turns (λ (turn : Turn). turn.line))) cut p,
      stands.1,
    )

-- the fault of a line's words
read_stands : (script : List ℕ) (turns : List Turn) (run : List Entry) (text : List ℕ) (more : List (List ℕ))
    (s : Played) (read : Result (Option Command) LineFault) (fault : ScriptFault) →
    pieces script ≡ reverse (lines_of turns) ++ more → Holds turns run text s →
    fault_of_read (length (lines_of turns) + 1) (head_of (lines_of turns)) read ≡ Some fault →
    Stands script text fault
read_stands script turns run text more s (Err wrong) fault cut h found =
    subst (Stands script text) (same_Some (at_line (length (lines_of turns) + 1) (Words wrong)) fault found)
    (told_so_far (length (lines_of turns) + 1) script turns run text more s refl cut h, named_words wrong)
read_stands script turns run text more s (Ok None) fault cut h found = absurd (cc found)
read_stands script turns run text more s (Ok (Some command)) fault cut h found =
    let head = head_of (lines_of turns) in
    let refused = opening_found head.begun (is_event command) (fault_of_opening head.told) fault found in
    event_stands script turns run text more s.header s.recorded fault cut h.plays refused.0 refused.1

-- a line for which there was no memory
wants_memory : (script : List ℕ) (before : List (List ℕ)) (piece : List ℕ) (more : List (List ℕ)) →
    pieces script ≡ reverse before ++ piece ∷ more → takes_memory (said before piece) ≡ true →
    WantsMemory script (length before + 1)
wants_memory script before piece more cut takes =
    let same : lines_before (length before + 1) script ≡ before =
    before_next (length before + 1) script before (piece ∷ more) (omega arith) cut in
    record {
      piece = piece;
      more = more;
      cut = cut ∙ ap (λ (lines : List (List ℕ)). reverse lines ++ piece ∷ more) (sym same);
      takes = ap (λ (lines : List (List ℕ)). takes_memory (said lines piece)) same ∙ takes;
    }

-- a line of which a front of the answer was written
answering : (script left : List ℕ) (before : List (List ℕ)) (piece text answer : List ℕ) (old mid new : Option (List ℕ))
    → pieces script ≡ reverse before ++ piece ∷ pieces left → is_answered (said before piece) ≡ true →
    IsTold before text → IsTold (piece ∷ before) (text ++ answer) → Appends old mid text → PutsFront mid new answer →
    IsAnswering script left (length before + 1) old new
answering script left before piece text answer old mid new cut event told answered wrote puts =
    let same : lines_before (length before + 1) script ≡ before =
    before_next (length before + 1) script before (piece ∷ pieces left) (omega arith) cut in
    record {
      number = ap (λ (lines : List (List ℕ)). length lines + 1) (sym same);
      piece = piece;
      cut = cut ∙ ap (λ (lines : List (List ℕ)). reverse lines ++ piece ∷ pieces left) (sym same);
      event = ap (λ (lines : List (List ℕ)). is_answered (said lines piece)) same ∙ event;
      text = text;
      told = subst (λ (lines : List (List ℕ)). IsTold lines text) (sym same) told;
      front = puts.front;
      unput = puts.unput;
      answered = subst (λ (lines : List (List ℕ)). IsTold (piece ∷ lines) (text ++ (puts.front ++ puts.unput)))
          (sym same)
          (subst (λ (all : List ℕ). IsTold (piece ∷ before) (text ++ all)) puts.cut answered);
      written = appends_both old mid new text puts.front wrote puts.grows;
    }

-- a line that was not taken to its end
waits_for : (n : ℕ) (script rest left : List ℕ) (before : List (List ℕ)) (budget after : ℕ) → n ≡ length before + 1 →
    pieces script ≡ reverse before ++ pieces rest → IsCutShort rest left budget after →
    WaitsFor script left n
waits_for n script rest left before budget after count cut i =
    let same : lines_before n script ≡ before = before_next n script before (pieces rest) (omega (arith, count)) cut in
    record {
      number = count ∙ ap (λ (lines : List (List ℕ)). length lines + 1) (sym same);
      taken = i.taken;
      cut = cut ∙ (ap (λ (text : List ℕ). reverse before ++ pieces text) i.whole ∙
          ap (λ (lines : List (List ℕ)). reverse lines ++ pieces (i.taken ++ left)) (sym same));
      unended = i.within;
    }

-- a line that tells an answer otherwise than it was
differs_at : (script : List ℕ) (turns : List Turn) (run : List Entry) (text piece : List ℕ) (more : List (List ℕ))
    (header : Told) (recorded : Option (Recording Drawer)) → Plays turns run text header recorded →
    (head_of (lines_of turns)).begun ≡ true → pieces script ≡ reverse (lines_of turns) ++ piece ∷ more →
    IsContrary (said (lines_of turns) piece) run → IsDifferent script (length (lines_of turns) + 1) text
differs_at script turns run text piece more header None p begun cut contrary = absurd (cc (p.begun, begun))
differs_at script turns run text piece more header (Some a) p begun cut contrary = record {
  turns = turns;
  piece = piece;
  more = more;
  cut = cut;
  number = refl;
  run = run;
  after = a.chooser;
  made = p.1.made;
  confirmed = p.1.confirmed;
  text_is = p.1.text_is;
  contrary = contrary;
}

-- a run that ends at a line's words, for want of memory, or where the writer fails
pub ends_in_line : (script rest left line : List ℕ) (old mid mid' new : Option (List ℕ)) (form : Form)
    (budget after : ℕ) (s : Played) (fault : ScriptFault) (c : Course script rest old mid form budget s)
    (i : IsLine rest left line 2048 budget after) →
    Keeps mid mid' → TurnFails c.turns c.run c.text i.piece fault mid' new → RunsTo script left old new fault fault.kind
ends_in_line script rest left line old mid mid' new form budget after s fault c i kept fails =
    let before = lines_of c.turns in
    elim fails [
      | inl found ↦
          let within = fault_within before i.piece (omega (arith, c.spent, i.spent, ap most_bytes c.form_is))
          (rw (i.bytes) i.fits) in
          let stands = read_stands script c.turns c.run c.text (pieces rest) s (read_after before i.piece) fault c.cut
          c.holds found.0 in
          ends_with script left old new fault fault.kind stands.1 (
            first_fault_is script rest i.piece (pieces left) before fault c.fault i.first (within ∙ found.0),
            c.text,
            stands.0,
            appends_kept old mid' new c.text (appends_kept old mid mid' c.text c.written kept) found.1,
          )
      | inr (inl short) ↦
          subst (λ (f : ScriptFault). RunsTo script left old new f f.kind) (sym short.0) (
            wants_memory script before i.piece (pieces left)
                (c.cut ∙ ap (λ (lines : List (List ℕ)). reverse before ++ lines) i.first) short.1,
            c.text,
            told_so_far (length before + 1) script c.turns c.run c.text (pieces rest) s refl c.cut c.holds,
            appends_kept old mid' new c.text (appends_kept old mid mid' c.text c.written kept) short.2,
          )
      | inr (inr (inr different)) ↦
          subst (λ (f : ScriptFault). RunsTo script left old new f f.kind) (sym different.0) (
            c.text,
            differs_at script c.turns c.run c.text i.piece (pieces left) s.header s.recorded c.holds.plays different.1
                (c.cut ∙ ap (λ (lines : List (List ℕ)). reverse before ++ lines) i.first) different.2,
            appends_kept old mid' new c.text (appends_kept old mid mid' c.text c.written kept) different.3,
          )
      | inr (inr (inl failed)) ↦
          subst (λ (f : ScriptFault). RunsTo script left old new f f.kind) (sym failed.0) (
          inr (answering script left before i.piece c.text failed.2 old mid' new
          (c.cut ∙ ap (λ (lines : List (List ℕ)). reverse before ++ lines) i.first) failed.1
          (told_by c.turns c.run c.text s.header s.recorded c.holds.plays) failed.3
          (appends_kept old mid mid' c.text c.written kept) failed.4)
          )
    ]

-- a run that ends at a line that is too long
pub ends_long : (script rest left : List ℕ) (old mid new : Option (List ℕ)) (form : Form) (budget after : ℕ)
    (s : Played) (c : Course script rest old mid form budget s) → IsLong rest left 2048 budget after → Keeps mid new →
    RunsTo script left old new (at_line (s.lines + 1) Long) Long
ends_long script rest left old mid new form budget after s c i kept =
    let before = lines_of c.turns in
    subst (λ n. RunsTo script left old new (at_line (n + 1) Long) Long) (sym c.holds.count) (
      first_fault_is script rest i.piece (pieces left) before (at_line (length before + 1) Long) c.fault i.first
          (fault_long before i.piece (omega (arith, c.spent, i.spent, ap most_bytes c.form_is)) i.long),
      c.text,
      told_so_far (length before + 1) script c.turns c.run c.text (pieces rest) s refl c.cut c.holds,
      appends_kept old mid new c.text c.written kept,
    )

-- at one that goes past the size of a script
pub ends_oversize : (script rest left : List ℕ) (old mid new : Option (List ℕ)) (form : Form) (budget : ℕ) (s : Played)
    (c : Course script rest old mid form budget s) → IsOversize rest left budget → Keeps mid new →
    RunsTo script left old new (at_line (s.lines + 1) Size) Size
ends_oversize script rest left old mid new form budget s c i kept =
    let before = lines_of c.turns in
    subst (λ n. RunsTo script left old new (at_line (n + 1) Size) Size) (sym c.holds.count) (
      first_fault_is script rest i.piece i.more before (at_line (length before + 1) Size) c.fault i.first
          (fault_size before i.piece (omega (arith, c.spent, i.over, ap most_bytes c.form_is))),
      c.text,
      told_so_far (length before + 1) script c.turns c.run c.text (pieces rest) s refl c.cut c.holds,
      appends_kept old mid new c.text c.written kept,
    )

-- where the reader fails
pub ends_unread : (script rest left : List ℕ) (old mid new : Option (List ℕ)) (form : Form) (budget after : ℕ)
    (s : Played) (c : Course script rest old mid form budget s) → IsCutShort rest left budget after → Keeps mid new →
    RunsTo script left old new (at_line (s.lines + 1) Read) Read
ends_unread script rest left old mid new form budget after s c i kept =
    let count : s.lines + 1 ≡ length (lines_of c.turns) + 1 = ap (λ n. n + 1) c.holds.count in (
      waits_for (s.lines + 1) script rest left (lines_of c.turns) budget after count c.cut i,
      c.text,
      told_so_far (s.lines + 1) script c.turns c.run c.text (pieces rest) s count c.cut c.holds,
      appends_kept old mid new c.text c.written kept,
    )

-- where the writer fails between answers
pub ends_unsent : (script rest left : List ℕ) (old mid new : Option (List ℕ)) (form : Form) (budget after : ℕ)
    (s : Played) (c : Course script rest old mid form budget s) → IsCutShort rest left budget after → Keeps mid new →
    RunsTo script left old new (at_line (s.lines + 1) Write) Write
ends_unsent script rest left old mid new form budget after s c i kept =
    let count : s.lines + 1 ≡ length (lines_of c.turns) + 1 = ap (λ n. n + 1) c.holds.count in (
    inl (
      waits_for (s.lines + 1) script rest left (lines_of c.turns) budget after count c.cut i,
      c.text,
      told_so_far (s.lines + 1) script c.turns c.run c.text (pieces rest) s count c.cut c.holds,
      appends_kept old mid new c.text c.written kept,
    )
    )

-- ---- the end of a script

end_is : (turns : List Turn) (run : List Entry) (text : List ℕ) (header : Told) (recorded : Option (Recording Drawer)) →
    Plays turns run text header recorded →
    fault_at_end (head_of (lines_of turns)) ≡ ending_with header recorded
end_is turns run text header (Some a) p = rw p.0 refl
end_is turns run text header None p =
    let before : fault_at_end (head_of (lines_of turns)) ≡ fault_of_header (head_of (lines_of turns)).told =
    rw p.begun refl in
    before ∙ (sym (fault_of_kept (head_of (lines_of turns)).told) ∙ ap fault_of_header (sym p.told))

fault_of_whole : (script rest : List ℕ) (old mid : Option (List ℕ)) (form : Form) (budget : ℕ) (s : Played)
    (c : Course script rest old mid form budget s) → rest ≡ [] → fault_of script ≡ ending s
fault_of_whole script rest old mid form budget s c over =
    c.fault ∙ (ap (λ (text : List ℕ). fault_from (lines_of c.turns) (pieces text)) over ∙
    end_is c.turns c.run c.text s.header s.recorded c.holds.plays)

-- such a fault is the opening's, or that there is none
header_stands : (opened : Option Opened) (o : Setting) (fault : ScriptFault) →
    fault_with opened (fault_of_setting opened o) ≡ Some fault → (fault.line ≡ line_of opened) × IsNamed fault.kind
header_stands None o fault found =
    subst (λ (f : ScriptFault). (f.line ≡ 0) × IsNamed f.kind) (same_Some (at_line 0 (Words Word)) fault found)
    (refl, named_words Word)
header_stands (Some opened) o fault found = opening_stands (Some opened) o fault found

end_stands : (script : List ℕ) (turns : List Turn) (run : List Entry) (text : List ℕ) (more : List (List ℕ))
    (header : Told) (recorded : Option (Recording Drawer)) (fault : ScriptFault) →
    pieces script ≡ reverse (lines_of turns) ++ more → Plays turns run text header recorded →
    ending_with header recorded ≡ Some fault → Stands script text fault
end_stands script turns run text more header (Some a) fault cut p found = absurd (cc found)
end_stands script turns run text more header None fault cut p found =
    let stands = header_stands header.opened (setting_in header) fault found in (
      told_earlier fault.line script turns run text more header
          (omega (arith, stands.0, p.within, length-map turns (λ (turn : Turn). turn.line))) cut p,
      stands.1,
    )

-- a script that has come to its end
whole_lines : (script rest : List ℕ) (lines : List (List ℕ)) → pieces script ≡ reverse lines ++ pieces rest →
    rest ≡ [] → reverse (pieces script) ≡ lines
whole_lines script rest lines cut over =
    ap reverse (cut ∙ ap (λ (text : List ℕ). reverse lines ++ pieces text) over ∙ append-nil (reverse lines)) ∙
    reverse-reverse lines

-- it leaves the session where its lines lead
pub ends_there : (script rest : List ℕ) (old mid new : Option (List ℕ)) (form : Form) (budget : ℕ) (s : Played)
    (c : Course script rest old mid form budget s) → rest ≡ [] → Keeps mid new → IsEndOf script old new s
ends_there script rest old mid new form budget s c over kept = record {
  turns = c.turns;
  are = sym (whole_lines script rest (lines_of c.turns) c.cut over);
  run = c.run;
  text = c.text;
  holds = c.holds;
  written = appends_kept old mid new c.text c.written kept;
}

-- it has no fault
pub ends_well : (script rest : List ℕ) (old mid new : Option (List ℕ)) (form : Form) (budget : ℕ) (s : Played)
    (c : Course script rest old mid form budget s) → rest ≡ [] → Keeps mid new → ending s ≡ None →
    (fault_of script ≡ None) × (text : List ℕ) × IsTold (reverse (pieces script)) text × Appends old new text
ends_well script rest old mid new form budget s c over kept none =
    let lines = whole_lines script rest (lines_of c.turns) c.cut over in (
      fault_of_whole script rest old mid form budget s c over ∙
          none,
      c.text,
      subst (λ (l : List (List ℕ)). IsTold l c.text) (sym lines)
          (told_by c.turns c.run c.text s.header s.recorded c.holds.plays),
      appends_kept old mid new c.text c.written kept,
    )

-- one that has a fault at its end
pub ends_badly : (script rest left : List ℕ) (old mid new : Option (List ℕ)) (form : Form) (budget : ℕ) (s : Played)
    (fault : ScriptFault) (c : Course script rest old mid form budget s) → rest ≡ [] → Keeps mid new →
    ending s ≡ Some fault →
    RunsTo script left old new fault fault.kind
ends_badly script rest left old mid new form budget s fault c over kept found =
    let stands = end_stands script c.turns c.run c.text (pieces rest) s.header s.recorded fault c.cut c.holds.plays
    found in
    ends_with script left old new fault fault.kind stands.1 (
      fault_of_whole script rest old mid form budget s c over ∙
          found,
      c.text,
      stands.0,
      appends_kept old mid new c.text c.written kept,
    )
