-- What the fields of a session mean, by the definitions over the lines of its script.
use Rattle.std.specs.Prelude.{◌≡◌, ◌≢◌, ◌⊎◌, ℕ, ◌+◌, ◌≤◌, Bool, true, false, List, [], ◌∷◌, ◌++◌, length, take, drop}
use Rattle.std.specs.Prelude.{reverse, Option, Some, None, Result, Ok, Err}
use Rattle.std.specs.Io.KnownBytes.{Keeps, Appends}
use Rattle.swim_wire.specs.Address.{Address}
use Rattle.swim_text.specs.Lines.{pieces}
use Rattle.swim_text.specs.Streams.{Puts, PutsFront}
use Rattle.swim_wire.specs.declared.codec.WireFault.{WireFault}
use Rattle.swim_wire.specs.Messages.{Message}
use Rattle.swim_history.specs.declared.calls.Call.{Call}
use Rattle.swim_history.specs.declared.calls.Call.TheVariants as calls
use Rattle.swim_history.specs.declared.entries.Entry.{Entry}
use Rattle.swim_history.specs.declared.rows.Row.{Row}
use Rattle.swim_history.specs.Setting.{Setting}
use Rattle.swim_history.specs.LastProbe.{widest_gap}
use Rattle.swim_history.specs.Changes.{table}
use Rattle.swim_detector.specs.Recording.{Recording, IsKept, Records}
use Rattle.swim_script.specs.declared.arguments.Opened.{Opened}
use Rattle.swim_script.specs.declared.choosers.Drawer.{Drawer}
use Rattle.swim_script.specs.declared.commands.Command.{Command}
use Rattle.swim_script.specs.declared.commands.Command.TheVariants.{Open, Row as RowLine, Order, Place, Seed, Wire}
use Rattle.swim_script.specs.declared.commands.Command.TheVariants.{Tick, Hear, Join}
use Rattle.swim_script.specs.declared.commands.Command.TheVariants.{Remove, Table, Gap, Answer}
use Rattle.swim_script.specs.declared.commands.Stage.{Stage}
use Rattle.swim_script.specs.declared.commands.Stage.TheVariants.{Events}
use Rattle.swim_script.specs.declared.faults.FaultKind.TheVariants.{Memory, Differs, Write}
use Rattle.swim_script.specs.declared.faults.ScriptFault.{ScriptFault}
use Rattle.swim_script.specs.Choosers.{ChoosesOrder, ChoosesPlace}
use Rattle.swim_script.specs.declared.forms.Form.{Form}
use Rattle.swim_script.specs.Forms.{form_of, most_bytes}
use Rattle.swim_script.specs.Headers.{Told, told_then, stage_told, read_after, said, head_of, setting_in, limit_in}
use Rattle.swim_script.specs.Headers.{chooser_in}
use Rattle.swim_history.specs.Texts.{table_text, gap_text}
use Rattle.swim_script.specs.Texts.{newest_text, answer_text, wire_text, full_text, no_memory_text}
use Rattle.swim_script.specs.Script.{Turn, lines_of, calls_in, output_of, AreConfirmed, IsContrary, IsRunOf}
use Rattle.swim_script.specs.Script.{takes_memory}
use Rattle.swim_script.specs.Script.{is_answered, fault_of, fault_from, fault_of_read, fault_of_header, at_line}
use Rattle.swim_script.specs.Script.{bytes_of, IsTold}

-- what contracts see of a session: how many lines it was given, what those of the header told, and the recorder,
-- once an event line was met
pub record Played : Type 0 where
  pub lines : ℕ
  pub header : Told
  pub recorded : Option (Recording Drawer)

-- how far a script has come
abbrev pub stage_in : Told → Option (Recording Drawer) → Stage
stage_in header None = stage_told header
stage_in header (Some recorded) = Events

-- the rows that are kept: one more than an opening may have
abbrev pub first_rows : List Row → List Row
first_rows rows = take 129 rows

abbrev pub kept : Told → Told
kept told = record told { rows = first_rows told.rows }

-- no call was made by these lines or the older of them, and nothing was written
abbrev pub IsSilent : List Turn → Type 0
IsSilent turns =
    (k : ℕ) → (calls_in (drop k turns) ≡ []) × ((o : Setting) → output_of o (drop k turns) [] ≡ [])
    × AreConfirmed (drop k turns) []

abbrev pub line_of : Option Opened → ℕ
line_of None = 0
line_of (Some opened) = opened.line

-- no event line was met yet
pub record IsWaiting (turns : List Turn) (run : List Entry) (text : List ℕ) (header : Told) : Type 0 where
  pub begun : (head_of (lines_of turns)).begun ≡ false
  pub told : header ≡ kept (head_of (lines_of turns)).told
  pub none : run ≡ []
  pub nothing : text ≡ []
  pub silent : IsSilent turns
  pub within : line_of header.opened ≤ length (lines_of turns)

-- the recorder made the run of the calls, and this was written
pub record IsRecorded (turns : List Turn) (run : List Entry) (text : List ℕ)
    (recorded : Recording Drawer) : Type 0 where
  pub past : recorded.past ≡ run
  pub opening : recorded.opening ≡ setting_in (head_of (lines_of turns)).told
  pub limit : recorded.limit ≡ limit_in (head_of (lines_of turns)).told
  pub made : IsRunOf (head_of (lines_of turns)).told (calls_in turns) run recorded.chooser
  pub confirmed : AreConfirmed turns run
  pub text_is : text ≡ output_of (setting_in (head_of (lines_of turns)).told) turns run

abbrev pub Plays : List Turn → List Entry → List ℕ → Told → Option (Recording Drawer) → Type 0
Plays turns run text header None = IsWaiting turns run text header
Plays turns run text header (Some recorded) =
    ((head_of (lines_of turns)).begun ≡ true) × IsRecorded turns run text recorded

-- the session is where these lines lead: their calls made this run, and this text was written
pub record Holds (turns : List Turn) (run : List Entry) (text : List ℕ) (s : Played) : Type 0 where
  pub count : s.lines ≡ length (lines_of turns)
  pub plays : Plays turns run text s.header s.recorded

-- what an answered call did to the recorder, and what was written
abbrev pub Answers : Recording Drawer → Recording Drawer → Call → Option (List ℕ) → Option (List ℕ) → Bool → Type 0
Answers old new call before after done =
    ((length old.past ≡ old.limit) × IsKept old new × Puts before after full_text done)
    ⊎ (((length old.past + 1 ≤ old.limit) × IsKept old new × Puts before after no_memory_text done)
    ⊎ ((e : Entry) × (e.seat ≡ 0) × (e.call ≡ call) × (length old.past + 1 ≤ old.limit)
    × Records ChoosesOrder ChoosesPlace old new e × Puts before after (answer_text old.opening e.reply) done))

-- at the first event line the opening was checked and the recorder opened; it stays open
abbrev pub Starts : Told → Option (Recording Drawer) → Option (Recording Drawer) → Type 0
Starts header (Some a) new = new ≡ Some a
Starts header None None = ⊥
Starts header None (Some b) =
    (fault_of_header header ≡ None) × (b.past ≡ []) × (b.opening ≡ setting_in header) × (b.limit ≡ limit_in header)
    × (b.chooser ≡ chooser_in header)

abbrev pub Started : Played → Played → Result (Unit {0}) ScriptFault → Type 0
Started old new (Ok done) = Starts old.header old.recorded new.recorded
Started old new (Err fault) = (old.recorded ≡ None) × (fault_of_header old.header ≡ Some fault)

-- the recorder was called
abbrev pub Called : Option (Recording Drawer) → Option (Recording Drawer) → Call → Option (List ℕ) → Option (List ℕ) →
    Bool → Type 0
Called (Some a) (Some b) call before after done = Answers a b call before after done
Called (Some a) None call before after done = ⊥
Called None new call before after done = Unit {0}

-- the member table of a recorder, and the widest gap of a member
abbrev pub table_of : Recording Drawer → List ℕ
table_of a = table_text (table a.opening a.past)

abbrev pub gap_of : ℕ → Recording Drawer → List ℕ
gap_of member a = gap_text (widest_gap a.opening member a.past)

-- the fault at the end of the script
abbrev pub ending_with : Told → Option (Recording Drawer) → Option ScriptFault
ending_with header None = fault_of_header header
ending_with header (Some recorded) = None

abbrev pub ending : Played → Option ScriptFault
ending s = ending_with s.header s.recorded

-- the session was started, if it was not, and called
abbrev pub IsPlayed : Played → Played → Call → Option (List ℕ) → Option (List ℕ) → Bool → Type 0
IsPlayed old new call before after done =
    (a : Recording Drawer) × Starts old.header old.recorded (Some a) × (b : Recording Drawer) × (new.recorded ≡ Some b)
    × Answers a b call before after done
    × (new.lines ≡ old.lines + 1)

-- the session was started, if it was not, and a text was written
abbrev pub IsShown : Played → Played → (Recording Drawer → List ℕ) → Option (List ℕ) → Option (List ℕ) → Bool → Type 0
IsShown old new text before after done =
    (a : Recording Drawer) × Starts old.header old.recorded (Some a) × (new.recorded ≡ Some a) × Puts before after
    (text a) done × (new.lines ≡ old.lines + 1)

-- the session stopped at the line: the opening is refused, or the writer failed in the midst of that answer
abbrev pub IsStopped : Type 0 → Played → ScriptFault → Option (List ℕ) → Option (List ℕ) → Type 0
IsStopped Answering old fault before after =
    ((old.recorded ≡ None) × (fault_of_header old.header ≡ Some fault) × Keeps before after)
    ⊎ ((fault ≡ at_line (old.lines + 1) Write) × Answering)

abbrev pub PlaysLine : Played → Played → Call → Option (List ℕ) → Option (List ℕ) → Result (Unit {0}) ScriptFault →
    Type 0
PlaysLine old new call before after (Ok done) = IsPlayed old new call before after true
PlaysLine old new call before after (Err fault) =
    IsStopped (IsPlayed old new call before after false) old fault before after

abbrev pub ShowsLine : Played → Played → (Recording Drawer → List ℕ) → Option (List ℕ) → Option (List ℕ) →
    Result (Unit {0}) ScriptFault → Type 0
ShowsLine old new text before after (Ok done) = IsShown old new text before after true
ShowsLine old new text before after (Err fault) =
    IsStopped (IsShown old new text before after false) old fault before after

abbrev pub HearsLine : Played → Played → Address → Result Message WireFault → Option (List ℕ) → Option (List ℕ) →
    Result (Unit {0}) ScriptFault → Type 0
HearsLine old new source (Ok message) before after result =
    PlaysLine old new (calls.Hear source message) before after result
HearsLine old new source (Err wire) before after result = ShowsLine old new (λ a. wire_text wire) before after result

-- a header line was kept
abbrev pub IsNoted : Played → Played → Told → Option (List ℕ) → Option (List ℕ) → Type 0
IsNoted old new header before after =
    (new ≡ record { lines = old.lines + 1; header = header; recorded = old.recorded }) × Keeps before after

abbrev pub Notes : Played → Played → Told → Option (List ℕ) → Option (List ℕ) → Result (Unit {0}) ScriptFault → Type 0
Notes old new header before after (Ok done) = IsNoted old new header before after
Notes old new header before after (Err fault) = ⊥

-- or there was no memory to keep it
abbrev pub MayNote : Played → Played → Told → Option (List ℕ) → Option (List ℕ) → Result (Unit {0}) ScriptFault → Type 0
MayNote old new header before after (Ok done) = IsNoted old new header before after
MayNote old new header before after (Err fault) = (fault ≡ at_line (old.lines + 1) Memory) × Keeps before after

-- the newest entry was answered so
abbrev pub Tells : Option (Recording Drawer) → List ℕ → Type 0
Tells None text = ⊥
Tells (Some a) text = newest_text a.past ≡ Some text

-- or otherwise
abbrev pub TellsOther : Option (Recording Drawer) → List ℕ → Type 0
TellsOther None text = Unit {0}
TellsOther (Some a) text = newest_text a.past ≢ Some text

-- what was told of an answer was confirmed; or it wasn't answered so, or there was no memory to compare it
abbrev pub Confirms : Played → Played → List ℕ → Option (List ℕ) → Option (List ℕ) → Result (Unit {0}) ScriptFault →
    Type 0
Confirms old new text before after (Ok done) =
    Tells old.recorded text × IsNoted old new old.header before after
Confirms old new text before after (Err fault) =
    ((fault ≡ at_line (old.lines + 1) Memory) × Keeps before after)
    ⊎ ((fault ≡ at_line (old.lines + 1) Differs) × TellsOther old.recorded text × Keeps before after)

-- what a command did
abbrev pub Done : Played → Played → Command → Option (List ℕ) → Option (List ℕ) → Result (Unit {0}) ScriptFault → Type 0
Done old new (Open arguments) before after result =
    Notes old new (told_then (old.lines + 1) (Open arguments) old.header) before after result
Done old new (RowLine row) before after result =
    Notes old new (kept (told_then (old.lines + 1) (RowLine row) old.header)) before after result
Done old new (Order order) before after result =
    MayNote old new (told_then (old.lines + 1) (Order order) old.header) before after result
Done old new (Place place) before after result =
    MayNote old new (told_then (old.lines + 1) (Place place) old.header) before after result
Done old new (Seed key life) before after result =
    Notes old new (told_then (old.lines + 1) (Seed key life) old.header) before after result
Done old new (Wire version) before after result =
    Notes old new (told_then (old.lines + 1) (Wire version) old.header) before after result
Done old new Tick before after result = PlaysLine old new calls.Tick before after result
Done old new (Hear source read) before after result = HearsLine old new source read before after result
Done old new (Join id peer) before after result = PlaysLine old new (calls.Join id peer) before after result
Done old new (Remove id) before after result = PlaysLine old new (calls.Remove id) before after result
Done old new Table before after result = ShowsLine old new table_of before after result
Done old new (Gap id) before after result = ShowsLine old new (gap_of id) before after result
Done old new (Answer text) before after result = Confirms old new text before after result

-- what one line did: it has no fault, and its answer was written, or a front of it
pub record IsTurn (turns : List Turn) (text piece : List ℕ) (new : Played) (before after : Option (List ℕ))
    (whole : Bool) : Type 0 where
  pub none :
      fault_of_read (length (lines_of turns) + 1) (head_of (lines_of turns)) (read_after (lines_of turns) piece) ≡ None
  pub refused : Bool
  pub run : List Entry
  pub more : List ℕ
  pub holds : Holds (record { line = piece; refused = refused } ∷ turns) run (text ++ more) new
  pub written : Puts before after more whole

abbrev pub TurnDone : List Turn → List ℕ → List ℕ → Played → Option (List ℕ) → Option (List ℕ) → Type 0
TurnDone turns text piece new before after = IsTurn turns text piece new before after true

-- there was no memory to keep what it tells, and nothing was written
abbrev pub FindsNoMemory : List Turn → List ℕ → ScriptFault → Option (List ℕ) → Option (List ℕ) → Type 0
FindsNoMemory turns piece fault before after =
    (fault ≡ at_line (length (lines_of turns) + 1) Memory)
    × (takes_memory (said (lines_of turns) piece) ≡ true) × Keeps before after

-- the writer failed at its answer, which stands behind that text, and a front of it was written
abbrev pub FailsToAnswer : List Turn → List ℕ → List ℕ → ScriptFault → Option (List ℕ) → Option (List ℕ) → Type 0
FailsToAnswer turns text piece fault before after =
    (fault ≡ at_line (length (lines_of turns) + 1) Write) × (is_answered (said (lines_of turns) piece) ≡ true)
    × (answer : List ℕ) × IsTold (piece ∷ lines_of turns) (text ++ answer) × PutsFront before after answer

-- it tells an answer otherwise than it was, and nothing was written
abbrev pub FindsDifference : List Turn → List Entry → List ℕ → ScriptFault → Option (List ℕ) → Option (List ℕ) → Type 0
FindsDifference turns run piece fault before after =
    (fault ≡ at_line (length (lines_of turns) + 1) Differs)
    × ((head_of (lines_of turns)).begun ≡ true)
    × IsContrary (said (lines_of turns) piece) run × Keeps before after

-- it has a fault and nothing was written, or there was no memory, or it differs, or the writer failed
abbrev pub TurnFails : List Turn → List Entry → List ℕ → List ℕ → ScriptFault → Option (List ℕ) → Option (List ℕ) →
    Type 0
TurnFails turns run text piece fault before after =
    ((fault_of_read (length (lines_of turns) + 1) (head_of (lines_of turns)) (read_after (lines_of turns) piece) ≡
    Some fault)
    × Keeps before after)
    ⊎ (FindsNoMemory turns piece fault before after
    ⊎ (FailsToAnswer turns text piece fault before after ⊎ FindsDifference turns run piece fault before after))

abbrev pub Turned : List Turn → List Entry → List ℕ → List ℕ → Played → Option (List ℕ) → Option (List ℕ) →
    Result (Unit {0}) ScriptFault → Type 0
Turned turns run text piece new before after (Ok done) = TurnDone turns text piece new before after
Turned turns run text piece new before after (Err fault) = TurnFails turns run text piece fault before after

-- where the lines lead that were read of a script, of that form so far
pub record Course (script rest : List ℕ) (old new : Option (List ℕ)) (form : Form) (budget : ℕ) (s : Played) : Type
    0 where
  pub turns : List Turn
  pub run : List Entry
  pub text : List ℕ
  pub holds : Holds turns run text s
  pub cut : pieces script ≡ reverse (lines_of turns) ++ pieces rest
  pub fault : fault_of script ≡ fault_from (lines_of turns) (pieces rest)
  pub form_is : form ≡ form_of (lines_of turns)
  pub spent : bytes_of (lines_of turns) + budget ≡ most_bytes form
  pub written : Appends old new text

abbrev pub CourseKnown :
    Option (List ℕ) → Option (List ℕ) → Option (List ℕ) → Option (List ℕ) → Form → ℕ → Played → Type 0
CourseKnown None rest old new form budget s = Unit {0}
CourseKnown (Some script) None old new form budget s = ⊥
CourseKnown (Some script) (Some rest) old new form budget s = Course script rest old new form budget s
