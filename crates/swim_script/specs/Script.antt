-- A script: its first fault, its calls, and what is written for it. Lines are lists of bytes with their line feeds; a
-- list of lines is newest first, so that each line stands before the earlier ones.
use Rattle.std.specs.Prelude.{◌≡◌, ℕ, ◌+◌, ◌-◌, ◌==◌, Bool, true, false, not, ◌||◌, nat_lt, ◌⊎◌, List, [], ◌∷◌, ◌++◌}
use Rattle.std.specs.Prelude.{length, map, take, drop, reverse, ◌≢◌, Option, Some, None, Result, Ok, Err, if◌then◌else◌}
use Rattle.std.specs.List.{list_all}
use Rattle.std.specs.Io.KnownBytes.{Appends}
use Rattle.swim_wire.specs.Address.{Address}
use Rattle.swim_text.specs.Lines.{pieces, bare, has_feed}
use Rattle.swim_wire.specs.declared.codec.WireFault.{WireFault}
use Rattle.swim_history.specs.declared.calls.Call.{Call}
use Rattle.swim_history.specs.declared.calls.Call.TheVariants as calls
use Rattle.swim_history.specs.declared.entries.Entry.{Entry}
use Rattle.swim_history.specs.declared.openings.OpeningFault.{OpeningFault}
use Rattle.swim_history.specs.declared.rows.Row.{Row}
use Rattle.swim_history.specs.Setting.{Setting, is_state_past}
use Rattle.swim_history.specs.Check.{first_fault}
use Rattle.swim_history.specs.LastProbe.{widest_gap}
use Rattle.swim_history.specs.Changes.{table}
use Rattle.swim_history.specs.Run.{IsRun}
use Rattle.swim_history.specs.Drawn.{IsDrawn}
use Rattle.swim_script.specs.declared.arguments.Opened.{Opened}
use Rattle.swim_script.specs.declared.choosers.Drawer.{Drawer}
use Rattle.swim_script.specs.declared.commands.LineFault.{LineFault}
use Rattle.swim_script.specs.declared.commands.LineFault.TheVariants.{Word}
use Rattle.swim_script.specs.declared.commands.Command.{Command}
use Rattle.swim_script.specs.declared.commands.Command.TheVariants.{Order, Place, Tick, Hear, Join, Remove, Table, Gap}
use Rattle.swim_script.specs.declared.commands.Command.TheVariants.{Answer}
use Rattle.swim_script.specs.declared.faults.FaultKind.{FaultKind}
use Rattle.swim_script.specs.declared.faults.FaultKind.TheVariants.{Size, Long, Words, Opening, Unused, Memory}
use Rattle.swim_script.specs.declared.faults.FaultKind.TheVariants.{Differs, Read, Write}
use Rattle.swim_script.specs.declared.faults.ScriptFault.{ScriptFault}
use Rattle.swim_script.specs.Choosers.{ChoosesOrder, ChoosesPlace}
use Rattle.swim_script.specs.Forms.{form_of, most_bytes}
use Rattle.swim_script.specs.Headers.{Told, is_event, Head, read_after, said, head_of, setting_in, limit_in, chooser_in}
use Rattle.swim_history.specs.Texts.{table_text, gap_text}
use Rattle.swim_script.specs.Texts.{newest_text, answer_text, wire_text, full_text, no_memory_text}

-- ---- faults

-- a fault in a line
abbrev pub at_line : ℕ → FaultKind → ScriptFault
at_line n kind = record { line = n; kind = kind }

abbrev pub opening_at : ℕ → Option FaultKind → Option ScriptFault
opening_at n None = None
opening_at n (Some kind) = Some (at_line n kind)

-- each member that failed did so in a period that was used, of which this number is the last
abbrev pub are_past : ℕ → List Row → Bool
are_past last rows = list_all (λ row. is_state_past last row.state) rows

-- the members of rows, and their addresses
abbrev pub members_of : List Row → List (ℕ × Address)
members_of rows = map (λ row. (row.id, row.peer)) rows

-- what is wrong with an opening: the first fault, and that a member didn't fail so where there is no other
abbrev pub kind_with : Option OpeningFault → Bool → Option FaultKind
kind_with (Some fault) past = Some (Opening fault)
kind_with None true = None
kind_with None false = Some Unused

abbrev pub kind_of_setting : Setting → Option FaultKind
kind_of_setting o = kind_with (first_fault o) (are_past o.last o.rows)

-- the fault of an opening, in its `open` line
abbrev pub fault_of_setting : Option Opened → Setting → Option ScriptFault
fault_of_setting None o = None
fault_of_setting (Some opened) o = opening_at opened.line (kind_of_setting o)

abbrev pub fault_of_opening : Told → Option ScriptFault
fault_of_opening told = fault_of_setting told.opened (setting_in told)

-- at the first event line the opening is checked
abbrev pub fault_of_command : Head → Command → Option ScriptFault
fault_of_command head command =
    if head.begun then None else (if is_event command then fault_of_opening head.told else None)

-- the fault of a line by what it says
abbrev pub fault_of_read : ℕ → Head → Result (Option Command) LineFault → Option ScriptFault
fault_of_read n head (Err fault) = Some (at_line n (Words fault))
fault_of_read n head (Ok None) = None
fault_of_read n head (Ok (Some command)) = fault_of_command head command

-- how many bytes lines have
abbrev pub bytes_of : List (List ℕ) → ℕ
bytes_of [] = 0
bytes_of (line ∷ before) = length line + bytes_of before

-- the first fault that applies to a line after those before it
abbrev pub fault_at : List (List ℕ) → List ℕ → Option ScriptFault
fault_at before line =
    let n = length before + 1 in
    if nat_lt (most_bytes (form_of before)) (length line + bytes_of before) then Some (at_line n Size)
    else (if nat_lt 2048 (length (bare line)) then Some (at_line n Long)
    else fault_of_read n (head_of before) (read_after before line))

-- the fault of a script that ends with its header: where there is no opening the first word is missing
abbrev pub fault_with : Option Opened → Option ScriptFault → Option ScriptFault
fault_with None fault = Some (at_line 0 (Words Word))
fault_with (Some opened) fault = fault

abbrev pub fault_of_header : Told → Option ScriptFault
fault_of_header told = fault_with told.opened (fault_of_opening told)

-- the fault at the end of a script
abbrev pub fault_at_end : Head → Option ScriptFault
fault_at_end head = if head.begun then None else fault_of_header head.told

-- the fault if there is one, else what comes later
abbrev pub first_of : Option ScriptFault → Option ScriptFault → Option ScriptFault
first_of None later = later
first_of (Some fault) later = Some fault

-- the first fault of the lines that are to come, after those before them
abbrev pub fault_from : List (List ℕ) → List (List ℕ) → Option ScriptFault
fault_from before [] = fault_at_end (head_of before)
fault_from before (line ∷ more) = first_of (fault_at before line) (fault_from (line ∷ before) more)

-- the fault of a script that the format names, if any
abbrev pub fault_of : List ℕ → Option ScriptFault
fault_of script = fault_from [] (pieces script)

-- ---- calls and answers

-- a line of a script, and whether its call was refused for want of memory
pub record Turn : Type 0 where
  pub line : List ℕ
  pub refused : Bool

abbrev pub lines_of : List Turn → List (List ℕ)
lines_of turns = map (λ turn. turn.line) turns

-- what a line asks: nothing, to hear bytes that are no datagram, to show the member table, to measure a member's
-- widest gap, or a call
pub data Asked : Type 0 where
  Nothing : Asked
  Unread : (fault : WireFault) → Asked
  Shows : Asked
  Measures : (member : ℕ) → Asked
  Calls : (call : Call) → Asked

abbrev pub asked_by : Option Command → Asked
asked_by (Some Tick) = Calls calls.Tick
asked_by (Some (Hear peer (Ok message))) = Calls (calls.Hear peer message)
asked_by (Some (Hear peer (Err fault))) = Unread fault
asked_by (Some (Join id peer)) = Calls (calls.Join id peer)
asked_by (Some (Remove id)) = Calls (calls.Remove id)
asked_by (Some Table) = Shows
asked_by (Some (Gap id)) = Measures id
asked_by command = Nothing

abbrev pub asked_in : List (List ℕ) → List ℕ → Asked
asked_in before line = asked_by (said before line)

-- the journal has as many entries as it may have
abbrev pub is_full : ℕ → ℕ → Bool
is_full limit made = not (nat_lt made limit)

-- the calls after a line
abbrev pub calls_then : ℕ → Bool → Asked → List Call → List Call
calls_then limit refused (Calls call) made = if is_full limit (length made) || refused then made else call ∷ made
calls_then limit refused asked made = made

-- the calls of lines that are in the run, newest first: those of lines that were refused, or that met a
-- full journal, are not
abbrev pub calls_in : List Turn → List Call
calls_in [] = []
calls_in (turn ∷ before) =
    calls_then (limit_in (head_of (lines_of before)).told) turn.refused (asked_in (lines_of before) turn.line)
    (calls_in before)

-- what is written for a run's newest entry, after what is written for the run before it
abbrev pub with_answer : Setting → (List Entry → List ℕ) → List Entry → List ℕ
with_answer o text [] = text []
with_answer o text (e ∷ run) = text run ++ answer_text o e.reply

-- what is written after a line
abbrev pub output_then : Setting → Bool → Bool → Asked → (List Entry → List ℕ) → List Entry → List ℕ
output_then o full refused Nothing text run = text run
output_then o full refused (Unread fault) text run = text run ++ wire_text fault
output_then o full refused Shows text run = text run ++ table_text (table o run)
output_then o full refused (Measures member) text run = text run ++ gap_text (widest_gap o member run)
output_then o full refused (Calls call) text run =
    if full then text run ++ full_text
    else (if refused then text run ++ no_memory_text else with_answer o text run)

-- what is written for the lines of a script, by the run of its calls: each line's answer, in order
abbrev pub output_of : Setting → List Turn → List Entry → List ℕ
output_of o [] run = []
output_of o (turn ∷ before) run =
    output_then o (is_full (limit_in (head_of (lines_of before)).told) (length (calls_in before))) turn.refused
    (asked_in (lines_of before) turn.line) (output_of o before) run

-- ---- what lines tell of answers

-- the run before a line
abbrev pub run_before : Bool → Bool → Asked → List Entry → List Entry
run_before full refused (Calls call) run = if full then run else (if refused then run else drop 1 run)
run_before full refused asked run = run

-- a line that tells what the newest entry was answered tells it as it was
abbrev pub IsConfirmed : Option Command → List Entry → Type 0
IsConfirmed (Some (Answer text)) run = newest_text run ≡ Some text
IsConfirmed command run = Unit {0}

-- and each such line does
abbrev pub AreConfirmed : List Turn → List Entry → Type 0
AreConfirmed [] run = Unit {0}
AreConfirmed (turn ∷ before) run =
    IsConfirmed (said (lines_of before) turn.line) run
    × AreConfirmed before
    (run_before (is_full (limit_in (head_of (lines_of before)).told) (length (calls_in before))) turn.refused
    (asked_in (lines_of before) turn.line) run)

-- a line tells it otherwise
abbrev pub IsContrary : Option Command → List Entry → Type 0
IsContrary (Some (Answer text)) run = newest_text run ≢ Some text
IsContrary command run = ⊥

-- ---- the whole

-- the run is one of the opening that was told, by one caller, of these calls, and its choices are those of the
-- chooser that was told, which is this one after it
pub record IsRunOf (told : Told) (made : List Call) (run : List Entry) (after : Drawer) : Type 0 where
  pub legal : IsRun (setting_in told) run
  pub drawn : IsDrawn ChoosesOrder ChoosesPlace (setting_in told) (chooser_in told) run after
  pub calls : map (λ e. e.call) run ≡ made
  pub one_seat : list_all (λ e. e.seat == 0) run ≡ true

-- the text is what is written for these lines: there is a run of their calls, and each line has its answer by
-- that run
pub record IsTold (lines : List (List ℕ)) (text : List ℕ) : Type 0 where
  pub turns : List Turn
  pub are : lines_of turns ≡ lines
  pub run : List Entry
  pub after : Drawer
  pub made : IsRunOf (head_of lines).told (calls_in turns) run after
  pub confirmed : AreConfirmed turns run
  pub text_is : text ≡ output_of (setting_in (head_of lines).told) turns run

-- the lines of a script before line n
abbrev pub lines_before : ℕ → List ℕ → List (List ℕ)
lines_before n script = reverse (take (n - 1) (pieces script))

-- the line tells an order or a place, which is kept in memory, or an answer, which is compared there
abbrev pub takes_memory : Option Command → Bool
takes_memory (Some (Order order)) = true
takes_memory (Some (Place place)) = true
takes_memory (Some (Answer text)) = true
takes_memory command = false

-- line n of a script takes memory
pub record WantsMemory (script : List ℕ) (n : ℕ) : Type 0 where
  pub piece : List ℕ
  pub more : List (List ℕ)
  pub cut : pieces script ≡ reverse (lines_before n script) ++ piece ∷ more
  pub takes : takes_memory (said (lines_before n script) piece) ≡ true

-- line n of a script tells an answer otherwise than it was: this text is written for the lines before it, by a run
-- whose
-- newest entry, if it has one, stands elsewhere or was answered something else
pub record IsDifferent (script : List ℕ) (n : ℕ) (text : List ℕ) : Type 0 where
  pub turns : List Turn
  pub piece : List ℕ
  pub more : List (List ℕ)
  pub cut : pieces script ≡ reverse (lines_of turns) ++ piece ∷ more
  pub number : n ≡ length (lines_of turns) + 1
  pub run : List Entry
  pub after : Drawer
  pub made : IsRunOf (head_of (lines_of turns)).told (calls_in turns) run after
  pub confirmed : AreConfirmed turns run
  pub text_is : text ≡ output_of (setting_in (head_of (lines_of turns)).told) turns run
  pub contrary : IsContrary (said (lines_of turns) piece) run

-- line n of a script is waited for: the lines before it were taken, and perhaps bytes of it, but no line feed, and
-- this is left
pub record WaitsFor (script left : List ℕ) (n : ℕ) : Type 0 where
  pub number : n ≡ length (lines_before n script) + 1
  pub taken : List ℕ
  pub cut : pieces script ≡ reverse (lines_before n script) ++ pieces (taken ++ left)
  pub unended : has_feed taken ≡ false

-- a line of an event is answered
abbrev pub is_answered : Option Command → Bool
is_answered (Some command) = is_event command
is_answered None = false

-- line n of a script is being answered: it was taken, and the lines behind it are left. Behind the answers to the lines
-- before it a front of its own was written
pub record IsAnswering (script left : List ℕ) (n : ℕ) (old new : Option (List ℕ)) : Type 0 where
  pub number : n ≡ length (lines_before n script) + 1
  pub piece : List ℕ
  pub cut : pieces script ≡ reverse (lines_before n script) ++ piece ∷ pieces left
  pub event : is_answered (said (lines_before n script) piece) ≡ true
  pub text : List ℕ
  pub told : IsTold (lines_before n script) text
  pub front : List ℕ
  pub unput : List ℕ
  pub answered : IsTold (piece ∷ lines_before n script) (text ++ (front ++ unput))
  pub written : Appends old new (text ++ front)

-- where in a script a fault stopped, of which this is left, and what was written before it: the reader failed at the
-- line that was waited for, and the lines before it were answered
abbrev pub RunsTo : List ℕ → List ℕ → Option (List ℕ) → Option (List ℕ) → ScriptFault → FaultKind → Type 0
RunsTo script left old new fault Read =
    WaitsFor script left fault.line
    × (text : List ℕ) × IsTold (lines_before fault.line script) text × Appends old new text
-- the writer failed between answers, at the line that was waited for, or in the midst of one
RunsTo script left old new fault Write =
    (WaitsFor script left fault.line
    × (text : List ℕ) × IsTold (lines_before fault.line script) text × Appends old new text)
    ⊎ IsAnswering script left fault.line old new
-- memory is wanted for a line that takes it, and the lines before it were answered
RunsTo script left old new fault Memory =
    WantsMemory script fault.line
    × (text : List ℕ) × IsTold (lines_before fault.line script) text × Appends old new text
-- what was answered is told otherwise, and the lines before it were answered
RunsTo script left old new fault Differs =
    (text : List ℕ) × IsDifferent script fault.line text × Appends old new text
-- any other fault is the one that the format names, and the lines before it were answered
RunsTo script left old new fault kind =
    (fault_of script ≡ Some fault)
    × (text : List ℕ) × IsTold (lines_before fault.line script) text × Appends old new text

-- the kind of the fault of a result, if there is one
abbrev pub result_kind : Result (Unit {0}) ScriptFault → Option FaultKind
result_kind (Ok done) = None
result_kind (Err fault) = Some fault.kind

abbrev pub is_write_kind : Option FaultKind → Bool
is_write_kind (Some Write) = true
is_write_kind kind = false

abbrev pub is_read_kind : Option FaultKind → Bool
is_read_kind (Some Read) = true
is_read_kind kind = false

-- the writer failed, or the reader did
abbrev pub is_write : Result (Unit {0}) ScriptFault → Bool
is_write result = is_write_kind (result_kind result)

abbrev pub is_read : Result (Unit {0}) ScriptFault → Bool
is_read result = is_read_kind (result_kind result)

-- what a run of a script wrote, of which this is left
abbrev pub Runs : List ℕ → List ℕ → Option (List ℕ) → Option (List ℕ) → Result (Unit {0}) ScriptFault → Type 0
Runs script left old new (Ok done) =
    (fault_of script ≡ None) × (text : List ℕ) × IsTold (reverse (pieces script)) text × Appends old new text
Runs script left old new (Err fault) = RunsTo script left old new fault fault.kind

-- the same, where the script's bytes are known
abbrev pub RunsKnown :
    Option (List ℕ) → Option (List ℕ) → Option (List ℕ) → Option (List ℕ) → Result (Unit {0}) ScriptFault → Type 0
RunsKnown None left old new result = Unit {0}
RunsKnown (Some script) None old new result = ⊥
RunsKnown (Some script) (Some left) old new result = Runs script left old new result
