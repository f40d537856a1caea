-- How a journal file ended that was played.
use Rattle.std.specs.Prelude.{ℕ, ◌+◌, ◌-◌, ◌^◌, ◌==◌, ◌&&◌, ◌||◌, not, nat_lt, min, take, length, List, codes, Bool}
use Rattle.std.specs.Prelude.{true, false, Option, Some, None, Result, Ok, Err, is_some, if◌then◌else◌}
use Rattle.std.specs.Str.{bytes_eq}
use Rattle.swim_evidence.specs.declared.confirming.Confirmations.{Confirmations}
use Rattle.swim_evidence.specs.declared.following.Draw.{Draw}
use Rattle.swim_evidence.specs.declared.sequences.HeaderEnd.{HeaderEnd}
use Rattle.swim_evidence.specs.declared.sequences.HeaderEnd.TheVariants as headers
use Rattle.swim_script.specs.declared.commands.LineFault.TheVariants.{Word}
use Rattle.swim_script.specs.declared.faults.ScriptFault.{ScriptFault}
use Rattle.swim_script.specs.declared.faults.FaultKind.{FaultKind}
use Rattle.swim_script.specs.declared.faults.FaultKind.TheVariants as kind
use Rattle.swim_script.specs.declared.outcomes.LineOutcome.{LineOutcome}
use Rattle.swim_script.specs.declared.outcomes.LineOutcome.TheVariants.{NoMemory}
use Rattle.swim_verdicts.specs.declared.witness.FileEnd.{FileEnd}
use Rattle.swim_verdicts.specs.declared.witness.FileEnd.TheVariants.{Unmet, Whole, Cut, Long, Foreign, Failed}
use Rattle.swim_text.specs.declared.short_lines.LineEnd.{LineEnd}
use Rattle.swim_text.specs.declared.short_lines.LineEnd.TheVariants.{Feed, Unended, Over}
use Rattle.swim_text.specs.declared.short_lines.LineEnd.TheVariants as met

-- memory for a call was refused
abbrev pub is_refused : LineOutcome → Bool
is_refused (NoMemory call) = true
is_refused outcome = false

-- a fault that is want of memory: to keep or to compare what a line tells, or for a call, whose answer is then told as
-- one that can't be written
abbrev pub is_want : FaultKind → Bool
is_want kind.Memory = true
is_want kind.Write = true
is_want other = false

abbrev pub wants_memory : Result (Unit {0}) ScriptFault → Bool
wants_memory (Ok done) = false
wants_memory (Err fault) = is_want fault.kind

-- the fault of the line that ended the run; a file that tells no opening, for which line 0 stands, has none, and want
-- of memory is none
abbrev pub fault_of_run : Result (Unit {0}) ScriptFault → Option ScriptFault
fault_of_run (Ok done) = None
fault_of_run (Err fault) = if fault.line == 0 || is_want fault.kind then None else Some fault

-- a line that is too long stands behind those that were read, of which there are less than 2^32; another first line
-- than that of a journal file is none that begins one
abbrev pub fault_met : Result (Unit {0}) ScriptFault → FileEnd → ℕ → Option ScriptFault
fault_met outcome Foreign lines = Some (record { line = 1; kind = kind.Words Word })
fault_met outcome Long lines = Some (record { line = min (lines + 1) (2 ^ 32 - 1); kind = kind.Long })
fault_met outcome end lines = fault_of_run outcome

abbrev pub tells_no_opening : Result (Unit {0}) ScriptFault → Bool
tells_no_opening (Ok done) = false
tells_no_opening (Err fault) = fault.line == 0

-- the file ended in the midst of a line, or before its opening
abbrev pub ends_in_midst : Result (Unit {0}) ScriptFault → FileEnd → Bool
ends_in_midst outcome Cut = true
ends_in_midst outcome end = tells_no_opening outcome

-- a line of the file was a call
abbrev pub has_calls : Confirmations → Bool
has_calls c = nat_lt 0 c.confirmed || (is_some c.waiting || is_some c.missed)

-- how far the header is told by a file that ended so: to its end where a call stands behind it, or a seed is told
abbrev pub end_of_header : FileEnd → HeaderEnd
end_of_header Whole = headers.Open
end_of_header end = headers.Cut

abbrev pub header_end : Bool → Option Draw → FileEnd → HeaderEnd
header_end calls draw end = if calls || is_some draw then headers.Told else end_of_header end

-- the first line of a journal file begins so
abbrev pub is_front : List ℕ → Bool
is_front line = bytes_eq line (take (min (length line) 9) (codes "journal 1"))

-- what the reading of a line tells of the file's end
abbrev pub end_at : LineEnd → Bool → List ℕ → FileEnd
end_at Feed first line = if first && not (bytes_eq line (codes "journal 1")) then Foreign else Unmet
end_at Unended first line = if first && not (is_front line) then Foreign else Cut
end_at Over first line = if first then Cut else Whole
end_at met.Long first line = if first then Foreign else Long
end_at met first line = Failed
