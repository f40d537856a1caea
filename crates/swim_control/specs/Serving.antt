-- What serving a connection does: the text that came is cut into lines, and each line is answered. Lines are lists
-- of bytes with their line feeds; lists of lines, of commands and of what a desk told are newest first.
use Rattle.std.specs.Prelude.{◌≡◌, ℕ, ◌+◌, ◌<◌, ◌≤◌, Bool, true, false, ◌⊎◌, List, [], ◌∷◌, ◌++◌, length, reverse}
use Rattle.std.specs.Prelude.{Option, Some, None, Result, Ok, Err}
use Rattle.std.specs.Io.KnownBytes.{Appends}
use Rattle.swim_text.specs.Lines.{pieces, has_feed}
use Rattle.swim_text.specs.Streams.{one_more}
use Rattle.swim_control.specs.declared.desks.Answer.TheVariants as answers
use Rattle.swim_control.specs.declared.desks.DeskCommand.{DeskCommand}
use Rattle.swim_control.specs.declared.commands.Said.{Said}
use Rattle.swim_control.specs.declared.commands.Said.TheVariants.{Stop, Asks}
use Rattle.swim_control.specs.declared.faults.Fault.{Fault}
use Rattle.swim_control.specs.declared.faults.Fault.TheVariants as faults
use Rattle.swim_control.specs.declared.serving.Served.{Served}
use Rattle.swim_control.specs.declared.serving.Served.TheVariants.{Ended, Unended, TooLong, Stopped, JournalFull}
use Rattle.swim_control.specs.declared.serving.Served.TheVariants.{ReadFault, WriteFault}
use Rattle.swim_control.specs.Commands.{said}
use Rattle.swim_control.specs.Desks.{Told, Answers}
use Rattle.swim_control.specs.Texts.{fault_text, stopping_text, told_text}

-- ---- commands and what is told

-- the lines of a text, newest first
abbrev pub lines_of : List ℕ → List (List ℕ)
lines_of text = reverse (pieces text)

-- the commands after a line that says this
abbrev pub commands_then : Result Said Fault → List DeskCommand → List DeskCommand
commands_then (Ok (Asks command)) before = command ∷ before
commands_then read before = before

-- the commands that lines give the desk
abbrev pub commands_in : List (List ℕ) → List DeskCommand
commands_in [] = []
commands_in (line ∷ before) = commands_then (said line) (commands_in before)

-- a run of a desk's relation: given these commands it told this, on its way from one state to another
abbrev pub Tells : {S : Type 0} → (S → DeskCommand → Told → S → Type 0) → S → List DeskCommand → List Told → S → Type 0
Tells asks first [] [] last = last ≡ first
Tells {S = S} asks first (command ∷ commands) (told ∷ before) last =
    (mid : S) × (Tells asks first commands before mid × asks mid command told last)
Tells asks first commands told last = ⊥

-- what the desk told before a line that says this
abbrev pub told_before : Result Said Fault → List Told → List Told
told_before (Ok (Asks command)) (answer ∷ told) = told
told_before read told = told

-- ---- answers

-- the answer to a line that says this
abbrev pub line_text : Result Said Fault → List Told → List ℕ
line_text (Err fault) told = fault_text fault
line_text (Ok Stop) told = stopping_text
line_text (Ok (Asks command)) [] = []
line_text (Ok (Asks command)) (answer ∷ told) = told_text answer

-- what is written for lines, by what the desk told: each line's answer, in order
abbrev pub output_of : List (List ℕ) → List Told → List ℕ
output_of [] told = []
output_of (line ∷ before) told = output_of before (told_before (said line) told) ++ line_text (said line) told

-- ---- ends

-- serving ends where a journal is full
abbrev pub end_of_told : Told → Option Served
end_of_told (Answers answers.JournalFull) = Some JournalFull
end_of_told told = None

-- how serving ends with a line that says this, if it does
abbrev pub end_at : Result Said Fault → List Told → Option Served
end_at (Err faults.LongLine) told = Some TooLong
end_at (Err faults.Unended) told = Some Unended
end_at (Err (faults.Words fault)) told = None
end_at (Ok Stop) told = Some Stopped
end_at (Ok (Asks command)) [] = None
end_at (Ok (Asks command)) (answer ∷ told) = end_of_told answer

-- it ends with none of the lines
abbrev pub GoesOn : List (List ℕ) → List Told → Type 0
GoesOn [] told = Unit {0}
GoesOn (line ∷ before) told = (end_at (said line) told ≡ None) × GoesOn before (told_before (said line) told)

-- it ends so with the newest of the lines, and with none before it
abbrev pub EndsWith : Served → List (List ℕ) → List Told → Type 0
EndsWith end [] told = ⊥
EndsWith end (line ∷ before) told = (end_at (said line) told ≡ Some end) × GoesOn before (told_before (said line) told)

-- all lines but the newest were answered, and of the newest one's answer a front was written, which may be all of it
pub record IsCutOff (line : List ℕ) (before : List (List ℕ)) (told : List Told)
    (old new : Option (List ℕ)) : Type 0 where
  pub goes_on : GoesOn before (told_before (said line) told)
  pub front : List ℕ
  pub unput : List ℕ
  pub answer : line_text (said line) told ≡ front ++ unput
  pub written : Appends old new (output_of before (told_before (said line) told) ++ front)

abbrev pub AreCutOff : List (List ℕ) → List Told → Option (List ℕ) → Option (List ℕ) → Type 0
AreCutOff [] told old new = Appends old new []
AreCutOff (line ∷ before) told old new = IsCutOff line before told old new

-- the newest line has so many bytes
abbrev pub NewestHas : ℕ → List (List ℕ) → Type 0
NewestHas count [] = ⊥
NewestHas count (line ∷ before) = length line ≡ count

-- a part of a line was read, that is not too long
abbrev pub IsPart : List ℕ → Type 0
IsPart part = (has_feed part ≡ false) × (length part ≤ 128)

-- the lines that were answered, the part of a line that was read after them, and what is left unread; what the desk
-- told; what
-- was written before and after
abbrev pub Ends : Served → List ℕ → List ℕ → List ℕ → List Told → Option (List ℕ) → Option (List ℕ) → Type 0
-- the input ended after a line; the look for its end is one of the reads
Ends Ended read part rest told old new =
    GoesOn (lines_of read) told × (part ≡ []) × (rest ≡ []) × (length read < 1048576) × Appends old new
    (output_of (lines_of read) told)
-- or within one
Ends Unended read part rest told old new =
    EndsWith Unended (lines_of read) told × (part ≡ []) × (rest ≡ []) × (length read < 1048576) × Appends old new
    (output_of (lines_of read) told)
-- of a line that is too long the 129th byte is the last that is read
Ends TooLong read part rest told old new =
    EndsWith TooLong (lines_of read) told × (part ≡ []) × NewestHas 129 (lines_of read) × Appends old new
    (output_of (lines_of read) told)
Ends Stopped read part rest told old new =
    EndsWith Stopped (lines_of read) told × (part ≡ []) × Appends old new (output_of (lines_of read) told)
Ends JournalFull read part rest told old new =
    EndsWith JournalFull (lines_of read) told × (part ≡ []) × Appends old new (output_of (lines_of read) told)
-- a read failed, or the reads are spent: all whole lines were answered
Ends ReadFault read part rest told old new =
    GoesOn (lines_of read) told × IsPart part × Appends old new (output_of (lines_of read) told)
-- a write failed, in the newest line's answer or after it
Ends WriteFault read part rest told old new = IsPart part × AreCutOff (lines_of read) told old new

-- ---- on the way

-- the whole lines that were read were answered, and serving goes on
pub record Course {S : Type 0} (asks : S → DeskCommand → Told → S → Type 0) (text rest : List ℕ) (first now : S)
    (old new : Option (List ℕ)) (reads : ℕ) : Type 0 where
  pub read : List ℕ
  pub whole : text ≡ read ++ rest
  pub joins : (more : List ℕ) → pieces (read ++ more) ≡ pieces read ++ pieces more
  pub spent : length read + reads ≡ 1048576
  pub told : List Told
  pub run : Tells asks first (commands_in (lines_of read)) told now
  pub goes_on : GoesOn (lines_of read) told
  pub written : Appends old new (output_of (lines_of read) told)

-- the same of a text that is known
abbrev pub CourseKnown : {S : Type 0} → (S → DeskCommand → Told → S → Type 0) → Option (List ℕ) → Option (List ℕ) → S →
    S →
    Option (List ℕ) → Option (List ℕ) → ℕ → Type 0
CourseKnown asks None rest first now old new reads = Unit {0}
CourseKnown asks (Some text) None first now old new reads = ⊥
CourseKnown asks (Some text) (Some rest) first now old new reads = Course asks text rest first now old new reads

-- ---- the whole

-- the text was served up to what is left of it: its lines gave the desk their commands, and it ended so
pub record IsServed {S : Type 0} (asks : S → DeskCommand → Told → S → Type 0) (text rest : List ℕ) (first last : S)
    (old new : Option (List ℕ)) (end : Served) : Type 0 where
  pub read : List ℕ
  pub part : List ℕ
  pub whole : text ≡ read ++ (part ++ rest)
  pub within : length (read ++ part) ≤ 1048576
  pub told : List Told
  pub run : Tells asks first (commands_in (lines_of read)) told last
  pub ends : Ends end read part rest told old new

-- the same of a reader whose bytes are known
abbrev pub IsServedKnown : {S : Type 0} → (S → DeskCommand → Told → S → Type 0) → Option (List ℕ) → Option (List ℕ) →
    S →
    S → Option (List ℕ) → Option (List ℕ) → Served → Type 0
IsServedKnown asks None rest first last old new end = Unit {0}
IsServedKnown asks (Some text) None first last old new end = ⊥
IsServedKnown asks (Some text) (Some rest) first last old new end = IsServed asks text rest first last old new end

-- as many bytes were read as there are reads, where they are known
abbrev pub AreSpent : Option (List ℕ) → Option (List ℕ) → Type 0
AreSpent (Some text) (Some rest) = length text ≡ length rest + 1048576
AreSpent old new = Unit {0}

-- the reader's failures: `ReadFault` is told where a read failed or the reads are spent
abbrev pub ReadsFail : Served → Option (List ℕ) → Option (List ℕ) → ℕ → ℕ → Type 0
ReadsFail ReadFault old new before after = (after ≡ one_more before) ⊎ ((after ≡ before) × AreSpent old new)
ReadsFail end old new before after = after ≡ before

-- the writer failed
abbrev pub is_write_fault : Option Served → Bool
is_write_fault (Some WriteFault) = true
is_write_fault end = false
