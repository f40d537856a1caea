-- What one line of a connection does.
use Rattle.std.specs.Prelude.{◌≡◌, ℕ, Bool, true, false, ◌⊎◌, List, [], ◌∷◌, Option, Some, None, Result, Ok}
use Rattle.std.specs.Io.KnownBytes.{Appends}
use Rattle.swim_text.specs.declared.short_lines.LineEnd.{LineEnd}
use Rattle.swim_text.specs.declared.short_lines.LineEnd.TheVariants as lines
use Rattle.swim_text.specs.Streams.{Puts, PutsFront}
use Rattle.swim_control.specs.declared.desks.Answer.{Answer}
use Rattle.swim_control.specs.declared.desks.Answer.TheVariants as answers
use Rattle.swim_control.specs.declared.desks.DeskCommand.{DeskCommand}
use Rattle.swim_control.specs.declared.commands.Said.{Said}
use Rattle.swim_control.specs.declared.commands.Said.TheVariants.{Asks}
use Rattle.swim_control.specs.declared.faults.Fault.{Fault}
use Rattle.swim_control.specs.declared.faults.Fault.TheVariants.{LongLine, Unended}
use Rattle.swim_control.specs.declared.serving.Served.{Served}
use Rattle.swim_control.specs.declared.serving.Served.TheVariants as ends
use Rattle.swim_control.specs.Commands.{said_by, line_said}
use Rattle.swim_control.specs.Desks.{Told}
use Rattle.swim_control.specs.Serving.{line_text, end_at}
use Rattle.swim_control.specs.Texts.{fault_text}

-- how serving ends with an answer, if it does
abbrev pub end_of_answer : Answer → Option Served
end_of_answer answers.JournalFull = Some ends.JournalFull
end_of_answer answer = None

-- how serving ends with an answer that was written, or was not
abbrev pub closed : Bool → Option Served → Option Served
closed true end = end
closed false end = Some ends.WriteFault

-- what the desk is asked by a line that says this, and what it tells: one command, or none
abbrev pub Asked : {S : Type 0} → (S → DeskCommand → Told → S → Type 0) → Result Said Fault → S → List Told → S → Type 0
Asked asks (Ok (Asks command)) now (answer ∷ []) after = asks now command answer after
Asked asks (Ok (Asks command)) now told after = ⊥
Asked asks read now [] after = after ≡ now
Asked asks read now told after = ⊥

-- the line was answered, and serving ends so with it, if it does
pub record Turned {S : Type 0} (asks : S → DeskCommand → Told → S → Type 0) (read : Result Said Fault) (now after : S)
    (old new : Option (List ℕ)) (result : Option Served) : Type 0 where
  pub told : List Told
  pub asked : Asked asks read now told after
  pub done : Bool
  pub put : Puts old new (line_text read told) done
  pub is : result ≡ closed done (end_at read told)

-- a fault was told, and serving ends with it
abbrev pub IsFaulted : Fault → Served → Option (List ℕ) → Option (List ℕ) → Option Served → Type 0
IsFaulted fault end old new result =
    (done : Bool) × Puts old new (fault_text fault) done × (result ≡ closed done (Some end))

-- what the end of a line asks for was done, before anything is handed on
abbrev pub Meets : {S : Type 0} → (S → DeskCommand → Told → S → Type 0) → LineEnd → List ℕ → S → S → Option (List ℕ) →
    Option (List ℕ) → Option Served → Type 0
Meets asks lines.Feed line now after old new result = Turned asks (said_by (line_said line)) now after old new result
Meets asks lines.Long line now after old new result = (after ≡ now) × IsFaulted LongLine ends.TooLong old new result
Meets asks lines.Unended line now after old new result = (after ≡ now) × IsFaulted Unended ends.Unended old new result
Meets asks lines.Over line now after old new result = (after ≡ now) × (new ≡ old) × (result ≡ Some ends.Ended)
Meets asks met line now after old new result = (after ≡ now) × (new ≡ old) × (result ≡ Some ends.ReadFault)

-- the last text was written and handed on, or a write failed
abbrev pub IsLast : Option (List ℕ) → Option (List ℕ) → List ℕ → Served → Served → Type 0
IsLast old new text end result =
    ((result ≡ end) × Appends old new text) ⊎ ((result ≡ ends.WriteFault) × PutsFront old new text)
