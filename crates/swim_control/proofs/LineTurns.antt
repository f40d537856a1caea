-- What one line does, by what it says.
use Rattle.std.proofs.Common.{◌≡◌, ℕ, Bool, List, [], ◌∷◌, Option, None, Some, Result, Ok, Err, refl, subst}
use Rattle.swim_text.specs.Streams.{Puts}
use Rattle.swim_control.specs.declared.desks.Answer.{Answer}
use Rattle.swim_control.specs.declared.desks.Answer.TheVariants as answers
use Rattle.swim_control.specs.declared.desks.DeskCommand.{DeskCommand}
use Rattle.swim_control.specs.declared.commands.Said.{Said}
use Rattle.swim_control.specs.declared.commands.Said.TheVariants.{Stop, Asks}
use Rattle.swim_control.specs.declared.faults.WordFault.{WordFault}
use Rattle.swim_control.specs.declared.faults.Fault.TheVariants.{Words}
use Rattle.swim_control.specs.declared.serving.Served.{Served}
use Rattle.swim_control.specs.declared.serving.Served.TheVariants as ends
use Rattle.swim_control.specs.Commands.{said_by}
use Rattle.swim_control.specs.Desks.{Told, Answers}
use Rattle.swim_control.specs.Serving.{end_of_told}
use Rattle.swim_control.specs.Texts.{fault_text, stopping_text, told_text}
use Rattle.swim_control.specs.Turns.{end_of_answer, closed, Turned}

pub fault_turned : {S : Type 0} (asks : S → DeskCommand → Told → S → Type 0) (read : Result Said WordFault)
    (fault : WordFault) (now : S) (old new : Option (List ℕ)) (done : Bool) (result : Option Served) →
    Err fault ≡ read → Puts old new (fault_text (Words fault)) done → result ≡ closed done None →
    Turned asks (said_by read) now now old new result
fault_turned asks read fault now old new done result says put is =
    subst (λ (r : Result Said WordFault). Turned asks (said_by r) now now old new result) says
    (record { told = []; asked = refl; done = done; put = put; is = is })

pub stop_turned : {S : Type 0} (asks : S → DeskCommand → Told → S → Type 0) (read : Result Said WordFault) (now : S)
    (old new : Option (List ℕ)) (done : Bool) (result : Option Served) →
    Ok Stop ≡ read → Puts old new stopping_text done → result ≡ closed done (Some ends.Stopped) →
    Turned asks (said_by read) now now old new result
stop_turned asks read now old new done result says put is =
    subst (λ (r : Result Said WordFault). Turned asks (said_by r) now now old new result) says
    (record { told = []; asked = refl; done = done; put = put; is = is })

pub asks_turned : {S : Type 0} (asks : S → DeskCommand → Told → S → Type 0) (read : Result Said WordFault)
    (command : DeskCommand) (now after : S) (old new : Option (List ℕ)) (result : Option Served) →
    Ok (Asks command) ≡ read → Turned asks (Ok (Asks command)) now after old new result →
    Turned asks (said_by read) now after old new result
asks_turned asks read command now after old new result says turned =
    subst (λ (r : Result Said WordFault). Turned asks (said_by r) now after old new result) says turned

pub told_turned : {S : Type 0} (asks : S → DeskCommand → Told → S → Type 0) (command : DeskCommand) (told : Told)
    (now after : S) (old new : Option (List ℕ)) (done : Bool) (result : Option Served) →
    asks now command told after → Puts old new (told_text told) done → result ≡ closed done (end_of_told told) →
    Turned asks (Ok (Asks command)) now after old new result
told_turned asks command told now after old new done result asked put is =
    record { told = told ∷ []; asked = asked; done = done; put = put; is = is }

-- how serving ends with an answer is how it ends with what was told
pub end_told : (answer : Answer) → end_of_answer answer ≡ end_of_told (Answers answer)
end_told (answers.Joined place) = refl
end_told answers.Removed = refl
end_told (answers.Refused why) = refl
end_told answers.JournalFull = refl
end_told answers.NoMemory = refl
