-- What a desk over a node does.
use Rattle.std.specs.Prelude.{◌≡◌, ◌⊎◌, ℕ, List, Some, IfSome}
use mathlib.Core.List.{IsPrefix}
use Rattle.swim_history.specs.declared.calls.Call.{Call}
use Rattle.swim_history.specs.declared.calls.Call.TheVariants as calls
use Rattle.swim_history.specs.declared.replies.Reply.{Reply}
use Rattle.swim_history.specs.declared.replies.Reply.TheVariants as replies
use Rattle.swim_history.specs.declared.rows.Change.{Change}
use Rattle.swim_history.specs.declared.seats.Kept.{Kept}
use Rattle.swim_history.specs.Setting.{Setting}
use Rattle.swim_history.specs.Changes.{table_after}
use Rattle.swim_history.specs.Reasons.{refusal_number}
use Rattle.swim_control.specs.declared.desks.Answer.{Answer}
use Rattle.swim_control.specs.declared.desks.Answer.TheVariants.{Joined, Removed, Refused, JournalFull, NoMemory}
use Rattle.swim_control.specs.declared.desks.DeskCommand.{DeskCommand}
use Rattle.swim_control.specs.declared.desks.DeskCommand.TheVariants.{List as Lists, Join, Remove, Gap, Stats}
use Rattle.swim_control.specs.declared.desks.DeskCommand.TheVariants.{Reload}
use Rattle.swim_control.specs.Desks.{Told, Shows, Measures, Answers, Counts, Reloads}
use Rattle.swim_node.specs.declared.receipts.CallFault.{CallFault}
use Rattle.swim_node.specs.declared.receipts.CallFault.TheVariants as faults
use Rattle.swim_node.specs.Seats.{Seated}
use Rattle.swim_node.specs.News.{IsLongerOf}
use Rattle.swim_node.specs.Answered.{IsAnswered, IsGapAtMoment, MayRefuse, refused}
use Rattle.swim_work.specs.Ends.{both}

-- what a contract sees of a desk: its seat, the changes that its viewer has seen, and how many of its calls were
-- refused for want of memory
pub record AtDesk : Type 0 where
  pub seat : Seated
  pub seen : List Change
  pub refused : ℕ

-- there is an answer that tells the reply
abbrev pub IsTold : Reply → Type 0
IsTold (replies.Joined place) = Unit {0}
IsTold replies.Removed = Unit {0}
IsTold (replies.Refused why) = Unit {0}
IsTold reply = ⊥

-- the answer that tells a reply
abbrev pub Tells : Reply → Answer → Type 0
Tells (replies.Joined place) answer = answer ≡ Joined place
Tells replies.Removed answer = answer ≡ Removed
Tells (replies.Refused why) answer = answer ≡ Refused (refusal_number why)
Tells reply answer = ⊥

-- a call was answered: it is the next one of the seat, its reply is told, and its news was learnt
pub record IsDone (o : Setting) (old : AtDesk) (call : Call) (answer : Answer) (new : AtDesk) : Type 0 where
  pub kept : Kept
  pub news : List Change
  pub answered : IsAnswered o old.seat new.seat call kept news
  pub told : Tells kept.reply answer
  pub learnt : IsLongerOf old.seen news new.seen
  pub refused : new.refused ≡ old.refused

-- a call was refused: as the journal had as many entries as it may have, which the seat knows then, or for want of
-- memory, which is counted
abbrev pub IsRefused : Setting → ℕ → AtDesk → Answer → AtDesk → Type 0
IsRefused o limit old JournalFull new =
    MayRefuse o limit old.seat faults.JournalFull × (new ≡ record old { seat = refused faults.JournalFull old.seat })
IsRefused o limit old NoMemory new =
    MayRefuse o limit old.seat faults.NoMemory × (new ≡ record old { refused = both old.refused 1 })
IsRefused o limit old answer new = ⊥

-- what is told of a refusal, and how many calls were refused for want of memory before and after
abbrev pub TellsRefusal : CallFault → Answer → ℕ → ℕ → Type 0
TellsRefusal (faults.Wire fault) answer old new = ⊥
TellsRefusal faults.JournalFull answer old new = (answer ≡ JournalFull) × (new ≡ old)
TellsRefusal faults.NoMemory answer old new = (answer ≡ NoMemory) × (new ≡ both old 1)

-- a call got this answer
abbrev pub Calls : Setting → ℕ → AtDesk → Call → Answer → AtDesk → Type 0
Calls o limit old call answer new = IsDone o old call answer new ⊎ IsRefused o limit old answer new

-- what a command does, and what it is told
abbrev pub Asks : Setting → ℕ → AtDesk → DeskCommand → Told → AtDesk → Type 0
Asks o limit old Lists (Shows table) new =
    (new ≡ record old { seen = new.seen }) × IsPrefix old.seen new.seen
    × IfSome table (λ rows. rows.items ≡ table_after o new.seen)
Asks o limit old (Gap member) (Measures gap) new = (new ≡ old) × IsGapAtMoment o old.seat member gap
Asks o limit old Stats (Counts text) new = new ≡ old
Asks o limit old Reload (Reloads text) new = new ≡ old
Asks o limit old (Join id peer) (Answers answer) new = Calls o limit old (calls.Join id peer) answer new
Asks o limit old (Remove id) (Answers answer) new = Calls o limit old (calls.Remove id) answer new
Asks o limit old command told new = ⊥

-- a member table that is told is one after a beginning of these changes
abbrev pub ShowsOf : Setting → List Change → Told → Type 0
ShowsOf o seen (Shows (Some table)) =
    (log : List Change) × IsPrefix log seen × (table.items ≡ table_after o log)
ShowsOf o seen told = Unit {0}
