-- What the connections of lives are answered, line by line, and which calls of a seat their lines become.
use Rattle.std.specs.Prelude.{◌≡◌, ℕ, ◌+◌, ◌-◌, ◌^◌, ◌<◌, min, List, [], ◌∷◌, ◌++◌, Some}
use Rattle.std.specs.List.{AllByRecursion}
use Rattle.swim_history.specs.declared.calls.Call.{Call}
use Rattle.swim_history.specs.declared.calls.Call.TheVariants as calls
use Rattle.swim_history.specs.declared.rows.Change.{Change}
use Rattle.swim_history.specs.declared.seats.Kept.{Kept}
use Rattle.swim_history.specs.Setting.{Setting}
use Rattle.swim_node.specs.Seats.{Seated}
use Rattle.swim_control.specs.declared.desks.Answer.{Answer}
use Rattle.swim_control.specs.declared.desks.Answer.TheVariants.{JournalFull, NoMemory}
use Rattle.swim_control.specs.declared.desks.DeskCommand.{DeskCommand}
use Rattle.swim_control.specs.declared.desks.DeskCommand.TheVariants.{Join, Remove}
use Rattle.swim_control.specs.declared.serving.Served.{Served}
use Rattle.swim_control.specs.Desks.{Told, Answers}
use Rattle.swim_control.specs.Serving.{IsServedKnown}
use Rattle.swim_control.specs.SideBySide.{AreApart, Brought, Called, IsHeard, Joins, Leads, calls_by}
use Rattle.swim_control.specs.Talks.{Talk, Talks}
use Rattle.swim_work.specs.Callers.{fresh_seat}
use Rattle.swim_desk.specs.Controlling.{Step, at_desk}
use Rattle.swim_desk.specs.Controlling.Step.{Came, Knocked, Turned}
use Rattle.swim_desk.specs.Desk.{Asks, Tells}

-- ---- calls of the desk, and of its seat

-- the calls of the seat that a join or a removal became, by its answer: one, whose reply the answer tells; or none, as
-- the node refused it
abbrev pub IsMade : Call → Answer → List Kept → Type 0
IsMade call JournalFull made = made ≡ []
IsMade call NoMemory made = made ≡ []
IsMade call answer made = (kept : Kept) × (made ≡ kept ∷ []) × (kept.call ≡ call) × Tells kept.reply answer

-- the calls of the seat that a command became, by what was told: a join and a removal are calls, and nothing else is
abbrev pub BecomesSo : DeskCommand → Told → List Kept → Type 0
BecomesSo (Join id peer) (Answers answer) made = IsMade (calls.Join id peer) answer made
BecomesSo (Remove id) (Answers answer) made = IsMade (calls.Remove id) answer made
BecomesSo command told made = made ≡ []

-- each of these calls of the desk, newest first, became its calls of the seat, which are these, oldest first
abbrev pub BecomeSo : List Called → List Kept → Type 0
BecomeSo [] made = made ≡ []
BecomeSo (c ∷ log) made =
    (before : List Kept) × (last : List Kept) × (made ≡ before ++ last) × BecomeSo log before
    × BecomesSo c.command c.told last

-- how many of them were refused for want of memory
abbrev pub unmade_by : Told → ℕ
unmade_by (Answers NoMemory) = 1
unmade_by told = 0

abbrev pub unmade_in : List Called → ℕ
unmade_in [] = 0
unmade_in (c ∷ log) = unmade_in log + unmade_by c.told

-- ---- connections

-- the whole lines of a connection so far were answered by its calls, one line after the other; and if serving it ended,
-- it was served to that end
pub record IsAnswered (b : Brought) (log : List Called) (t : Talk) : Type 0 where
  pub heard : IsHeard b log t
  pub ended : (end : Served) → t.end ≡ Some end →
      IsServedKnown (Joins t.id) (b.text t.id) t.left [] (calls_by t.id log) (b.old t.id) t.written end

-- all connections that have come so far were answered by these calls of desks, newest first, and there were no others
pub record AreAnswered (b : Brought) (log : List Called) (all : Talks) : Type 0 where
  pub served : AllByRecursion (IsAnswered b log) all.talks
  -- those that were closed, too, as they were then
  pub each : (id : ℕ) → id < all.count → (t : Talk) × (t.id ≡ id) × IsAnswered b log t
  pub apart : AreApart all.talks
  pub came : AllByRecursion (λ t. t.id < all.count) all.talks
  pub called : AllByRecursion (λ c. c.by < all.count) log

-- the connections that come in these steps, numbered from there, bring that
abbrev pub BringsSo : Brought → ℕ → List Step → Type 0
BringsSo b number [] = Unit {0}
BringsSo b number (Knocked fault ∷ steps) = BringsSo b number steps
BringsSo b number (Came left now ∷ steps) =
    (b.text number ≡ left) × (b.old number ≡ Some []) × BringsSo b (number + 1) steps
BringsSo b number (Turned now stand ∷ steps) = BringsSo b number steps

-- ---- a life

-- the connections of a life were answered by these calls of its desk, and by those of the desks before it; they are all
-- calls that the desk got, from the beginning of the life to its end; and each became its calls of the seat, in order,
-- which has no other
pub record AnswersLines (o : Setting) (limit : ℕ) (b : Brought) (log : List Called) (seen : List Change)
    (seat : Seated) (count : ℕ) (new : Talks) : Type 0 where
  pub more : List Called
  pub answered : AreAnswered b (more ++ log) new
  pub leads : Leads (Asks o limit) (at_desk (fresh_seat seat.number) [] 0) more (at_desk seat seen count)
  pub become : BecomeSo more seat.calls
  pub refused : count ≡ min (unmade_in more) (2 ^ 64 - 1)
