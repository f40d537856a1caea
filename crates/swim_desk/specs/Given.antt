-- What connections gave so far, line by line: how it was answered, and which calls of a seat their lines became.
use Rattle.std.specs.Prelude.{◌≡◌, ℕ, ◌-◌, ◌^◌, ◌<◌, ◌==◌, min, List, [], ◌++◌, Some}
use Rattle.std.specs.List.{AllByRecursion, count_by}
use Rattle.swim_history.specs.declared.rows.Change.{Change}
use Rattle.swim_history.specs.Setting.{Setting}
use Rattle.swim_node.specs.Seats.{Seated}
use Rattle.swim_control.specs.Connections.{with_left}
use Rattle.swim_control.specs.SideBySide.{Brought, Called, Leads}
use Rattle.swim_control.specs.Talks.{Talk, Talks}
use Rattle.swim_work.specs.Callers.{fresh_seat}
use Rattle.swim_desk.specs.Connected.{BecomeSo, IsAnswered, unmade_in}
use Rattle.swim_desk.specs.Controlling.{at_desk}
use Rattle.swim_desk.specs.Desk.{Asks, ShowsOf}

-- a connection brings these bytes, and nothing was written for it before
abbrev pub brings : List ℕ → Brought
brings bytes = record { text = λ id. Some bytes; old = λ id. Some [] }

-- what a connection gave so far is known, and so is what was written for it, which was nothing when it came. The whole
-- lines of all that it gave were answered by its calls, one line after the other, and a part of the next was read; what
-- was written are these answers. If serving it ended, it was served to that end
pub record IsAnsweredSoFar (log : List Called) (t : Talk) : Type 0 where
  pub given : List ℕ
  pub is_given : t.given ≡ Some given
  pub written : List ℕ
  pub is_written : t.written ≡ Some written
  pub began : t.old ≡ Some []
  pub answered : IsAnswered (brings given) log (with_left [] t)

-- all connections that have come, those that were closed as they were then
abbrev pub all_come : Talks → List Talk
all_come all = all.talks ++ all.closed

-- what all connections that have come gave so far was answered by these calls of desks, newest first, and there were no
-- others
pub record AreAnsweredSoFar (log : List Called) (all : Talks) : Type 0 where
  pub served : AllByRecursion (IsAnsweredSoFar log) (all_come all)
  -- each number is that of one connection
  pub once : (id : ℕ) → id < all.count → count_by (λ t. t.id == id) (all_come all) ≡ 1
  pub came : AllByRecursion (λ t. t.id < all.count) (all_come all)
  pub called : AllByRecursion (λ c. c.by < all.count) log

-- what the connections of a life gave was answered by these calls of its desk, and by those of the desks before it;
-- they are all calls that the desk got, from the beginning of the life to its end; and each became its calls of the
-- seat, in order, which has no other. Each member table that was shown is one after a beginning of the changes that the
-- desk had seen in the end
pub record AnswersGiven (o : Setting) (limit : ℕ) (log : List Called) (seen : List Change) (seat : Seated)
    (count : ℕ) (new : Talks) : Type 0 where
  pub more : List Called
  pub answered : AreAnsweredSoFar (more ++ log) new
  pub leads : Leads (Asks o limit) (at_desk (fresh_seat seat.number) [] 0) more (at_desk seat seen count)
  pub become : BecomeSo more seat.calls
  pub refused : count ≡ min (unmade_in more) (2 ^ 64 - 1)
  pub shown : AllByRecursion (λ c. ShowsOf o seen c.told) more
