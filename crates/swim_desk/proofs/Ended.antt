-- By which step the controller ends.
use Rattle.std.proofs.Common.{◌≡◌, ◌≢◌, ℕ, Bool, true, false, List, [], ◌∷◌, length, Option, Some, None, refl, sym}
use Rattle.std.proofs.Common.{subst, arith, if◌then◌else◌, nat_lt}
use Rattle.std.proofs.lemmas.Option.{same_Some}
use Rattle.swim_history.specs.declared.rows.Change.{Change}
use Rattle.swim_history.specs.Setting.{Setting}
use Rattle.swim_node.specs.Seats.{Seated}
use Rattle.swim_control.specs.Talks.{Talk, Talks}
use Rattle.swim_work.specs.declared.counts.Why.{Why}
use Rattle.swim_work.specs.declared.counts.Why.TheVariants.{Socket}
use Rattle.swim_work.specs.declared.workers.End.{End}
use Rattle.swim_work.specs.Callers.{fresh_seat}
use Rattle.swim_work.specs.Turns.{EndsSo}
use Rattle.swim_desk.specs.Controlling.{AtControl, ControlsLife, ControlsNext, ShutsOut, Step, TakesStep, at_control}
use Rattle.swim_desk.specs.Controlling.{at_desk}
use Rattle.swim_desk.specs.Controlling.Step.{Came, Knocked, Turned}
use Rattle.swim_desk.specs.Ending.{EndsByTurn}

-- a row of faults ends it for its door, or doesn't
by_faults : (why : Why) (is_short : Bool) → Some why ≡ (if is_short then None else Some Socket) → why ≡ Socket
by_faults why true is = absurd (cc is)
by_faults why false is = same_Some why Socket is

shut_out : (why : Why) (talks : List Talk) (old new : ℕ) → ShutsOut (length talks) old (Some why) new → why ≡ Socket
shut_out why [] old new is = by_faults why (nat_lt new 16) (is.none refl).1
shut_out why (t ∷ talks) old new is = absurd (cc (is.some (omega arith)).1)

step_ended : (o : Setting) (limit : ℕ) (step : Step) (old : AtControl) (why : Why) (new : AtControl) → why ≢ Socket →
    TakesStep o limit step old (Some why) new → EndsByTurn o limit why new.connections
step_ended o limit (Knocked true) old why new other is =
    absurd (other (shut_out why old.connections.talks old.row new.row is.1))
step_ended o limit (Knocked false) old why new other is = absurd (cc is.1.1)
step_ended o limit (Came left now) old why new other is = absurd (cc is.1)
step_ended o limit (Turned now stand) old why new other is =
    (now, stand, old.connections, old.desk, new.desk, is.0, sym is.3)

turns_ended : (o : Setting) (limit : ℕ) (turns : List (List Step)) (old : AtControl) (why : Why) (new : AtControl) →
    why ≢ Socket → EndsSo (ControlsNext o limit) turns old (Some why) new →
    EndsByTurn o limit why new.connections
turns_ended o limit turns old why new other is =
    let steps = is.5.1 in step_ended o limit steps.1 steps.2 why new other steps.5

pub life_ended : (o : Setting) (limit : ℕ) (before after : Option (List Bool)) (old new : Talks) (seat : Seated)
    (seen : List Change) (end : End) (why : Why) → ControlsLife o limit before after old seat seen end new →
    end.why ≡ Some why → why ≢ Socket → EndsByTurn o limit why new
life_ended o limit before after old new seat seen end why life ends other =
    let first = at_control old (at_desk (fresh_seat seat.number) [] 0) 0 in
    let last = at_control new (at_desk seat seen end.counts.refused) life.row in
    turns_ended o limit life.controlled.turns first why last other
    (subst (λ (e : Option Why). EndsSo (ControlsNext o limit) life.controlled.turns first e last) ends
    life.controlled.ends)
