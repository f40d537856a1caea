-- Connections stay answered line by line, step by step, and their lines become the calls of the seat.
use Rattle.std.proofs.Common.{◌≡◌, ℕ, ◌+◌, ◌-◌, ◌^◌, min, Bool, List, [], ◌∷◌, ◌++◌, Option, Some, None, refl, sym}
use Rattle.std.proofs.Common.{subst, ap, append_assoc, arith}
use Rattle.swim_history.specs.declared.rows.Change.{Change}
use Rattle.swim_history.specs.Setting.{Setting}
use Rattle.swim_node.specs.Seats.{Seated}
use Rattle.swim_control.specs.declared.desks.DeskCommand.{DeskCommand}
use Rattle.swim_control.specs.Desks.{Told}
use Rattle.swim_control.specs.SideBySide.{Brought, Called, Leads}
use Rattle.swim_control.specs.Talks.{Talks}
use Rattle.swim_work.specs.declared.counts.Why.{Why}
use Rattle.swim_work.specs.declared.workers.End.{End}
use Rattle.swim_work.specs.Callers.{fresh_seat}
use Rattle.swim_work.specs.Turns.{EndsSo, Turns}
use Rattle.swim_desk.specs.Connected.{AnswersLines, AreAnswered, BecomeSo, BringsSo, unmade_in}
use Rattle.swim_desk.specs.Controlling.{AtControl, ControlsLife, ControlsNext, Step, TakesStep, at_control, at_desk}
use Rattle.swim_desk.specs.Controlling.{with_newcomer}
use Rattle.swim_desk.specs.Controlling.Step.{Came, Knocked, Turned}
use Rattle.swim_desk.specs.Desk.{Asks, AtDesk}
use Rattle.swim_desk.proofs.Answered.{come_answered, turn_answered}
use Rattle.swim_desk.proofs.Becoming.{led_made}

-- ---- steps, whether or not one of them ended the controller

abbrev pub TakesSteps : Setting → ℕ → List Step → AtControl → AtControl → Type 0
TakesSteps o limit [] old new = new ≡ old
TakesSteps o limit (step ∷ steps) old new =
    (mid : AtControl) × (end : Option Why) × TakesStep o limit step old end mid × TakesSteps o limit steps mid new

steps_both : (o : Setting) (limit : ℕ) (xs ys : List Step) (a b c : AtControl) → TakesSteps o limit xs a b →
    TakesSteps o limit ys b c → TakesSteps o limit (xs ++ ys) a c
steps_both o limit [] ys a b c is then = subst (λ s. TakesSteps o limit ys s c) is then
steps_both o limit (x ∷ xs) ys a b c is then = (is.0, is.1, is.2, steps_both o limit xs ys is.0 b c is.3 then)

steps_of : (o : Setting) (limit : ℕ) (steps : List Step) (old new : AtControl) →
    Turns (TakesStep o limit) steps old new → TakesSteps o limit steps old new
steps_of o limit [] old new is = is
steps_of o limit (step ∷ steps) old new is = (is.0, None, is.1, steps_of o limit steps is.0 new is.2)

ended_steps : (o : Setting) (limit : ℕ) (steps : List Step) (old : AtControl) (end : Option Why) (new : AtControl) →
    EndsSo (TakesStep o limit) steps old end new → TakesSteps o limit steps old new
ended_steps o limit steps old None new is = steps_of o limit steps old new is
ended_steps o limit steps old (Some why) new is =
    subst (λ (l : List Step). TakesSteps o limit l old new) (sym is.3)
    (steps_both o limit is.0 (is.1 ∷ []) old is.2 new (steps_of o limit is.0 old is.2 is.4)
    (new, Some why, is.5, refl))

-- the steps of turns
steps_in : List (List Step) → List Step
steps_in [] = []
steps_in (steps ∷ turns) = steps ++ steps_in turns

turn_steps : (o : Setting) (limit : ℕ) (turns : List (List Step)) (old new : AtControl) →
    Turns (ControlsNext o limit) turns old new → TakesSteps o limit (steps_in turns) old new
unfolding steps_in
turn_steps o limit [] old new is = is
turn_steps o limit (steps ∷ turns) old new is =
    steps_both o limit steps (steps_in turns) old is.0 new (ended_steps o limit steps old None is.0 is.1.1)
    (turn_steps o limit turns is.0 new is.2)

all_steps : (o : Setting) (limit : ℕ) (turns : List (List Step)) (old : AtControl) (end : Option Why)
    (new : AtControl) → EndsSo (ControlsNext o limit) turns old end new →
    (steps : List Step) × TakesSteps o limit steps old new
all_steps o limit turns old None new is = (steps_in turns, turn_steps o limit turns old new is)
all_steps o limit turns old (Some why) new is = (
  steps_in is.0 ++ is.1,
  steps_both o limit (steps_in is.0) is.1 old is.2 new (turn_steps o limit is.0 old is.2 is.4)
      (ended_steps o limit is.1 is.2 (Some why) new is.5.1),
)

-- ---- one step after the other

-- some calls, and then others, newest first
pub led_both : {S : Type 0} (asks : S → DeskCommand → Told → S → Type 0) (more log : List Called) (a b c : S) →
    Leads asks a log b → Leads asks b more c → Leads asks a (more ++ log) c
led_both asks [] log a b c is then = subst (λ s. Leads asks a log s) (sym then) is
led_both asks (x ∷ more) log a b c is (mid, (led, asked)) = (mid, (led_both asks more log a b mid is led, asked))

-- with these steps the desk gets calls, or none, and all connections stay answered
abbrev StayAnswered : Setting → ℕ → List Step → Talks → AtDesk → Talks → AtDesk → Type 0
StayAnswered o limit steps old desk new after =
    (b : Brought) (log : List Called) → BringsSo b old.count steps → AreAnswered b log old →
    (more : List Called) × Leads (Asks o limit) desk more after × AreAnswered b (more ++ log) new

-- what is said of equal connections and desks is the same
of_same : (o : Setting) (limit : ℕ) (steps : List Step) (old mid : Talks) (desk there : AtDesk) (new : Talks)
    (after : AtDesk) → mid ≡ old → there ≡ desk → StayAnswered o limit steps mid there new after →
    StayAnswered o limit steps old desk new after
of_same o limit steps old mid desk there new after same at is =
    subst (λ (c : Talks). StayAnswered o limit steps c desk new after) same
    (subst (λ (d : AtDesk). StayAnswered o limit steps mid d new after) at is)

stay_answered : (o : Setting) (limit : ℕ) (steps : List Step) (old new : AtControl) →
    TakesSteps o limit steps old new → StayAnswered o limit steps old.connections old.desk new.connections new.desk
stay_answered o limit [] old new is = λ b log brings all. (
  [],
  ap (λ (s : AtControl). s.desk) is,
  subst (λ (s : AtControl). AreAnswered b log s.connections) (sym is) all,
)
stay_answered o limit (Knocked fault ∷ steps) old new is =
    of_same o limit steps old.connections is.0.connections old.desk is.0.desk new.connections new.desk
    (ap (λ (s : AtControl). s.connections) is.2.0) (ap (λ (s : AtControl). s.desk) is.2.0)
    (stay_answered o limit steps is.0 new is.3)
stay_answered o limit (Came left now ∷ steps) old new is =
    let come = with_newcomer left now old.connections in
    let rest : StayAnswered o limit steps come old.desk new.connections new.desk =
    of_same o limit steps come is.0.connections old.desk is.0.desk new.connections new.desk
    (ap (λ (s : AtControl). s.connections) is.2.0) (ap (λ (s : AtControl). s.desk) is.2.0)
    (stay_answered o limit steps is.0 new is.3) in
    λ b log brings all.
    rest b log brings.2 (come_answered b log old.connections left now brings.0 brings.1 all)
stay_answered o limit (Turned now stand ∷ steps) old new is = λ b log brings all.
    let mid = is.0 in
    let turn = turn_answered (Asks o limit) now stand old.connections mid.connections old.desk mid.desk b log is.2.0
    is.2.1 all in
    let rest = stay_answered o limit steps mid new is.3 b (turn.0 ++ log)
    (subst (λ (n : ℕ). BringsSo b n steps) (sym is.2.1) brings) turn.2 in (
      rest.0 ++ turn.0,
      led_both (Asks o limit) rest.0 turn.0 old.desk mid.desk new.desk turn.1 rest.1,
      subst (λ (l : List Called). AreAnswered b l new.connections) (sym (append_assoc rest.0 turn.0 log)) rest.2,
    )

-- ---- a life

lines_answered : (o : Setting) (limit : ℕ) (b : Brought) (log : List Called) (seen : List Change) (seat : Seated)
    (count : ℕ) (new : Talks) (more : List Called) →
    Leads (Asks o limit) (at_desk (fresh_seat seat.number) [] 0) more (at_desk seat seen count) →
    AreAnswered b (more ++ log) new → AnswersLines o limit b log seen seat count new
lines_answered o limit b log seen seat count new more leads answered =
    let is = led_made o limit more (at_desk (fresh_seat seat.number) [] 0) (at_desk seat seen count) leads in
    record {
      more = more;
      answered = answered;
      leads = leads;
      become = subst (BecomeSo more) (sym is.calls) is.become;
      refused =
          let counted : count ≡ min (0 + unmade_in more) (2 ^ 64 - 1) = is.refused (omega arith) in
          omega (arith, counted);
    }

-- each line of a life became its calls
pub life_answered : (o : Setting) (limit : ℕ) (before after : Option (List Bool)) (old new : Talks) (seat : Seated)
    (seen : List Change) (end : End) (life : ControlsLife o limit before after old seat seen end new) →
    (steps : List Step)
    × TakesSteps o limit steps (at_control old (at_desk (fresh_seat seat.number) [] 0) 0)
    (at_control new (at_desk seat seen end.counts.refused) life.row)
    × ((b : Brought) (log : List Called) → BringsSo b old.count steps → AreAnswered b log old →
    AnswersLines o limit b log seen seat end.counts.refused new)
life_answered o limit before after old new seat seen end life =
    let all = all_steps o limit life.controlled.turns _ end.why _ life.controlled.ends in
    let stay = stay_answered o limit all.0 _ _ all.1 in (
      all.0,
      all.1,
      λ b log brings was.
          let is = stay b log brings was in
          lines_answered o limit b log seen seat end.counts.refused new is.0 is.1 is.2,
    )
