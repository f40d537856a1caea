-- What the controller does in a life, step by step.
use Rattle.std.specs.Prelude.{◌≡◌, ◌⊎◌, ℕ, ◌+◌, ◌-◌, ◌^◌, ◌<◌, ◌≤◌, Bool, true, false, List, [], ◌∷◌, ◌++◌, length}
use Rattle.std.specs.Prelude.{flat_map, Option, Some, None}
use Rattle.swim_history.specs.declared.rows.Change.{Change}
use Rattle.swim_history.specs.Setting.{Setting}
use Rattle.swim_trail.specs.Growing.{Grows}
use Rattle.swim_node.specs.Seats.{Seated}
use Rattle.swim_control.specs.declared.connections.Stand.{Stand}
use Rattle.swim_control.specs.Connections.{TakesTurn, newcomer}
use Rattle.swim_control.specs.Talks.{Talks}
use Rattle.swim_work.specs.declared.counts.Why.{Why}
use Rattle.swim_work.specs.declared.workers.End.{End}
use Rattle.swim_work.specs.Callers.{fresh_seat, nothing}
use Rattle.swim_work.specs.Ends.{end_at, one_fault_more}
use Rattle.swim_work.specs.Turns.{EndsSo}
use Rattle.swim_desk.specs.Desk.{Asks, AtDesk}
use Rattle.swim_desk.specs.Ending.{why_at}

-- a step: the door was asked, and was out of order or not; a connection came, which brings this; or one had its turn,
-- and stood so then
pub data Step : Type 0 where
  Knocked : (fault : Bool) → Step
  Came : (left : Option (List ℕ)) (now : ℕ) → Step
  Turned : (now : ℕ) (stand : Stand) → Step

-- what is true between two steps: the connections, the desk, and how many faults the door gave in a row
pub record AtControl : Type 0 where
  pub connections : Talks
  pub desk : AtDesk
  pub row : ℕ

abbrev pub at_control : Talks → AtDesk → ℕ → AtControl
at_control connections desk row = record { connections = connections; desk = desk; row = row }

-- what comes of a fault of the door while so many connections are open: it counts where there are none
pub record ShutsOut (connections old : ℕ) (end : Option Why) (new : ℕ) : Type 0 where
  pub some : 0 < connections → (new ≡ old) × (end ≡ None)
  pub none : connections ≡ 0 → (new ≡ one_fault_more old) × (end ≡ end_at new)

-- what comes of an answer of the door: one that is no fault ends the row
abbrev pub Knocks : ℕ → Bool → ℕ → Option Why → ℕ → Type 0
Knocks connections true old end new = ShutsOut connections old end new
Knocks connections false old end new = (new ≡ 0) × (end ≡ None)

-- the connections with one that came, and of which it is known that it gave nothing yet, and that nothing was written
-- for it
abbrev pub with_newcomer : Option (List ℕ) → ℕ → Talks → Talks
with_newcomer left now old = record {
  talks = old.talks ++ newcomer old.count left (Some []) (Some []) now ∷ [];
  count = old.count + 1;
  closed = old.closed;
}

-- what a step does, and whether the controller ends with it
abbrev pub TakesStep : Setting → ℕ → Step → AtControl → Option Why → AtControl → Type 0
TakesStep o limit (Knocked fault) old end new =
    (new ≡ record old { row = new.row }) × Knocks (length old.connections.talks) fault old.row end new.row
TakesStep o limit (Came left now) old end new =
    (new ≡ record old { connections = with_newcomer left now old.connections }) × (end ≡ None)
TakesStep o limit (Turned now stand) old end new =
    TakesTurn (Asks o limit) now stand old.connections new.connections old.desk new.desk
    × (new.connections.count ≡ old.connections.count) × (new.row ≡ old.row) × (end ≡ why_at stand)

-- of each answer of the door whether it was a fault, oldest first
abbrev pub knocks_in : List Step → List Bool
knocks_in [] = []
knocks_in (Knocked fault ∷ steps) = fault ∷ knocks_in steps
knocks_in (Came left now ∷ steps) = knocks_in steps
knocks_in (Turned now stand ∷ steps) = knocks_in steps

-- there is no place for another connection
abbrev pub AreFull : Talks → Type 0
AreFull connections = (64 ≤ length connections.talks) ⊎ (connections.count ≡ 2 ^ 64 - 1)

-- the door is asked once, and first of all; but where there is no place for a connection it isn't asked
abbrev pub AsksOnce : Talks → List Step → Type 0
AsksOnce connections steps =
    (AreFull connections × (knocks_in steps ≡ []))
    ⊎ ((fault : Bool) × (rest : List Step) × (steps ≡ Knocked fault ∷ rest) × (knocks_in rest ≡ []))

-- who came was let in, whatever the desk is: the first steps of a turn
pub record LetsIn (before after : Option (List Bool)) (old : Talks) (row : ℕ) (end : Option Why) (new : Talks)
    (later : ℕ) : Type 0 where
  pub steps : List Step
  pub once : AsksOnce old steps
  pub grown : Grows before after (knocks_in steps)
  pub ends : (o : Setting) (limit : ℕ) (desk : AtDesk) →
      EndsSo (TakesStep o limit) steps (at_control old desk row) end (at_control new desk later)

-- connections had turns
pub record Serves (o : Setting) (limit : ℕ) (old : AtControl) (end : Option Why) (new : AtControl) : Type 0 where
  pub steps : List Step
  pub none : knocks_in steps ≡ []
  pub ends : EndsSo (TakesStep o limit) steps old end new

-- a turn of the controller, of these steps
abbrev pub ControlsNext : Setting → ℕ → List Step → AtControl → Option Why → AtControl → Type 0
ControlsNext o limit steps old end new =
    AsksOnce old.connections steps × EndsSo (TakesStep o limit) steps old end new

-- a turn, in which the door answered so
pub record IsControlTurn (o : Setting) (limit : ℕ) (before after : Option (List Bool)) (old : AtControl)
    (end : Option Why) (new : AtControl) : Type 0 where
  pub steps : List Step
  pub grown : Grows before after (knocks_in steps)
  pub turned : ControlsNext o limit steps old end new

-- turns, in which the door answered so
pub record HasControlled (o : Setting) (limit : ℕ) (before after : Option (List Bool)) (old : AtControl)
    (end : Option Why) (new : AtControl) : Type 0 where
  pub turns : List (List Step)
  pub grown : Grows before after (flat_map knocks_in turns)
  pub ends : EndsSo (ControlsNext o limit) turns old end new

-- what a desk is: its seat, what its viewer has seen, and how many calls were refused for want of memory
abbrev pub at_desk : Seated → List Change → ℕ → AtDesk
at_desk seat seen refused = record { seat = seat; seen = seen; refused = refused }

-- what the controller has done in a life: turns, in each of which the door is asked and connections have turns of their
-- own. Each line that ended was answered, in the order of its connection, by what the node answered to the next call of
-- the seat, where it asked for one; and nothing else was counted than calls that were refused for want of memory. Its
-- viewer had seen these changes in the end
pub record ControlsLife (o : Setting) (limit : ℕ) (before after : Option (List Bool)) (old : Talks) (seat : Seated)
    (seen : List Change) (end : End) (new : Talks) : Type 0 where
  pub row : ℕ
  pub controlled : HasControlled o limit before after (at_control old (at_desk (fresh_seat seat.number) [] 0) 0)
      end.why (at_control new (at_desk seat seen end.counts.refused) row)
  pub counted : end.counts ≡ record nothing { refused = end.counts.refused }
