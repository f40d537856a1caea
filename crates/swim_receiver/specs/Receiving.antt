-- What the receiver does in a life.
use Rattle.std.specs.Prelude.{◌≡◌, ℕ, List, [], ◌∷◌, take, Option, None}
use Rattle.swim_wire.specs.Address.{Address}
use Rattle.swim_history.specs.declared.rows.Change.{Change}
use Rattle.swim_history.specs.Setting.{Setting}
use Rattle.swim_trail.specs.Growing.{Grows}
use Rattle.swim_node.specs.Seats.{Seated}
use Rattle.swim_work.specs.declared.counts.Why.{Why}
use Rattle.swim_work.specs.declared.lines.Got.{Got}
use Rattle.swim_work.specs.declared.lines.Got.TheVariants.{Datagram, Idle, Fault}
use Rattle.swim_work.specs.declared.workers.End.{End}
use Rattle.swim_work.specs.Ends.{end_at, one_fault_more}
use Rattle.swim_work.specs.Gates.{Received}
use Rattle.swim_work.specs.Callers.{fresh_seat, nothing}
use Rattle.swim_work.specs.Posts.{AtSender, HasSent, Posted, at_sender}
use Rattle.swim_work.specs.Turns.{EndsSo}
use Rattle.swim_receiver.specs.declared.rejoining.Returning.{Returning}
use Rattle.swim_receiver.specs.Happenings.{Happening}
use Rattle.swim_receiver.specs.Rejoining.{HearsAndJoins, IsOfSame, IsReturning, LearnsOn}
use Rattle.swim_receiver.specs.Showing.{AreShown}

-- what is true of a receiver between its turns: the caller that sends, how many faults the line gave in a row, what
-- happened to members that come back, and the changes that its viewer has seen
pub record AtReceiver (O : Type 0) : Type 0 where
  pub sender : AtSender O
  pub row : ℕ
  pub told : List Happening
  pub seen : List Change

abbrev pub at_receiver : {O : Type 0} → AtSender O → ℕ → List Happening → List Change → AtReceiver O
at_receiver sender row told seen = record { sender = sender; row = row; told = told; seen = seen }

-- what comes of an answer of the line: a datagram is heard, and whoever it shows to be there again is joined; a fault
-- counts, and any other answer ends the row
abbrev pub HearsGot : {O : Type 0} → Setting → ℕ → ℕ → List Happening → Got → List ℕ → AtReceiver O → Option Why →
    AtReceiver O → Type 0
HearsGot o limit me h (Datagram count source) bytes old end new =
    HearsAndJoins o limit me h (take count bytes) source old.sender end new.sender new.told × (new.row ≡ 0)
HearsGot o limit me h Idle bytes old end new =
    (new.sender ≡ old.sender) × (new.told ≡ h) × (new.row ≡ 0) × (end ≡ None)
HearsGot o limit me h Fault bytes old end new =
    (new.sender ≡ old.sender) × (new.told ≡ h) × (new.row ≡ one_fault_more old.row) × (end ≡ end_at new.row)

-- a turn, in which it may look at the member table by its viewer, learn of knocks, and which N is in force
abbrev pub HearsNext : {O : Type 0} → Setting → ℕ → ℕ → Received → AtReceiver O → Option Why → AtReceiver O → Type 0
HearsNext o limit me given old end new =
    (h : List Happening) × LearnsOn o old.seen new.seen old.told h
    × HearsGot o limit me h given.got given.bytes old end new

-- what a contract sees of it: the caller that sends, how many faults the line gave in a row, what the line gave so far,
-- what is remembered of members that come back, and the changes that the viewer has seen
pub record AtTurn (O : Type 0) : Type 0 where
  pub sender : AtSender O
  pub row : ℕ
  pub received : Option (List Received)
  pub returning : Returning
  pub seen : List Change

abbrev pub at_turn : {O : Type 0} → AtSender O → ℕ → Option (List Received) → Returning → List Change → AtTurn O
at_turn sender row received returning seen =
    record { sender = sender; row = row; received = received; returning = returning; seen = seen }

-- the line gave this answer, and it is what came of that, whatever happened to members before
pub record HasTurned {O : Type 0} (o : Setting) (limit : ℕ) (old : AtTurn O) (end : Option Why) (new : AtTurn O) : Type
    0 where
  pub given : Received
  pub grown : Grows old.received new.received (given ∷ [])
  pub turned : (h : List Happening) → IsReturning old.returning h →
      (told : List Happening) × IsReturning new.returning told
      × HearsNext o limit old.returning.rejoiner.me given (at_receiver old.sender old.row h old.seen) end
      (at_receiver new.sender new.row told new.seen)

-- turns, one for each answer of the line, whatever happened to members before
pub record HasHeard {O : Type 0} (o : Setting) (limit : ℕ) (old : AtTurn O) (end : Option Why) (new : AtTurn O) : Type
    0 where
  pub given : List Received
  pub grown : Grows old.received new.received given
  pub ends : (h : List Happening) → IsReturning old.returning h →
      (told : List Happening) × IsReturning new.returning told
      × EndsSo (HearsNext o limit old.returning.rejoiner.me) given (at_receiver old.sender old.row h old.seen) end
      (at_receiver new.sender new.row told new.seen)

-- what it owns: what its line gave and was shown so far, its post, and what it remembers of members that come back
pub record Owned (O : Type 0) : Type 0 where
  pub received : Option (List Received)
  pub listed : Option (List (List Address))
  pub post : O
  pub returning : Returning

abbrev pub owned : {O : Type 0} → Option (List Received) → Option (List (List Address)) → O → Returning → Owned O
owned received listed post returning =
    record { received = received; listed = listed; post = post; returning = returning }

-- what the receiver has done in a life: a turn for each answer of its line. Each datagram became the next call of its
-- seat, or was counted, and who came back was joined, by the tables after beginnings of the changes that its viewer had
-- seen in the end; its post was handed the datagrams of the replies to its seat's calls; and whatever the line was
-- shown are the members of tables after such beginnings
pub record HearsLife {O : Type 0} (posted : O → Option (List Posted)) (o : Setting) (limit : ℕ) (old : Owned O)
    (seat : Seated) (seen : List Change) (end : End) (new : Owned O) : Type 0 where
  pub row : ℕ
  pub heard : HasHeard o limit
      (at_turn (at_sender (fresh_seat seat.number) old.post nothing) 0 old.received old.returning []) end.why
      (at_turn (at_sender seat new.post end.counts) row new.received new.returning seen)
  pub sent : HasSent o seat.calls (posted old.post) (posted new.post) end.counts.unsent
  pub same : IsOfSame old.returning new.returning
  pub shown : AreShown o [] seen old.listed new.listed
