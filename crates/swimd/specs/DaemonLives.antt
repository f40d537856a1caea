-- The lives of a daemon: what came in by its gates in each of them, what went out, and who was told.
use Rattle.std.specs.Prelude.{◌≡◌, ◌⊎◌, ℕ, Bool, List, [], ◌∷◌, ◌++◌, Option, Some}
use Rattle.std.specs.List.{AllByRecursion}
use mathlib.Core.List.{IsPrefix}
use Rattle.swim_history.specs.declared.rows.Change.{Change}
use Rattle.swim_history.specs.declared.seats.Kept.{Kept}
use Rattle.swim_history.specs.Changes.{changes}
use Rattle.swim_history.specs.Seats.{kept_of}
use Rattle.swim_history.specs.Setting.{Setting}
use Rattle.swim_trail.specs.Growing.{Grows}
use Rattle.swim_keys.specs.Sealing.{Keyring}
use Rattle.swim_guard.specs.Fenced.{heard_over}
use Rattle.swim_guard.specs.Guarded.{Sent, heard_by, posted_by}
use Rattle.swim_node.specs.Seats.{Seated}
use Rattle.swim_control.specs.Desks.{Told}
use Rattle.swim_control.specs.SideBySide.{Brought, Called}
use Rattle.swim_control.specs.Talks.{Talks}
use Rattle.swim_work.specs.declared.paces.Beat.{Beat}
use Rattle.swim_work.specs.declared.workers.End.{End}
use Rattle.swim_work.specs.Ends.{both}
use Rattle.swim_work.specs.Gates.{Received}
use Rattle.swim_work.specs.Posts.{HasSent, Posted, starts_in}
use Rattle.swim_receiver.specs.declared.rejoining.Returning.{Returning}
use Rattle.swim_receiver.specs.Datagrams.{AreHeard, datagrams_in}
use Rattle.swim_receiver.specs.Happenings.{Happening}
use Rattle.swim_receiver.specs.Rejoining.{IsOfSame, IsReturning}
use Rattle.swim_ticker.specs.Knocking.{HasKnocked}
use Rattle.swim_ticker.specs.Ticks.{AreTicked, ticks_in}
use Rattle.swim_desk.specs.Connected.{AnswersLines, AreAnswered, BecomeSo, BringsSo}
use Rattle.swim_desk.specs.Controlling.{Step}
use Rattle.swim_desk.specs.Desk.{ShowsOf}
use Rattle.swim_desk.specs.Given.{AnswersGiven, AreAnsweredSoFar}
use Rattle.swim_crew.specs.declared.pasts.LivesEnd.{LivesEnd}
use Rattle.swim_crew.specs.declared.pasts.Past.{Past}
use Rattle.swim_crew.specs.declared.pasts.Terms.{Terms}
use Rattle.swim_crew.specs.Crews.{Stand}
use Rattle.swim_crew.specs.Lives.{AreEndedByLife, number_after}
use Rattle.swim_recorder.specs.declared.journal_recorder.JournalRecorder.{JournalRecorder}
use Rattle.swim_recorder.specs.Recording.{at_recorder}
use Rattle.swim_keeper.specs.declared.keepers.LifeKeeper.{LifeKeeper}
use Rattle.swim_keeper.specs.Keeping.{Outlets, at_keeper}
use Rattle.swim_keeper.specs.Told.{AtLives, EachLife, IsAnnounced, IsDrawnLife, IsKept, IsWithout, at_lives}
use Rattle.swimd.specs.DaemonEnds.{EndsControlling, EndsHearing, EndsTicking}

-- what is seen of a receiver: what its line gave so far, and the socket below that; what its post was handed, and the
-- socket below that; and what it remembers of members that come back
pub record AtReceiving : Type 0 where
  pub received : Option (List Received)
  pub socket : Option (List Received)
  pub posted : Option (List Posted)
  pub went : Option (List Posted)
  pub returning : Returning

-- and of a ticker: the beats of its pace, what its post and the post of its knocks were handed, and the socket below
-- each, each N that its lookup answered so far (there is a knock at each N-th start of a period), and how many knocks
-- there were
pub record AtTicking : Type 0 where
  pub beats : Option (List Beat)
  pub posted : Option (List Posted)
  pub went : Option (List Posted)
  pub knocked : Option (List Posted)
  pub knocks_went : Option (List Posted)
  pub answered : List ℕ
  pub knocks : ℕ

-- and of a controller: of each answer of its door whether it was a fault, and the connections of operators
pub record AtControlling : Type 0 where
  pub faults : Option (List Bool)
  pub connections : Talks

abbrev pub at_receiving : Option (List Received) → Option (List Received) → Option (List Posted) →
    Option (List Posted) → Returning → AtReceiving
at_receiving received socket posted went returning =
    record { received = received; socket = socket; posted = posted; went = went; returning = returning }

abbrev pub at_ticking : Option (List Beat) → Option (List Posted) → Option (List Posted) → Option (List Posted) →
    Option (List Posted) → List ℕ → ℕ → AtTicking
at_ticking beats posted went knocked knocks_went answered knocks = record {
  beats = beats;
  posted = posted;
  went = went;
  knocked = knocked;
  knocks_went = knocks_went;
  answered = answered;
  knocks = knocks;
}

abbrev pub at_controlling : Option (List Bool) → Talks → AtControlling
at_controlling faults connections = record { faults = faults; connections = connections }

-- what is seen of a daemon between two lives: those who are told of lives, its receiver, its ticker, and its controller
pub record AtDaemon : Type 0 where
  pub told : AtLives
  pub receiving : AtReceiving
  pub ticking : AtTicking
  pub controlling : AtControlling

abbrev pub told_by : {W F H S V Q E I Y : Type 0} → Outlets W F H S V Y → LifeKeeper W F H S →
    JournalRecorder V Q E I Y → AtLives
told_by out k d = at_lives (at_keeper out k) (at_recorder out.heard d)

abbrev pub at_daemon : {A B C D K : Type 0} → (K → D → AtLives) → (A → AtReceiving) → (B → AtTicking) →
    (C → AtControlling) → Stand A B C D K → AtDaemon
at_daemon told receiving ticking controlling s = record {
  told = told s.keeper s.crew.recorder;
  receiving = receiving s.crew.first;
  ticking = ticking s.crew.second;
  controlling = controlling s.crew.third;
}

-- nothing came in or went out yet, and a lookup was asked nothing
abbrev pub none_received : Returning → AtReceiving
none_received returning = at_receiving (Some []) (Some []) (Some []) (Some []) returning

abbrev pub none_ticked : AtTicking
none_ticked = at_ticking (Some []) (Some []) (Some []) (Some []) (Some []) [] 0

abbrev pub none_connected : Talks
none_connected = record { talks = []; count = 0; closed = [] }

-- no life was announced or had a file, nobody watches, and the reporter heard of none
pub record IsUntold (told : AtLives) : Type 0 where
  pub begun : told.keeper.begun ≡ Some []
  pub opened : told.keeper.opened ≡ Some []
  pub filed : told.keeper.filed ≡ Some []
  pub gallery : told.gallery ≡ []
  pub heard : told.heard ≡ Some []

-- a daemon of this opening before its first life: nothing has happened to members that come back
pub record IsBeginning (opening : Setting) (d : AtDaemon) : Type 0 where
  pub received : d.receiving ≡ none_received d.receiving.returning
  pub returning : IsReturning d.receiving.returning []
  pub me : d.receiving.returning.rejoiner.me ≡ opening.me
  pub ticked : d.ticking ≡ none_ticked
  pub knocked : d.controlling.faults ≡ Some []
  pub connected : d.controlling.connections ≡ none_connected
  pub told : IsUntold d.told

-- all that the line gave so far is all that the socket gave so far, each answer in its place: as it was, or nothing, if
-- it didn't pass the fence; and of that the text by the keys, if there is one
abbrev pub IsGuarded : AtReceiving → Type 0
IsGuarded r =
    (passed : List Bool) × (keys : List (Option Keyring)) × (r.received ≡ heard_by (heard_over r.socket passed) keys)

-- all that a post was handed so far is all that the socket was handed so far, each in its place: the text that it was
-- handed, with its tag by the first of these keys, where there are some
abbrev pub IsSigned : Option (List Posted) → Option (List Posted) → Type 0
IsSigned posted went = (sent : List Sent) × (posted ≡ posted_by went sent)

-- each datagram that the line gave in a life, in order, became one call of this seat, behind which whoever it shows to
-- be there again was joined, by all that happened to members until then, and the seat made no other call; or it was
-- refused, and counted. In what happened, the tables of this life are those after beginnings of these changes, one
-- after the other. And the post was handed the datagrams of the replies, each once, in order. Why the receiver ended is
-- told by all that the line gave, whatever happened to members before. And what the line gave came by the socket
pub record Receives (o : Setting) (all : List Change) (seat : Seated) (end : End) (old new : AtReceiving) : Type 0 where
  pub given : List Received
  pub grown : Grows old.received new.received given
  pub heard : AreHeard o old.returning (datagrams_in given) seat end.counts all new.returning
  pub same : IsOfSame old.returning new.returning
  pub guarded : IsGuarded new
  pub signed : IsSigned new.posted new.went
  pub sent : HasSent o seat.calls old.posted new.posted end.counts.unsent
  pub ends : (h : List Happening) → IsReturning old.returning h →
      (answers : List Received) × Grows old.received new.received answers × EndsHearing seat end.why answers

-- each tick of the pace, in order, became one call of this seat, which made no other, or was refused, which is counted
-- unless the journal was full; the post was handed the datagrams of the replies, each once, in order; and that of the
-- knocks the knocks at the starts of periods that these calls began, each once, in order, by what a viewer saw and a
-- lookup answered at these: each time the member table after a beginning of these changes, and one N. Why the ticker
-- ended is told by all beats
pub record Ticks (o : Setting) (all : List Change) (seat : Seated) (end : End) (old new : AtTicking) : Type 0 where
  pub given : List Beat
  pub grown : Grows old.beats new.beats given
  pub ticked : AreTicked (ticks_in given) seat.calls end.counts
  pub sent : HasSent o seat.calls old.posted new.posted end.counts.unsent
  pub knocks : ℕ
  pub knocked : HasKnocked o (starts_in seat.calls) all old.answered new.answered old.knocked new.knocked knocks
  pub counted : new.knocks ≡ both old.knocks knocks
  pub signed : IsSigned new.posted new.went
  pub knocks_signed : IsSigned new.knocked new.knocks_went
  pub ends : (beats : List Beat) × Grows old.beats new.beats beats × EndsTicking seat end.why beats

-- each whole line that a connection gave so far, in order, became exactly its calls of this seat, with the reply that
-- it was answered, and the seat made no other, if the lines of lives before were answered so; and the same of whatever
-- connections brought. What the desk's viewer had seen in the end is a beginning of these changes. Why the controller
-- ended is told by all answers of the door, and by the connections
pub record Controls (o : Setting) (limit : ℕ) (all : List Change) (seat : Seated) (end : End)
    (old new : AtControlling) : Type 0 where
  pub seen : List Change
  pub begins : IsPrefix seen all
  pub steps : List Step
  pub answered : (b : Brought) (log : List Called) → BringsSo b old.connections.count steps →
      AreAnswered b log old.connections → AnswersLines o limit b log seen seat end.counts.refused new.connections
  pub given : (log : List Called) → AreAnsweredSoFar log old.connections →
      AnswersGiven o limit log seen seat end.counts.refused new.connections
  pub faults : List Bool
  pub knocked : Grows old.faults new.faults faults
  pub ends : EndsControlling o limit end.why faults new.connections

-- a life of this number from an opening: its journal is one history of three seats, each of which made the calls for
-- what came in by its gate, and ended for what came in by that; and it was told
pub record IsDaemonLife (fresh : Option (List ℕ)) (terms : Terms) (life : ℕ) (o : Setting) (past : Past)
    (old new : AtDaemon) : Type 0 where
  pub lived : IsDrawnLife terms life o past
  pub received : Receives o (changes o past.journal.past) lived.one past.ends.first old.receiving new.receiving
  pub ticked : Ticks o (changes o past.journal.past) lived.two past.ends.second old.ticking new.ticking
  pub controlled : Controls o terms.limit (changes o past.journal.past) lived.three past.ends.third old.controlling
      new.controlling
  pub kept : IsKept fresh terms life o past old.told new.told

-- the calls of the third seats of lives, which come newest first, oldest call first: those of operators
abbrev pub operators_calls : List Past → List Kept
operators_calls [] = []
operators_calls (past ∷ before) = operators_calls before ++ kept_of 2 past.journal.past

-- that was told in one of these lives: a member table is one after a beginning of the changes of that life
abbrev pub WasTold : List Past → Told → Type 0
WasTold [] told = ⊥
WasTold (past ∷ before) told =
    ShowsOf past.journal.opening (changes past.journal.opening past.journal.past) told ⊎ WasTold before told

-- all that the connections of lives gave was answered by these calls of the desks of the lives, and by others before
-- them; each became its calls of a third seat, in order, which have no others; and was told in one of the lives
pub record AnswersLives (log : List Called) (lives : List Past) (new : Talks) : Type 0 where
  pub more : List Called
  pub answered : AreAnsweredSoFar (more ++ log) new
  pub become : BecomeSo more (operators_calls lives)
  pub told : AllByRecursion (λ c. WasTold lives c.told) more

-- lives, newest first, were lived from this opening, each as it went on from the one before, and they ended so; nothing
-- else came in, went out, or was told
pub record AreDaemonLives (fresh : Option (List ℕ)) (terms : Terms) (opening : Setting) (old new : AtDaemon)
    (end : LivesEnd) : Type 0 where
  pub lives : List Past
  pub after_lives : AtDaemon
  pub lived : EachLife (IsDaemonLife fresh terms) opening old lives after_lives
  pub ended : ((new ≡ after_lives) × AreEndedByLife lives end)
      ⊎ (IsWithout lives end × IsAnnounced (number_after lives) after_lives.told new.told
      × (new ≡ record after_lives { told = new.told }))
  pub lines : (log : List Called) → AreAnsweredSoFar log old.controlling.connections →
      AnswersLives log lives new.controlling.connections

-- the same, of a crew and its keeper of which that is seen
abbrev pub AreSeenLives : {X : Type 0} → (X → AtDaemon) → Option (List ℕ) → Terms → Setting → X → X → LivesEnd → Type 0
AreSeenLives view fresh terms opening old new end = AreDaemonLives fresh terms opening (view old) (view new) end
