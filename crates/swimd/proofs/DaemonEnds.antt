-- For which reasons the workers of a daemon ended.
use Rattle.std.proofs.Common.{◌≡◌, ℕ, ◌+◌, ◌<◌, ◌≤◌, Bool, true, false, List, [], ◌∷◌, ◌++◌, length, replicate}
use Rattle.std.proofs.Common.{flat_map, Option, Some, None, refl, sym, ap, subst, ◌∙◌, inl, inr, arith}
use Rattle.std.proofs.Common.{if◌then◌else◌, nat_lt, append_assoc, append-nil, ltb-false}
use Rattle.std.proofs.lemmas.Grind.{flat_map-append}
use Rattle.std.proofs.lemmas.List.{replicate-append-replicate}
use Rattle.std.proofs.lemmas.Option.{same_Some}
use Rattle.swim_wire.specs.Address.{Address}
use Rattle.swim_wire.specs.Layout.{IsTextOf}
use Rattle.swim_wire.specs.Messages.{Message}
use Rattle.swim_history.specs.declared.calls.Call.{Call}
use Rattle.swim_history.specs.declared.calls.Call.TheVariants.{Hear, Tick}
use Rattle.swim_history.specs.declared.rows.Change.{Change}
use Rattle.swim_history.specs.declared.rows.Row.{Row}
use Rattle.swim_history.specs.Setting.{Setting}
use Rattle.swim_trail.specs.Growing.{Grows}
use Rattle.swim_trail.specs.Noted.{map_more}
use Rattle.swim_node.specs.declared.receipts.CallFault.{CallFault}
use Rattle.swim_node.specs.declared.receipts.CallFault.TheVariants as faults
use Rattle.swim_node.specs.Answered.{MayRefuse, MayRefuseBytes}
use Rattle.swim_node.specs.Seats.{Seated}
use Rattle.swim_control.specs.declared.connections.Stand.{Stand}
use Rattle.swim_control.specs.declared.connections.Stand.TheVariants as stands
use Rattle.swim_control.specs.declared.serving.Served.TheVariants as served
use Rattle.swim_control.specs.Talks.{Talk, Talks}
use Rattle.swim_work.specs.declared.counts.Why.{Why}
use Rattle.swim_work.specs.declared.counts.Why.TheVariants as whys
use Rattle.swim_work.specs.declared.lines.Got.{Got}
use Rattle.swim_work.specs.declared.lines.Got.TheVariants as gots
use Rattle.swim_work.specs.declared.paces.Beat.{Beat}
use Rattle.swim_work.specs.declared.paces.Beat.TheVariants as beats
use Rattle.swim_work.specs.declared.workers.End.{End}
use Rattle.swim_work.specs.Callers.{fresh_seat, nothing}
use Rattle.swim_work.specs.Calling.{Calls, Hears, IsRefused}
use Rattle.swim_work.specs.Ends.{end_at, one_fault_more}
use Rattle.swim_work.specs.Gates.{Received}
use Rattle.swim_work.specs.Posts.{AtSender, Posted, at_sender}
use Rattle.swim_work.specs.Turns.{EndsSo, TicksNext, Turns}
use Rattle.swim_receiver.specs.Happenings.{Happening}
use Rattle.swim_receiver.specs.Receiving.{AtReceiver, HearsGot, HearsLife, HearsNext, at_receiver}
use Rattle.swim_receiver.specs.Receiving.{Owned as Receiving}
use Rattle.swim_receiver.specs.Rejoining.{HearsAndJoins, IsReturning, JoinsThen}
use Rattle.swim_ticker.specs.Ticking.{TicksLife}
use Rattle.swim_ticker.specs.Ticking.{Owned as Ticking}
use Rattle.swim_desk.specs.Controlling.{AtControl, ControlsLife, ControlsNext, ShutsOut, Step, TakesStep, at_control}
use Rattle.swim_desk.specs.Controlling.{at_desk, knocks_in}
use Rattle.swim_desk.specs.Controlling.Step.{Came, Knocked, Turned}
use Rattle.swim_desk.specs.Ending.{EndsByTurn, why_at}
use Rattle.swim_desk.proofs.Ended.{life_ended}
use Rattle.swimd.specs.DaemonEnds.{EndWithFaults, EndsControlling, EndsFor, EndsHearing, EndsTicking, faults_in}
use Rattle.swimd.specs.DaemonEnds.{is_fault}

-- ---- faults in a row

-- none need to be in a row
none_in_row : (faults : List Bool) (count : ℕ) → count ≡ 0 → EndWithFaults count faults
none_in_row faults count none = (faults, 0, omega (arith, none), sym (append-nil faults))

one_more_fault : (faults : List Bool) (count more : ℕ) → more ≤ count + 1 → EndWithFaults count faults →
    EndWithFaults more (faults ++ true ∷ [])
one_more_fault faults count more within is = (
  is.0,
  is.1 + 1,
  omega (arith, within, is.2),
  ap (λ l. l ++ true ∷ []) is.3 ∙ append_assoc is.0 (replicate is.1 true) (true ∷ [])
      ∙ ap (λ l. is.0 ++ l) (replicate-append-replicate is.1 1 true),
)

fewer_faults : (faults : List Bool) (count fewer : ℕ) → fewer ≤ count → EndWithFaults count faults →
    EndWithFaults fewer faults
fewer_faults faults count fewer within is = (is.0, is.1, omega (arith, within, is.2), is.3)

one_more_counted : (count : ℕ) → one_fault_more count ≤ count + 1
one_more_counted count = omega arith

-- a row ends a worker from 16 faults on
ended_at : (why : Why) (count : ℕ) (is_short : Bool) → nat_lt count 16 ≡ is_short →
    Some why ≡ (if is_short then None else Some whys.Socket) → (why ≡ whys.Socket) × (16 ≤ count)
ended_at why count true short is = absurd (cc is)
ended_at why count false long is = (same_Some why whys.Socket is, ltb-false count 16 long)

ended_by_row : (full stopped : Type 0) (faults : List Bool) (count : ℕ) (why : Why) → EndWithFaults count faults →
    Some why ≡ end_at count → EndsFor full stopped (EndWithFaults 16 faults) (Some why)
ended_by_row full stopped faults count why are is =
    let ended = ended_at why count (nat_lt count 16) refl is in
    subst (λ (w : Why). EndsFor full stopped (EndWithFaults 16 faults) (Some w)) (sym ended.0)
    (fewer_faults faults count 16 ended.1 are)

-- ---- a call

-- a call ends a worker for a full journal alone, which its seat has met
abbrev EndsFull : {O : Type 0} → Why → AtSender O → Type 0
EndsFull why new = (why ≡ whys.JournalFull) × (0 < new.seat.full)

refused_full : {O : Type 0} (fault : CallFault) (old : AtSender O) (why : Why) (new : AtSender O) →
    IsRefused fault old (Some why) new → EndsFull why new
refused_full (faults.Wire f) old why new is = absurd (cc is.ends)
refused_full faults.NoMemory old why new is = absurd (cc is.ends)
refused_full faults.JournalFull old why new is =
    let full : new.seat.full ≡ old.seat.full + 1 = ap (λ (s : AtSender _). s.seat.full) is.same in
    (same_Some why whys.JournalFull is.ends, omega (arith, full))

call_full : {O : Type 0} (o : Setting) (may_ask : Call → Type 0) (may_refuse : CallFault → Type 0) (old : AtSender O)
    (why : Why) (new : AtSender O) → Calls o may_ask may_refuse old (Some why) new → EndsFull why new
call_full o may_ask may_refuse old why new (inl (call, may, made)) = absurd (cc made.goes_on)
call_full o may_ask may_refuse old why new (inr (fault, may, is)) = refused_full fault old why new is

ended_full : {O : Type 0} (stopped broken : Type 0) (why : Why) (new : AtSender O) → EndsFull why new →
    EndsFor (0 < new.seat.full) stopped broken (Some why)
ended_full stopped broken why new is =
    subst (λ (w : Why). EndsFor (0 < new.seat.full) stopped broken (Some w)) (sym is.0) is.1

-- ---- the receiver

joined_full : {O : Type 0} (o : Setting) (limit : ℕ) (bytes : List ℕ) (source : Address) (row : Option Row)
    (h told : List Happening) (old mid : AtSender O) (heard : Option Why) (why : Why) (new : AtSender O) →
    Hears o limit bytes source old heard mid → JoinsThen o limit row h mid heard (Some why) new told → EndsFull why new
joined_full {O} o limit bytes source None h told old mid heard why new hears is =
    subst (λ (s : AtSender O). EndsFull why s) (sym is.0)
    (call_full o (λ call. (m : Message) × IsTextOf bytes m × (call ≡ Hear source m))
    (MayRefuseBytes bytes o limit old.seat) old why mid
    (subst (λ (e : Option Why). Hears o limit bytes source old e mid) (sym is.1) hears))
joined_full o limit bytes source (Some row) h told old mid heard why new hears (joined, inl (made, so), is) =
    absurd (cc made.goes_on)
joined_full o limit bytes source (Some row) h told old mid heard why new hears
    (joined, inr (fault, may, refused, so), is) = refused_full fault mid why new refused

got_row : {O : Type 0} (o : Setting) (limit me : ℕ) (h : List Happening) (got : Got) (bytes : List ℕ)
    (faults : List Bool) (old : AtReceiver O) (end : Option Why) (new : AtReceiver O) → EndWithFaults old.row faults →
    HearsGot o limit me h got bytes old end new → EndWithFaults new.row (faults ++ is_fault got ∷ [])
got_row o limit me h (gots.Datagram count source) bytes faults old end new are (is, none) =
    none_in_row (faults ++ false ∷ []) new.row none
got_row o limit me h gots.Idle bytes faults old end new are is = none_in_row (faults ++ false ∷ []) new.row is.2
got_row o limit me h gots.Fault bytes faults old end new are is =
    subst (λ n. EndWithFaults n (faults ++ true ∷ [])) (sym is.2)
    (one_more_fault faults old.row (one_fault_more old.row) (one_more_counted old.row) are)

turns_row : {O : Type 0} (o : Setting) (limit me : ℕ) (given : List Received) (faults : List Bool)
    (old new : AtReceiver O) → EndWithFaults old.row faults → Turns (HearsNext o limit me) given old new →
    EndWithFaults new.row (faults ++ faults_in given)
turns_row {O} o limit me [] faults old new are is =
    subst (λ (s : AtReceiver O). EndWithFaults s.row (faults ++ [])) (sym is)
    (subst (λ (l : List Bool). EndWithFaults old.row l) (sym (append-nil faults)) are)
turns_row o limit me (r ∷ rest) faults old new are is =
    let turn = is.1 in
    subst (λ (l : List Bool). EndWithFaults new.row l) (append_assoc faults (is_fault r.got ∷ []) (faults_in rest))
    (turns_row o limit me rest (faults ++ is_fault r.got ∷ []) is.0 new
    (got_row o limit me turn.0 r.got r.bytes faults old None is.0 are turn.2) is.2)

got_ended : {O : Type 0} (o : Setting) (limit me : ℕ) (h : List Happening) (got : Got) (bytes : List ℕ)
    (faults : List Bool) (old : AtReceiver O) (why : Why) (new : AtReceiver O) → EndWithFaults old.row faults →
    HearsGot o limit me h got bytes old (Some why) new →
    EndsFor (0 < new.sender.seat.full) ⊥ (EndWithFaults 16 (faults ++ is_fault got ∷ [])) (Some why)
got_ended o limit me h (gots.Datagram count source) bytes faults old why new are (is, none) =
    ended_full ⊥ (EndWithFaults 16 (faults ++ false ∷ [])) why new.sender
    (joined_full o limit _ source _ h new.told old.sender is.mid is.heard why new.sender is.hears is.joins)
got_ended o limit me h gots.Idle bytes faults old why new are is = absurd (cc is.3)
got_ended o limit me h gots.Fault bytes faults old why new are is =
    ended_by_row (0 < new.sender.seat.full) ⊥ (faults ++ true ∷ []) new.row why
    (got_row o limit me h gots.Fault bytes faults old (Some why) new are is) is.3

turns_ended : {O : Type 0} (o : Setting) (limit me : ℕ) (given : List Received) (old : AtReceiver O)
    (end : Option Why) (new : AtReceiver O) → old.row ≡ 0 → EndsSo (HearsNext o limit me) given old end new →
    EndsHearing new.sender.seat end given
turns_ended o limit me given old None new at_none is = tt
turns_ended o limit me given old (Some why) new at_none is =
    let front : List Received = is.0 in
    let last : Received = is.1 in
    let turn = is.5 in
    let row = turns_row o limit me front [] old is.2 (none_in_row [] old.row at_none) is.4 in
    subst (λ (l : List Bool). EndsFor (0 < new.sender.seat.full) ⊥ (EndWithFaults 16 l) (Some why))
    (sym (map_more (λ (r : Received). is_fault r.got) front given last is.3))
    (got_ended o limit me turn.0 last.got last.bytes (faults_in front) is.2 why new row turn.2)

-- why the receiver ended, whatever happened to members before
pub hearing_ended : {O : Type 0} (posted : O → Option (List Posted)) (o : Setting) (limit : ℕ) (old : Receiving O)
    (seat : Seated) (seen : List Change) (end : End) (new : Receiving O) →
    HearsLife posted o limit old seat seen end new → (h : List Happening) → IsReturning old.returning h →
    (given : List Received) × Grows old.received new.received given × EndsHearing seat end.why given
hearing_ended posted o limit old seat seen end new is h was =
    let heard = is.heard.ends h was in
    let first = at_receiver (at_sender (fresh_seat seat.number) old.post nothing) 0 h [] in
    let last = at_receiver (at_sender seat new.post end.counts) is.row heard.0 seen in (
      is.heard.given,
      is.heard.grown,
      turns_ended o limit old.returning.rejoiner.me is.heard.given first end.why last refl heard.2,
    )

-- ---- the ticker

beat_ended : {O : Type 0} (o : Setting) (limit : ℕ) (beat : Beat) (front given : List Beat) (old : AtSender O)
    (why : Why) (new : AtSender O) → given ≡ front ++ beat ∷ [] → TicksNext o limit beat old (Some why) new →
    EndsTicking new.seat (Some why) given
beat_ended o limit beats.Tick front given old why new are is =
    ended_full ((before : List Beat) × (given ≡ before ++ beats.Stop ∷ [])) ⊥ why new
    (call_full o (λ call. call ≡ Tick) (MayRefuse o limit old.seat) old why new is)
beat_ended o limit beats.Idle front given old why new are is = absurd (cc is.1)
beat_ended o limit beats.Stop front given old why new are is =
    subst (λ (w : Why). EndsTicking new.seat (Some w) given) (sym (same_Some why whys.Stopped is.1)) (front, are)

beats_ended : {O : Type 0} (o : Setting) (limit : ℕ) (given : List Beat) (old : AtSender O) (end : Option Why)
    (new : AtSender O) → EndsSo (TicksNext o limit) given old end new → EndsTicking new.seat end given
beats_ended o limit given old None new is = tt
beats_ended o limit given old (Some why) new is =
    beat_ended o limit is.1 is.0 given is.2 why new is.3 is.5

pub ticking_ended : {O : Type 0} (posted : O → Option (List Posted)) (o : Setting) (limit : ℕ) (old : Ticking O)
    (seat : Seated) (seen : List Change) (end : End) (new : Ticking O) →
    TicksLife posted o limit old seat seen end new →
    (given : List Beat) × Grows old.beats new.beats given × EndsTicking seat end.why given
ticking_ended posted o limit old seat seen end new is =
    let first = at_sender (fresh_seat seat.number) old.post nothing in
    let last = at_sender seat new.post end.counts in (
      is.ticked.given,
      is.ticked.grown,
      beats_ended o limit is.ticked.given first end.why last is.ticked.ends,
    )

-- ---- the controller

knocks_both : (xs ys : List Step) → knocks_in (xs ++ ys) ≡ knocks_in xs ++ knocks_in ys
knocks_both [] ys = refl
knocks_both (Knocked fault ∷ xs) ys = ap (λ l. fault ∷ l) (knocks_both xs ys)
knocks_both (Came left now ∷ xs) ys = knocks_both xs ys
knocks_both (Turned now stand ∷ xs) ys = knocks_both xs ys

shut_row : (talks : List Talk) (faults : List Bool) (old : ℕ) (end : Option Why) (new : ℕ) →
    EndWithFaults old faults → ShutsOut (length talks) old end new → EndWithFaults new (faults ++ true ∷ [])
shut_row [] faults old end new are is =
    subst (λ n. EndWithFaults n (faults ++ true ∷ [])) (sym (is.none refl).0)
    (one_more_fault faults old (one_fault_more old) (one_more_counted old) are)
shut_row (t ∷ talks) faults old end new are is =
    let same : new ≡ old = (is.some (omega arith)).0 in
    one_more_fault faults old new (omega (arith, same)) are

-- a step leaves as many faults in a row as it says
step_row : (o : Setting) (limit : ℕ) (step : Step) (faults : List Bool) (old : AtControl) (end : Option Why)
    (new : AtControl) → EndWithFaults old.row faults → TakesStep o limit step old end new →
    EndWithFaults new.row (faults ++ knocks_in (step ∷ []))
step_row o limit (Knocked true) faults old end new are is =
    shut_row old.connections.talks faults old.row end new.row are is.1
step_row o limit (Knocked false) faults old end new are is = none_in_row (faults ++ false ∷ []) new.row is.1.0
step_row o limit (Came left now) faults old end new are is =
    let same : new.row ≡ old.row = ap (λ (c : AtControl). c.row) is.0 in
    subst (λ (l : List Bool). EndWithFaults new.row l) (sym (append-nil faults))
    (subst (λ n. EndWithFaults n faults) (sym same) are)
step_row o limit (Turned now stand) faults old end new are is =
    subst (λ (l : List Bool). EndWithFaults new.row l) (sym (append-nil faults))
    (subst (λ n. EndWithFaults n faults) (sym is.2) are)

steps_row : (o : Setting) (limit : ℕ) (steps : List Step) (faults : List Bool) (old new : AtControl) →
    EndWithFaults old.row faults → Turns (TakesStep o limit) steps old new →
    EndWithFaults new.row (faults ++ knocks_in steps)
steps_row o limit [] faults old new are is =
    subst (λ (s : AtControl). EndWithFaults s.row (faults ++ [])) (sym is)
    (subst (λ (l : List Bool). EndWithFaults old.row l) (sym (append-nil faults)) are)
steps_row o limit (step ∷ rest) faults old new are is =
    let all : (faults ++ knocks_in (step ∷ [])) ++ knocks_in rest ≡ faults ++ knocks_in (step ∷ rest) =
    append_assoc faults (knocks_in (step ∷ [])) (knocks_in rest)
    ∙ ap (λ l. faults ++ l) (sym (knocks_both (step ∷ []) rest)) in
    subst (λ (l : List Bool). EndWithFaults new.row l) all
    (steps_row o limit rest (faults ++ knocks_in (step ∷ [])) is.0 new
    (step_row o limit step faults old None is.0 are is.1) is.2)

turns_of_row : (o : Setting) (limit : ℕ) (turns : List (List Step)) (faults : List Bool) (old new : AtControl) →
    EndWithFaults old.row faults → Turns (ControlsNext o limit) turns old new →
    EndWithFaults new.row (faults ++ flat_map knocks_in turns)
turns_of_row o limit [] faults old new are is =
    subst (λ (s : AtControl). EndWithFaults s.row (faults ++ [])) (sym is)
    (subst (λ (l : List Bool). EndWithFaults old.row l) (sym (append-nil faults)) are)
turns_of_row o limit (steps ∷ rest) faults old new are is =
    let turn = is.1 in
    subst (λ (l : List Bool). EndWithFaults new.row l)
    (append_assoc faults (knocks_in steps) (flat_map knocks_in rest))
    (turns_of_row o limit rest (faults ++ knocks_in steps) is.0 new
    (steps_row o limit steps faults old is.0 are turn.1) is.2)

shut_out : (full stopped : Type 0) (talks : List Talk) (faults : List Bool) (old new : ℕ) → EndWithFaults old faults →
    ShutsOut (length talks) old (Some whys.Socket) new → EndWithFaults 16 (faults ++ true ∷ [])
shut_out full stopped [] faults old new are is =
    ended_by_row full stopped (faults ++ true ∷ []) new whys.Socket
    (shut_row [] faults old (Some whys.Socket) new are is) (is.none refl).1
shut_out full stopped (t ∷ talks) faults old new are is = absurd (cc (is.some (omega arith)).1)

-- a turn of a connection ends a worker for a stop or a full journal alone
abbrev IsOfTurn : Why → Type 0
IsOfTurn whys.JournalFull = Unit {0}
IsOfTurn whys.NoMemory = ⊥
IsOfTurn whys.Socket = ⊥
IsOfTurn whys.Stopped = Unit {0}

ended_by_turn : (stand : Stand) (why : Why) → why_at stand ≡ Some why → IsOfTurn why
ended_by_turn stands.Idle why is = absurd (cc is)
ended_by_turn stands.Busy why is = absurd (cc is)
ended_by_turn (stands.Ended served.Ended) why is = absurd (cc is)
ended_by_turn (stands.Ended served.Unended) why is = absurd (cc is)
ended_by_turn (stands.Ended served.TooLong) why is = absurd (cc is)
ended_by_turn (stands.Ended served.Stopped) why is =
    subst (λ (w : Why). IsOfTurn w) (same_Some whys.Stopped why is) tt
ended_by_turn (stands.Ended served.JournalFull) why is =
    subst (λ (w : Why). IsOfTurn w) (same_Some whys.JournalFull why is) tt
ended_by_turn (stands.Ended served.ReadFault) why is = absurd (cc is)
ended_by_turn (stands.Ended served.WriteFault) why is = absurd (cc is)
ended_by_turn (stands.Closed left) why is = absurd (cc is)

step_broken : (o : Setting) (limit : ℕ) (step : Step) (faults : List Bool) (old new : AtControl) →
    EndWithFaults old.row faults → TakesStep o limit step old (Some whys.Socket) new →
    EndWithFaults 16 (faults ++ knocks_in (step ∷ []))
step_broken o limit (Knocked true) faults old new are is =
    shut_out ⊥ ⊥ old.connections.talks faults old.row new.row are is.1
step_broken o limit (Knocked false) faults old new are is = absurd (cc is.1.1)
step_broken o limit (Came left now) faults old new are is = absurd (cc is.1)
step_broken o limit (Turned now stand) faults old new are is = absurd (ended_by_turn stand whys.Socket (sym is.3))

turns_broken : (o : Setting) (limit : ℕ) (turns : List (List Step)) (old new : AtControl) → old.row ≡ 0 →
    EndsSo (ControlsNext o limit) turns old (Some whys.Socket) new → EndWithFaults 16 (flat_map knocks_in turns)
turns_broken o limit turns old new at_none is =
    let before = flat_map knocks_in is.0 in
    let last : List Step = is.1 in
    let steps = is.5.1 in
    let row = turns_of_row o limit is.0 [] old is.2 (none_in_row [] old.row at_none) is.4 in
    let in_row = steps_row o limit steps.0 before is.2 steps.2 row steps.4 in
    let step : Step = steps.1 in
    let in_turn : knocks_in last ≡ knocks_in steps.0 ++ knocks_in (step ∷ []) =
    ap knocks_in steps.3 ∙ knocks_both steps.0 (step ∷ []) in
    let all : flat_map knocks_in turns ≡ before ++ knocks_in last =
    ap (flat_map knocks_in) is.3 ∙ flat_map-append knocks_in is.0 (last ∷ [])
    ∙ ap (λ l. before ++ l) (append-nil (knocks_in last)) in
    let given : (before ++ knocks_in steps.0) ++ knocks_in (step ∷ []) ≡ flat_map knocks_in turns =
    append_assoc before (knocks_in steps.0) (knocks_in (step ∷ [])) ∙ ap (λ l. before ++ l) (sym in_turn) ∙ sym all in
    subst (λ (l : List Bool). EndWithFaults 16 l) given
    (step_broken o limit step (before ++ knocks_in steps.0) steps.2 new in_row steps.5)

module _ (o : Setting) (limit : ℕ) (before after : Option (List Bool)) (old new : Talks) (seat : Seated)
    (seen : List Change) (end : End) (is : ControlsLife o limit before after old seat seen end new) where
  ended_so : (why : Option Why) → end.why ≡ why →
      EndsControlling o limit why (flat_map knocks_in is.controlled.turns) new
  ended_so None ends = tt
  ended_so (Some whys.JournalFull) ends =
      life_ended o limit before after old new seat seen end whys.JournalFull is ends (λ e. absurd (cc e))
  ended_so (Some whys.NoMemory) ends =
      let turn = life_ended o limit before after old new seat seen end whys.NoMemory is ends (λ e. absurd (cc e)) in
      ended_by_turn turn.1 whys.NoMemory turn.6
  ended_so (Some whys.Socket) ends =
      let first = at_control old (at_desk (fresh_seat seat.number) [] 0) 0 in
      let last = at_control new (at_desk seat seen end.counts.refused) is.row in
      turns_broken o limit is.controlled.turns first last refl
      (subst (λ (e : Option Why). EndsSo (ControlsNext o limit) is.controlled.turns first e last) ends
      is.controlled.ends)
  ended_so (Some whys.Stopped) ends =
      life_ended o limit before after old new seat seen end whys.Stopped is ends (λ e. absurd (cc e))

  pub controlling_ended : (faults : List Bool) × Grows before after faults
      × EndsControlling o limit end.why faults new
  controlling_ended = (flat_map knocks_in is.controlled.turns, is.controlled.grown, ended_so end.why refl)
