-- Each datagram became one call, behind which who came back was joined, or was counted: from turn to turn.
use Rattle.std.proofs.Common.{◌≡◌, ℕ, ◌+◌, ◌-◌, ◌^◌, ◌≤◌, Bool, min, List, [], ◌∷◌, ◌++◌, length, take, Option, Some}
use Rattle.std.proofs.Common.{None, refl, sym, ap, subst, ◌∙◌, inl, inr, arith, append_assoc, append-nil, length-append}
use Rattle.std.proofs.Common.{zero-add}
use Rattle.std.proofs.lemmas.Grind.{flat_map-append}
use Rattle.std.specs.Option.{option_to_list}
use mathlib.Core.List.{IsPrefix}
use Rattle.swim_wire.specs.Address.{Address}
use Rattle.swim_wire.specs.Messages.{Message}
use Rattle.swim_history.specs.declared.calls.Call.{Call}
use Rattle.swim_history.specs.declared.rows.Row.{Row}
use Rattle.swim_history.specs.declared.rows.Change.{Change}
use Rattle.swim_history.specs.declared.seats.Kept.{Kept}
use Rattle.swim_history.specs.Setting.{Setting}
use Rattle.swim_trail.specs.Growing.{Grows}
use Rattle.swim_node.specs.declared.receipts.CallFault.{CallFault}
use Rattle.swim_node.specs.declared.receipts.CallFault.TheVariants.{Wire, NoMemory, JournalFull}
use Rattle.swim_node.specs.Answered.{MayRefuseBytes}
use Rattle.swim_work.specs.declared.counts.Counts.{Counts}
use Rattle.swim_work.specs.declared.counts.Why.{Why}
use Rattle.swim_work.specs.declared.lines.Got.{Got}
use Rattle.swim_work.specs.declared.lines.Got.TheVariants.{Datagram, Idle, Fault}
use Rattle.swim_work.specs.declared.workers.End.{End}
use Rattle.swim_work.specs.Calling.{Hears, IsMade, IsMessage, IsRefused}
use Rattle.swim_work.specs.Gates.{Received}
use Rattle.swim_work.specs.Outcomes.{Outcome, call_by, calls_among, memory_in}
use Rattle.swim_work.specs.Outcomes.Outcome.{Answered, Refused}
use Rattle.swim_work.specs.Posts.{AtSender, Posted}
use Rattle.swim_work.specs.Turns.{EndsSo, Turns}
use Rattle.swim_work.proofs.Outcomes.{counted, memory_both}
use Rattle.swim_node.specs.Seats.{Seated}
use Rattle.swim_receiver.specs.declared.rejoining.Returning.{Returning}
use Rattle.swim_receiver.specs.Datagrams.{AreHeard, BecomeSo, BecomesSo, IsJoined, Step, datagram_by, datagrams_in}
use Rattle.swim_receiver.specs.Datagrams.{full_in, outcomes_in, outcomes_of, wire_in}
use Rattle.swim_receiver.specs.Receiving.{AtReceiver, HearsGot, HearsLife, HearsNext, Owned}
use Rattle.swim_receiver.specs.Happenings.{Happening}
use Rattle.swim_receiver.specs.Rejoining.{IsJoinTold, JoinsThen, LearnsOn, whom}
use Rattle.swim_receiver.proofs.Learning.{more_on, none_on, on_later}

-- ---- outcomes, and their counts

wire_both : (xs ys : List Outcome) → wire_in (xs ++ ys) ≡ wire_in xs + wire_in ys
wire_both [] ys = sym (zero-add (wire_in ys))
wire_both (x ∷ xs) ys = let is = wire_both xs ys in omega (arith, is)

full_both : (xs ys : List Outcome) → full_in (xs ++ ys) ≡ full_in xs + full_in ys
full_both [] ys = sym (zero-add (full_in ys))
full_both (x ∷ xs) ys = let is = full_both xs ys in omega (arith, is)

-- what a caller's calls came to, between two of its states
record CountsOn {O : Type 0} (outcomes : List Outcome) (old new : AtSender O) : Type 0 where
  calls : new.seat.calls ≡ old.seat.calls ++ calls_among outcomes
  wire : old.counts.wire ≤ 2 ^ 64 - 1 → new.counts.wire ≡ min (old.counts.wire + wire_in outcomes) (2 ^ 64 - 1)
  refused : old.counts.refused ≤ 2 ^ 64 - 1 →
      new.counts.refused ≡ min (old.counts.refused + memory_in outcomes) (2 ^ 64 - 1)
  full : new.seat.full ≡ old.seat.full + full_in outcomes

counts_both : {O : Type 0} (xs ys : List Outcome) (a b c : AtSender O) → CountsOn xs a b → CountsOn ys b c →
    CountsOn (xs ++ ys) a c
counts_both xs ys a b c p q = record {
  calls =
      let all : calls_among (xs ++ ys) ≡ calls_among xs ++ calls_among ys = flat_map-append call_by xs ys in
      q.calls ∙ (ap (λ l. l ++ calls_among ys) p.calls
      ∙ (append_assoc a.seat.calls (calls_among xs) (calls_among ys) ∙ ap (λ l. a.seat.calls ++ l) (sym all)));
  wire = counted a.counts.wire b.counts.wire c.counts.wire (wire_in xs) (wire_in ys) (wire_in (xs ++ ys)) p.wire q.wire
      (wire_both xs ys);
  refused = counted a.counts.refused b.counts.refused c.counts.refused (memory_in xs) (memory_in ys)
      (memory_in (xs ++ ys)) p.refused q.refused (memory_both xs ys);
  full =
      let first : b.seat.full ≡ a.seat.full + full_in xs = p.full in
      let then : c.seat.full ≡ b.seat.full + full_in ys = q.full in
      let all : full_in (xs ++ ys) ≡ full_in xs + full_in ys = full_both xs ys in
      omega (arith, first, then, all);
}

none_counted : {O : Type 0} (old new : AtSender O) → new ≡ old → CountsOn [] old new
none_counted old new same = rw same (record {
  calls = sym (append-nil old.seat.calls);
  wire = λ within. omega (arith, within);
  refused = λ within. omega (arith, within);
  full = omega arith;
})

-- a call was made
made_counted : {O : Type 0} (o : Setting) (call : Call) (old : AtSender O) (end : Option Why) (new : AtSender O)
    (made : IsMade o call old end new) → CountsOn (Answered made.kept ∷ []) old new
made_counted o call old end new made = record {
  calls = made.answered.calls;
  wire = λ within.
      let same : new.counts.wire ≡ old.counts.wire = ap (λ (c : Counts). c.wire) made.counted in
      omega (arith, within, same);
  refused = λ within.
      let same : new.counts.refused ≡ old.counts.refused = ap (λ (c : Counts). c.refused) made.counted in
      omega (arith, within, same);
  full =
      let room : old.seat.full ≡ 0 = made.answered.room in
      let still : new.seat.full ≡ 0 = made.answered.full in
      omega (arith, room, still);
}

-- or refused
refused_counted : {O : Type 0} (fault : CallFault) (old : AtSender O) (end : Option Why) (new : AtSender O) →
    IsRefused fault old end new → CountsOn (Refused fault ∷ []) old new
refused_counted (Wire f) old end new is = rw is.same (record {
  calls = sym (append-nil old.seat.calls);
  wire = λ within. omega (arith, within);
  refused = λ within. omega (arith, within);
  full = omega arith;
})
refused_counted NoMemory old end new is = rw is.same (record {
  calls = sym (append-nil old.seat.calls);
  wire = λ within. omega (arith, within);
  refused = λ within. omega (arith, within);
  full = omega arith;
})
refused_counted JournalFull old end new is = rw is.same (record {
  calls = sym (append-nil old.seat.calls);
  wire = λ within. omega (arith, within);
  refused = λ within. omega (arith, within);
  full = omega arith;
})

-- ---- a datagram

-- what became of the call behind that for a datagram
then_joined : {O : Type 0} (o : Setting) (limit : ℕ) (row : Option Row) (h : List Happening) (mid : AtSender O)
    (heard end : Option Why) (new : AtSender O) (told : List Happening) →
    JoinsThen o limit row h mid heard end new told →
    (join : Option Outcome) × IsJoined row join h told × CountsOn (option_to_list join) mid new
then_joined o limit None h mid heard end new told is = (None, (refl, is.2), none_counted mid new is.0)
then_joined o limit (Some row) h mid heard end new told (is_joined, inl made, is_told) = (
  Some (Answered made.0.kept),
  (made.0.answered.asked, subst (λ (b : Bool). IsJoinTold row b h told) made.1 is_told),
  made_counted o _ mid end new made.0,
)
then_joined o limit (Some row) h mid heard end new told (is_joined, inr (Wire f, may, is, none), is_told) = absurd may
then_joined o limit (Some row) h mid heard end new told (is_joined, inr (NoMemory, may, is, none), is_told) = (
  Some (Refused NoMemory),
  subst (λ (b : Bool). IsJoinTold row b h told) none is_told,
  refused_counted NoMemory mid end new is,
)
then_joined o limit (Some row) h mid heard end new told (is_joined, inr (JournalFull, may, is, none), is_told) = (
  Some (Refused JournalFull),
  subst (λ (b : Bool). IsJoinTold row b h told) none is_told,
  refused_counted JournalFull mid end new is,
)

-- what became of a datagram
abbrev IsStep : {O : Type 0} → ℕ → List Happening → List ℕ × Address → AtSender O → AtSender O → List Happening → Type 0
IsStep me h d old new told =
    (step : Step) × BecomesSo me h d step.call step.join told × CountsOn (outcomes_of step) old new

abbrev step_of : Outcome → Option Outcome → Step
step_of call join = record { call = call; join = join }

refused_step : {O : Type 0} (o : Setting) (limit me : ℕ) (h : List Happening) (d : List ℕ × Address) (fault : CallFault)
    (old : AtSender O) (end : Option Why) (new : AtSender O) (told : List Happening) →
    MayRefuseBytes d.0 o limit old.seat fault → IsRefused fault old end new → told ≡ h → IsStep me h d old new told
refused_step o limit me h d (Wire f) old end new told may is still =
    (step_of (Refused (Wire f)) None, (may, (refl, still)), refused_counted (Wire f) old end new is)
refused_step o limit me h d NoMemory old end new told may is still =
    (step_of (Refused NoMemory) None, (refl, still), refused_counted NoMemory old end new is)
refused_step o limit me h d JournalFull old end new told may is still =
    (step_of (Refused JournalFull) None, (refl, still), refused_counted JournalFull old end new is)

one_longer : (calls : List Kept) (k : Kept) → calls ++ k ∷ [] ≡ calls → ⊥
one_longer calls k same =
    let longer : length (calls ++ k ∷ []) ≡ length calls + 1 = length-append calls (k ∷ []) in
    let as_long : length (calls ++ k ∷ []) ≡ length calls = ap length same in
    omega (arith, longer, as_long)

-- the node refused the call, as there is no message
no_message : {O : Type 0} (o : Setting) (limit me : ℕ) (h : List Happening) (d : List ℕ × Address) (old : AtSender O)
    (end : Option Why) (new : AtSender O) (told : List Happening) → Hears o limit d.0 d.1 old end new →
    new.seat.calls ≡ old.seat.calls → told ≡ h → IsStep me h d old new told
no_message o limit me h d old end new told (inl (call, may, made)) same still =
    absurd (one_longer old.seat.calls made.kept (sym made.answered.calls ∙ same))
no_message o limit me h d old end new told (inr (fault, may, is)) same still =
    refused_step o limit me h d fault old end new told may is still

datagram_step : {O : Type 0} (o : Setting) (limit me : ℕ) (h : List Happening) (bytes : List ℕ) (source : Address)
    (old mid : AtSender O) (heard end : Option Why) (new : AtSender O) (told : List Happening)
    (message : Option Message) →
    Hears o limit bytes source old heard mid → IsMessage o bytes source old heard mid message →
    JoinsThen o limit (whom me h source message) h mid heard end new told → IsStep me h (bytes, source) old new told
datagram_step {O} o limit me h bytes source old mid heard end new told None hears is joins =
    subst (λ (s : AtSender O). IsStep me h (bytes, source) old s told) (sym joins.0)
    (no_message o limit me h (bytes, source) old heard mid told hears is joins.2)
datagram_step o limit me h bytes source old mid heard end new told (Some m) hears is joins =
    let then = then_joined o limit (whom me h source (Some m)) h mid heard end new told joins in (
      step_of (Answered is.1.kept) then.0,
      (m, is.0, is.1.answered.asked, then.1),
      counts_both (Answered is.1.kept ∷ []) (option_to_list then.0) old mid new
          (made_counted o _ old heard mid is.1) then.2,
    )

-- ---- some datagrams, and then others

-- it learns of something before
learnt_become : (o : Setting) (me : ℕ) (saw then seen : List Change) (h learnt : List Happening)
    (ds : List (List ℕ × Address)) (steps : List Step) (told : List Happening) → LearnsOn o saw then h learnt →
    BecomeSo o me then learnt ds steps seen told → BecomeSo o me saw h ds steps seen told
learnt_become o me saw then seen h learnt [] [] told learns is = more_on o saw then seen h learnt told learns is
learnt_become o me saw then seen h learnt [] (step ∷ steps) told learns is = absurd is
learnt_become o me saw then seen h learnt (d ∷ ds) [] told learns is = absurd is
learnt_become o me saw then seen h learnt (d ∷ ds) (step ∷ steps) told learns is =
    (is.0, is.1, is.2, more_on o saw then is.0 h learnt is.1 learns is.3, is.4, is.5)

become_both : (o : Setting) (me : ℕ) (saw then seen : List Change) (h mid told : List Happening)
    (ds es : List (List ℕ × Address)) (xs ys : List Step) → BecomeSo o me saw h ds xs then mid →
    BecomeSo o me then mid es ys seen told → BecomeSo o me saw h (ds ++ es) (xs ++ ys) seen told
become_both o me saw then seen h mid told [] es [] ys p q = learnt_become o me saw then seen h mid es ys told p q
become_both o me saw then seen h mid told [] es (x ∷ xs) ys p q = absurd p
become_both o me saw then seen h mid told (d ∷ ds) es [] ys p q = absurd p
become_both o me saw then seen h mid told (d ∷ ds) es (x ∷ xs) ys p q =
    (p.0, p.1, p.2, p.3, p.4, become_both o me p.0 then seen p.2 mid told ds es xs ys p.5 q)

become_later : (o : Setting) (me : ℕ) (saw seen since : List Change) (h told : List Happening)
    (ds : List (List ℕ × Address)) (steps : List Step) → IsPrefix seen since → BecomeSo o me saw h ds steps seen told →
    BecomeSo o me saw h ds steps since told
become_later o me saw seen since h told [] [] later is = on_later o saw seen since h told later is
become_later o me saw seen since h told [] (step ∷ steps) later is = absurd is
become_later o me saw seen since h told (d ∷ ds) [] later is = absurd is
become_later o me saw seen since h told (d ∷ ds) (step ∷ steps) later is =
    (is.0, is.1, is.2, is.3, is.4, become_later o me is.0 seen since is.2 told ds steps later is.5)

-- what became of some datagrams between two states of a receiver
record HeardOn {O : Type 0} (o : Setting) (me : ℕ) (datagrams : List (List ℕ × Address)) (old new : AtReceiver O) : Type
    0 where
  steps : List Step
  become : BecomeSo o me old.seen old.told datagrams steps new.seen new.told
  counts : CountsOn (outcomes_in steps) old.sender new.sender

both_heard : {O : Type 0} (o : Setting) (me : ℕ) (ds es : List (List ℕ × Address)) (a b c : AtReceiver O) →
    HeardOn o me ds a b → HeardOn o me es b c → HeardOn o me (ds ++ es) a c
both_heard o me ds es a b c p q =
    let all : outcomes_in (p.steps ++ q.steps) ≡ outcomes_in p.steps ++ outcomes_in q.steps =
    flat_map-append outcomes_of p.steps q.steps in
    record {
      steps = p.steps ++ q.steps;
      become = become_both o me a.seen b.seen c.seen a.told b.told c.told ds es p.steps q.steps p.become q.become;
      counts = subst (λ xs. CountsOn xs a.sender c.sender) (sym all)
          (counts_both (outcomes_in p.steps) (outcomes_in q.steps) a.sender b.sender c.sender p.counts q.counts);
    }

none_heard : {O : Type 0} (o : Setting) (me : ℕ) (old new : AtReceiver O) → new.sender ≡ old.sender →
    LearnsOn o old.seen new.seen old.told new.told → HeardOn o me [] old new
none_heard o me old new same learns =
    record { steps = []; become = learns; counts = none_counted old.sender new.sender same }

one_heard : {O : Type 0} (o : Setting) (me : ℕ) (h : List Happening) (d : List ℕ × Address) (old new : AtReceiver O) →
    LearnsOn o old.seen new.seen old.told h → IsStep me h d old.sender new.sender new.told →
    HeardOn o me (d ∷ []) old new
one_heard o me h d old new learns is = record {
  steps = is.0 ∷ [];
  become = (new.seen, h, new.told, learns, is.1, none_on o new.seen new.seen new.told ([], append-nil new.seen));
  counts = subst (λ xs. CountsOn xs old.sender new.sender) (sym (append-nil (outcomes_of is.0))) is.2;
}

-- ---- a turn

got_heard : {O : Type 0} (o : Setting) (limit me : ℕ) (h : List Happening) (got : Got) (bytes : List ℕ)
    (old : AtReceiver O) (end : Option Why) (new : AtReceiver O) → LearnsOn o old.seen new.seen old.told h →
    HearsGot o limit me h got bytes old end new → HeardOn o me (datagram_by got bytes) old new
got_heard o limit me h (Datagram count source) bytes old end new learns (is, none) =
    one_heard o me h (take count bytes, source) old new learns
    (datagram_step o limit me h (take count bytes) source old.sender is.mid is.heard end new.sender new.told is.message
    is.hears is.is is.joins)
got_heard o limit me h Idle bytes old end new learns is =
    none_heard o me old new is.0 (subst (LearnsOn o old.seen new.seen old.told) (sym is.1) learns)
got_heard o limit me h Fault bytes old end new learns is =
    none_heard o me old new is.0 (subst (LearnsOn o old.seen new.seen old.told) (sym is.1) learns)

turn_heard : {O : Type 0} (o : Setting) (limit me : ℕ) (given : Received) (old : AtReceiver O) (end : Option Why)
    (new : AtReceiver O) → HearsNext o limit me given old end new →
    HeardOn o me (datagram_by given.got given.bytes) old new
turn_heard o limit me given old end new is =
    got_heard o limit me is.0 given.got given.bytes old end new is.1 is.2

turns_heard : {O : Type 0} (o : Setting) (limit me : ℕ) (given : List Received) (old new : AtReceiver O) →
    Turns (HearsNext o limit me) given old new → HeardOn o me (datagrams_in given) old new
turns_heard {O} o limit me [] old new is = subst (λ (s : AtReceiver O). HeardOn o me [] old s) (sym is)
    (none_heard o me old old refl (none_on o old.seen old.seen old.told ([], append-nil old.seen)))
turns_heard o limit me (given ∷ rest) old new is =
    both_heard o me (datagram_by given.got given.bytes) (datagrams_in rest) old is.0 new
    (turn_heard o limit me given old None is.0 is.1) (turns_heard o limit me rest is.0 new is.2)

all_heard : {O : Type 0} (o : Setting) (limit me : ℕ) (given : List Received) (old : AtReceiver O)
    (end : Option Why) (new : AtReceiver O) → EndsSo (HearsNext o limit me) given old end new →
    HeardOn o me (datagrams_in given) old new
all_heard o limit me given old None new is = turns_heard o limit me given old new is
all_heard o limit me given old (Some why) new is =
    let last : Received = is.1 in
    let all : datagrams_in (is.0 ++ last ∷ []) ≡ datagrams_in is.0 ++ datagram_by last.got last.bytes =
    flat_map-append (λ (r : Received). datagram_by r.got r.bytes) is.0 (last ∷ [])
    ∙ ap (λ l. datagrams_in is.0 ++ l) (append-nil (datagram_by last.got last.bytes)) in
    rw (is.3, all) (both_heard o me (datagrams_in is.0) (datagram_by last.got last.bytes) old is.2 new
    (turns_heard o limit me is.0 old is.2 is.4) (turn_heard o limit me last is.2 (Some why) new is.5))

-- ---- a life

-- each datagram that the line gave in a life became one call of the seat, in order, or was counted
pub each_is_heard : {O : Type 0} (posted : O → Option (List Posted)) (o : Setting) (limit : ℕ) (old : Owned O)
    (seat : Seated) (seen : List Change) (end : End) (new : Owned O) → HearsLife posted o limit old seat seen end new →
    (given : List Received) × Grows old.received new.received given
    × AreHeard o old.returning (datagrams_in given) seat end.counts seen new.returning
each_is_heard posted o limit old seat seen end new life = (
  life.heard.given,
  life.heard.grown,
  λ h is.
      let then = life.heard.ends h is in
      let heard = all_heard o limit old.returning.rejoiner.me life.heard.given _ end.why _ then.2 in
      let outcomes = outcomes_in heard.steps in (
        then.0,
        then.1,
        record {
          steps = heard.steps;
          become = heard.become;
          calls = heard.counts.calls;
          wire = heard.counts.wire (omega arith) ∙ ap (λ n. min n (2 ^ 64 - 1)) (zero-add (wire_in outcomes));
          refused = heard.counts.refused (omega arith)
              ∙ ap (λ n. min n (2 ^ 64 - 1)) (zero-add (memory_in outcomes));
          full = heard.counts.full ∙ zero-add (full_in outcomes);
        },
      ),
)

-- the same by changes of which the viewer saw a beginning
pub heard_later : (o : Setting) (old : Returning) (datagrams : List (List ℕ × Address)) (seat : Seated)
    (counts : Counts) (seen all : List Change) (new : Returning) → IsPrefix seen all →
    AreHeard o old datagrams seat counts seen new → AreHeard o old datagrams seat counts all new
heard_later o old datagrams seat counts seen all new later are = λ h is.
    let then = are h is in
    let heard = then.2 in (
      then.0,
      then.1,
      record {
        steps = heard.steps;
        become = become_later o old.rejoiner.me [] seen all h then.0 datagrams heard.steps later heard.become;
        calls = heard.calls;
        wire = heard.wire;
        refused = heard.refused;
        full = heard.full;
      },
    )
