-- Each tick became one call, or was refused: from turn to turn.
use Rattle.std.proofs.Common.{◌≡◌, ℕ, ◌+◌, ◌-◌, ◌^◌, ◌≤◌, min, List, [], ◌∷◌, ◌++◌, length, Option, Some, None}
use Rattle.std.proofs.Common.{refl, sym, subst, ap, ◌∙◌, inl, inr, arith, append_assoc, append-nil, zero-add}
use Rattle.std.specs.Prelude.{All}
use Rattle.std.proofs.lemmas.Grind.{flat_map-append}
use Rattle.std.proofs.lemmas.List.{length-append}
use Rattle.std.proofs.lemmas.List.Elements.{All-nil, All-cons, All-append}
use Rattle.swim_history.specs.declared.calls.Call.TheVariants.{Tick}
use Rattle.swim_history.specs.declared.rows.Change.{Change}
use Rattle.swim_history.specs.Setting.{Setting}
use Rattle.swim_trail.specs.Growing.{Grows}
use Rattle.swim_node.specs.declared.receipts.CallFault.{CallFault}
use Rattle.swim_node.specs.declared.receipts.CallFault.TheVariants as faults
use Rattle.swim_node.specs.Answered.{MayRefuse}
use Rattle.swim_node.specs.Seats.{Seated}
use Rattle.swim_work.specs.declared.counts.Counts.{Counts}
use Rattle.swim_work.specs.declared.counts.Why.{Why}
use Rattle.swim_work.specs.declared.paces.Beat.{Beat}
use Rattle.swim_work.specs.declared.paces.Beat.TheVariants as beats
use Rattle.swim_work.specs.declared.workers.End.{End}
use Rattle.swim_work.specs.Calling.{IsMade, IsRefused}
use Rattle.swim_work.specs.Outcomes.{Outcome, call_by, calls_among, memory_in}
use Rattle.swim_work.specs.Outcomes.Outcome.{Answered, Refused}
use Rattle.swim_work.specs.Posts.{AtSender, Posted}
use Rattle.swim_work.specs.Turns.{EndsSo, TicksNext, Turns}
use Rattle.swim_work.proofs.Outcomes.{counted, memory_both}
use Rattle.swim_ticker.specs.Ticking.{Owned, TicksLife}
use Rattle.swim_ticker.specs.Ticks.{AreTicked, IsOfTick, ticks_by, ticks_in}

-- what became of so many ticks between two states of a caller: as `AreTicked`, of the calls and the counts in between
record TickedOn {O : Type 0} (ticks : ℕ) (old new : AtSender O) : Type 0 where
  outcomes : List Outcome
  each : All IsOfTick outcomes
  so_many : length outcomes ≡ ticks
  called : new.seat.calls ≡ old.seat.calls ++ calls_among outcomes
  refused : old.counts.refused ≤ 2 ^ 64 - 1 →
      new.counts.refused ≡ min (old.counts.refused + memory_in outcomes) (2 ^ 64 - 1)
  wire : new.counts.wire ≡ old.counts.wire

none_ticked : {O : Type 0} (old new : AtSender O) → new ≡ old → TickedOn 0 old new
none_ticked old new same = rw same (record {
  outcomes = [];
  each = All-nil IsOfTick;
  so_many = refl;
  called = sym (append-nil old.seat.calls);
  refused = λ within. omega (arith, within);
  wire = refl;
})

both_ticked : {O : Type 0} (m n : ℕ) (a b c : AtSender O) → TickedOn m a b → TickedOn n b c → TickedOn (m + n) a c
both_ticked m n a b c p q = record {
  outcomes = p.outcomes ++ q.outcomes;
  each = All-append IsOfTick p.outcomes q.outcomes p.each q.each;
  so_many =
      let first : length p.outcomes ≡ m = p.so_many in
      let then : length q.outcomes ≡ n = q.so_many in
      omega (arith, length-append p.outcomes q.outcomes, first, then);
  called =
      let all : calls_among (p.outcomes ++ q.outcomes) ≡ calls_among p.outcomes ++ calls_among q.outcomes =
      flat_map-append call_by p.outcomes q.outcomes in
      q.called ∙ (ap (λ l. l ++ calls_among q.outcomes) p.called
      ∙ (append_assoc a.seat.calls (calls_among p.outcomes) (calls_among q.outcomes)
      ∙ ap (λ l. a.seat.calls ++ l) (sym all)));
  refused = counted a.counts.refused b.counts.refused c.counts.refused (memory_in p.outcomes) (memory_in q.outcomes)
      (memory_in (p.outcomes ++ q.outcomes)) p.refused q.refused (memory_both p.outcomes q.outcomes);
  wire = q.wire ∙ p.wire;
}

-- ---- a call

call_ticked : {O : Type 0} (o : Setting) (old : AtSender O) (end : Option Why) (new : AtSender O) →
    IsMade o Tick old end new → TickedOn 1 old new
call_ticked o old end new made = record {
  outcomes = Answered made.kept ∷ [];
  each = All-cons IsOfTick (Answered made.kept) [] made.answered.asked (All-nil IsOfTick);
  so_many = refl;
  called = made.answered.calls;
  refused = λ within.
      let same : new.counts.refused ≡ old.counts.refused = ap (λ (c : Counts). c.refused) made.counted in
      omega (arith, within, same);
  wire = ap (λ (c : Counts). c.wire) made.counted;
}

call_refused : {O : Type 0} (o : Setting) (limit : ℕ) (fault : CallFault) (old : AtSender O) (end : Option Why)
    (new : AtSender O) → MayRefuse o limit old.seat fault → IsRefused fault old end new → TickedOn 1 old new
call_refused o limit (faults.Wire f) old end new may is = absurd may
call_refused o limit faults.NoMemory old end new may is = record {
  outcomes = Refused faults.NoMemory ∷ [];
  each = All-cons IsOfTick (Refused faults.NoMemory) [] tt (All-nil IsOfTick);
  so_many = refl;
  called = ap (λ (s : AtSender _). s.seat.calls) is.same ∙ sym (append-nil old.seat.calls);
  refused = λ within.
      let more : new.counts.refused ≡ min (old.counts.refused + 1) (2 ^ 64 - 1) =
      ap (λ (s : AtSender _). s.counts.refused) is.same in
      omega (arith, more);
  wire = ap (λ (s : AtSender _). s.counts.wire) is.same;
}
call_refused o limit faults.JournalFull old end new may is = record {
  outcomes = Refused faults.JournalFull ∷ [];
  each = All-cons IsOfTick (Refused faults.JournalFull) [] tt (All-nil IsOfTick);
  so_many = refl;
  called = ap (λ (s : AtSender _). s.seat.calls) is.same ∙ sym (append-nil old.seat.calls);
  refused = λ within.
      let same : new.counts.refused ≡ old.counts.refused = ap (λ (s : AtSender _). s.counts.refused) is.same in
      omega (arith, within, same);
  wire = ap (λ (s : AtSender _). s.counts.wire) is.same;
}

-- ---- a turn

beat_ticked : {O : Type 0} (o : Setting) (limit : ℕ) (beat : Beat) (old : AtSender O) (end : Option Why)
    (new : AtSender O) → TicksNext o limit beat old end new → TickedOn (ticks_by beat) old new
beat_ticked o limit beats.Tick old end new (inl (call, is, made)) =
    call_ticked o old end new (subst (λ c. IsMade o c old end new) is made)
beat_ticked o limit beats.Tick old end new (inr (fault, may, is)) = call_refused o limit fault old end new may is
beat_ticked o limit beats.Idle old end new is = none_ticked old new is.0
beat_ticked o limit beats.Stop old end new is = none_ticked old new is.0

turns_ticked : {O : Type 0} (o : Setting) (limit : ℕ) (given : List Beat) (old new : AtSender O) →
    Turns (TicksNext o limit) given old new → TickedOn (ticks_in given) old new
turns_ticked o limit [] old new is = none_ticked old new is
turns_ticked o limit (beat ∷ rest) old new is =
    both_ticked (ticks_by beat) (ticks_in rest) old is.0 new (beat_ticked o limit beat old None is.0 is.1)
    (turns_ticked o limit rest is.0 new is.2)

-- so many ticks, and one beat more
ticks_and : (front : List Beat) (last : Beat) → ticks_in (front ++ last ∷ []) ≡ ticks_in front + ticks_by last
ticks_and [] last = omega arith
ticks_and (beat ∷ rest) last = let is = ticks_and rest last in omega (arith, is)

all_ticked : {O : Type 0} (o : Setting) (limit : ℕ) (given : List Beat) (old : AtSender O) (end : Option Why)
    (new : AtSender O) → EndsSo (TicksNext o limit) given old end new → TickedOn (ticks_in given) old new
all_ticked o limit given old None new is = turns_ticked o limit given old new is
all_ticked o limit given old (Some why) new is =
    rw (is.3, ticks_and is.0 is.1) (both_ticked (ticks_in is.0) (ticks_by is.1) old is.2 new
    (turns_ticked o limit is.0 old is.2 is.4) (beat_ticked o limit is.1 is.2 (Some why) new is.5))

-- ---- a life

-- each tick that the pace gave in a life became one call of the seat, in order, or was refused
pub each_is_called : {O : Type 0} (posted : O → Option (List Posted)) (o : Setting) (limit : ℕ) (old : Owned O)
    (seat : Seated) (seen : List Change) (end : End) (new : Owned O) → TicksLife posted o limit old seat seen end new →
    (given : List Beat) × Grows old.beats new.beats given × AreTicked (ticks_in given) seat.calls end.counts
each_is_called posted o limit old seat seen end new life =
    let worked = life.ticked in
    let ticked = all_ticked o limit worked.given _ end.why _ worked.ends in (
      worked.given,
      worked.grown,
      record {
        outcomes = ticked.outcomes;
        each = ticked.each;
        so_many = ticked.so_many;
        called = ticked.called;
        refused = ticked.refused (omega arith)
            ∙ ap (λ n. min n (2 ^ 64 - 1)) (zero-add (memory_in ticked.outcomes));
        wire = ticked.wire;
      },
    )
