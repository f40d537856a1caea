-- Answers to ticks that begin a period.
use Rattle.std.proofs.Common.{◌≡◌, ℕ, ◌+◌, ◌%◌, ◌<◌, true, false, List, [], ◌∷◌, is_some, Option, Some, None, refl, sym}
use Rattle.std.proofs.Common.{ap, subst, ◌∙◌, add-one}
use Rattle.std.proofs.lemmas.Bool.{and_parts, or_right}
use Rattle.std.proofs.lemmas.List.Folds.{list_any-append}
use Rattle.std.specs.Prelude.{◌==◌, nat_eq, not, option_and_then, IfSome, IfNone}
use Rattle.std.specs.Option.{option_map}
use Rattle.arrayvec.specs.ArrayVec.{ArrayVec}
use Rattle.swim_wire.specs.Ids.{has, front}
use Rattle.swim_wire.specs.Requests.{aged}
use Rattle.swim_wire.specs.Round.{Lists, all_of, leave_judged, MayDraw, redraw, advance}
use Rattle.swim_history.specs.declared.calls.Call.TheVariants.{Tick}
use Rattle.swim_history.specs.declared.replies.Reply.TheVariants.{Started}
use Rattle.swim_history.specs.declared.replies.Probe.{Probe}
use Rattle.swim_history.specs.declared.entries.Choice.{Choice}
use Rattle.swim_history.specs.declared.entries.Choice.TheVariants.{Nothing, Round}
use Rattle.swim_history.specs.declared.entries.Entry.{Entry}
use Rattle.swim_history.specs.Setting.{Setting, IsSetting}
use Rattle.swim_history.specs.Clock.{phase, ticks, period_number}
use Rattle.swim_history.specs.Aim.{aim, was_heard, unless, unheard}
use Rattle.swim_history.specs.Round.{lists, listed, drawn}
use Rattle.swim_wire.specs.IdLaws.{has_part, has-IsPermutation}
use Rattle.swim_history.specs.Laws.Listed.{listed_is, has_front, all-leave, all-advanced, all-started}
use Rattle.swim_history.specs.Run.{IsRun, IsProbe, greatest_number, Answers}
use Rattle.swim_history.specs.Drawn.{DrawsEntry}
use Rattle.swim_targets.specs.Rounds.{drawn_of}
use Rattle.swim_detector.specs.declared.states.State.{State}
use Rattle.swim_detector.specs.Mirrors.{Mirrors, IsAnswered, IsListedNext, choice_after}
use Rattle.swim_detector.proofs.Settling.{requests_after}

-- the aim that no ack came of, by what the state remembers
pub unheard_is : (o : Setting) (h : List Entry) (s : State) → Mirrors o h s →
    option_and_then (λ m. unless s.heard m) s.aim ≡ unheard o h
unheard_is o h s m = rw m.aim_is (by (aim h) refl)
  where
    by : (a : Option ℕ) → aim h ≡ a →
        option_and_then (λ n. unless s.heard n) a ≡ option_and_then (λ n. unless (was_heard o h n) n) a
    by None is = refl
    by (Some n) is = ap (λ heard. unless heard n) (m.heard_is n is)

-- the choice of an order, if one was drawn
abbrev pub chosen : Option (ArrayVec ℕ) → Choice
chosen None = Nothing
chosen (Some order) = Round order

-- the order that was drawn is that of the choice
pub drawn_is : (d : Option (ArrayVec ℕ)) → drawn (chosen d) ≡ drawn_of d
drawn_is None = refl
drawn_is (Some order) = refl

-- the members stand in that order after the start
pub chosen_is : (d : Option (ArrayVec ℕ)) (before after : Lists) → after ≡ advance (redraw (drawn_of d) before) →
    chosen d ≡ choice_after (is_some d) after
chosen_is None before after begins = refl
chosen_is (Some order) before after begins =
    ap (λ ids. Round (record { items = ids })) (sym (ap all_of begins ∙ all-advanced [] order.items))

-- whom the probe is of
abbrev probed : Option Probe → Option ℕ
probed probe = option_map (λ probe. probe.target) probe

-- the member that is probed is the aim of the period
aimed : (o : Setting) (h : List Entry) (number : ℕ) (next : Option ℕ) (probe : Option Probe) →
    IsProbe o h number next probe → option_and_then (λ m. unless false m) (probed probe) ≡ next
aimed o h number None probe p = rw p refl
aimed o h number (Some m) probe p = rw p.2 refl

-- a chooser is asked for an order exactly where a round is drawn
draws_round : {S : Type 0} (orders : S → List ℕ → List ℕ → S → Type 0) (places : S → ℕ → ℕ → S → Type 0) (o : Setting)
    (h : List Entry) (judged : Option ℕ) (probe : Option Probe) (d : Option (ArrayVec ℕ)) (before after : S) →
    IfSome d (λ order. orders before (leave_judged judged (lists o h)).probed order.items after) →
    IfNone d (after ≡ before) →
    DrawsEntry orders places o h Tick (Started judged probe) (chosen d) before after
draws_round orders places o h judged probe None before after some none = none
draws_round orders places o h judged probe (Some order) before after some none = some

-- who is next in a round, after the judged member left it, is listed
in_round : (o : Setting) (h : List Entry) (judged : Option ℕ) (m : ℕ) →
    has (all_of (leave_judged judged (lists o h))) m ≡ true → has (listed o h) m ≡ true
in_round o h None m is = is
in_round o h (Some gone) m is =
    (and_parts (has (listed o h) m) (not (m == gone))
    (sym (has_part (λ other. not (other == gone)) m (listed o h)) ∙ rw (all-leave gone (lists o h)) at is)).0

pub next_listed : (o : Setting) (h : List Entry) (judged : Option ℕ) (order : Option (List ℕ)) (next : Option ℕ) →
    IsSetting o → IsRun o h → MayDraw order (leave_judged judged (lists o h)) →
    next ≡ front (redraw order (leave_judged judged (lists o h))).rest → IsListedNext o h next
next_listed o h judged order None s run may is = tt
next_listed o h judged order (Some m) s run may is =
    let r = redraw order (leave_judged judged (lists o h)) in
    let here : has (all_of (advance r)) m ≡ true =
    rw (all-advanced r.probed r.rest, list_any-append (nat_eq m) r.probed r.rest)
    (or_right (has r.probed m) (has r.rest m) (has_front m r.rest (sym is))) in
    let before = sym (has-IsPermutation m (all_of (leave_judged judged (lists o h))) (all_of (advance r))
    (all-started judged order (lists o h) may)) ∙ here in
    sym (listed_is o h s run m) ∙ in_round o h judged m before

pub next_of_round : (o : Setting) (h : List Entry) (s : State) (judged : Option ℕ) (order : Option (List ℕ))
    (next : Option ℕ) (left : Lists) → IsSetting o → IsRun o h → Mirrors o h s → left ≡ leave_judged judged s.targets →
    MayDraw order left →
    next ≡ front (redraw order left).rest → IsListedNext o h next
next_of_round o h s judged order next left setting run m leaves may is =
    let left_are : left ≡ leave_judged judged (lists o h) = leaves ∙ ap (leave_judged judged) m.lists_are in
    next_listed o h judged order next setting run (subst (MayDraw order) left_are may)
    (is ∙ ap (λ (r : Lists). front (redraw order r).rest) left_are)

-- a period begins: what the round, the chooser and the state became
pub record Begins {S : Type 0} (orders : S → List ℕ → List ℕ → S → Type 0) (o : Setting) (old new : State)
    (left : Lists) (judged next : Option ℕ) (d : Option (ArrayVec ℕ)) (before after : S) : Type 0 where
  pub judges : judged ≡ option_and_then (λ m. unless old.heard m) old.aim
  pub leaves : left ≡ leave_judged judged old.targets
  pub targets : new.targets ≡ advance (redraw (drawn_of d) left)
  pub member : next ≡ front (redraw (drawn_of d) left).rest
  pub may : MayDraw (drawn_of d) left
  pub order : IfSome d (λ order. orders before left.probed order.items after)
  pub none : IfNone d (after ≡ before)
  pub aims : new.aim ≡ next
  pub unheard : new.heard ≡ false
  pub requests : (new.requests.period ≡ old.requests.period) × (new.requests.waiting ≡ aged old.requests.waiting)
  pub phase : (t : ℕ) → old.phase ≡ t % o.period → new.phase ≡ (t + 1) % o.period

-- the round after the judged member left it
left_is : {S : Type 0} (orders : S → List ℕ → List ℕ → S → Type 0) (o : Setting) (h : List Entry) (old new : State)
    (left : Lists) (judged next : Option ℕ) (d : Option (ArrayVec ℕ)) (before after : S) →
    Mirrors o h old → Begins orders o old new left judged next d before after → left ≡ leave_judged judged (lists o h)
left_is orders o h old new left judged next d before after m b = b.leaves ∙ ap (leave_judged judged) m.lists_are

-- what a start is answered, and what the state is after it, where this was drawn
abbrev StartsWith : {S : Type 0} → (S → List ℕ → List ℕ → S → Type 0) → (S → ℕ → ℕ → S → Type 0) → Setting →
    List Entry → Option ℕ → Option Probe → State → S → S → Choice → Type 0
StartsWith orders places o h judged probe new before after choice =
    Answers o h Tick (Started judged probe) choice
    × DrawsEntry orders places o h Tick (Started judged probe) choice before after
    × ((seat number : ℕ) →
    Mirrors o (record { seat = seat; number = number; call = Tick; choice = choice; reply = Started judged probe } ∷
    h) new)

starts : {S : Type 0} (orders : S → List ℕ → List ℕ → S → Type 0) (places : S → ℕ → ℕ → S → Type 0) (o : Setting)
    (h : List Entry) (old new : State) (left : Lists) (judged next : Option ℕ) (d : Option (ArrayVec ℕ))
    (probe : Option Probe) (before after : S) →
    Mirrors o h old → Begins orders o old new left judged next d before after → phase o h ≡ 0 →
    period_number o h < greatest_number →
    IsProbe o h (period_number o h + 1) next probe →
    StartsWith orders places o h judged probe new before after (chosen d)
starts orders places o h old new left judged next d probe before after m b begins unspent probes =
    let left_are = left_is orders o h old new left judged next d before after m b in (
      record {
        begins = begins;
        unspent = unspent;
        judges = b.judges ∙ unheard_is o h old m;
        draws = rw drawn_is (subst (MayDraw (drawn_of d)) left_are b.may);
        probes = rw drawn_is (subst (λ n. IsProbe o h (period_number o h + 1) n probe)
            (b.member ∙ ap (λ (r : Lists). front (redraw (drawn_of d) r).rest) left_are) probes);
      },
      draws_round orders places o h judged probe d before after (rw left_are at b.order) b.none,
      λ seat number.
          let e : Entry = record
          { seat = seat; number = number; call = Tick; choice = chosen d; reply = Started judged probe } in
          record {
            lists_are = b.targets ∙ rw (left_are, drawn_is) refl;
            requests_are = requests_after o h e old new m b.requests refl;
            aim_is = b.aims ∙ sym (aimed o h (period_number o h + 1) next probe probes);
            heard_is = λ target is. b.unheard;
            phase_is = b.phase (ticks h) m.phase_is ∙ rw add-one refl;
          },
    )

pub started : {S : Type 0} (orders : S → List ℕ → List ℕ → S → Type 0) (places : S → ℕ → ℕ → S → Type 0) (o : Setting)
    (h : List Entry) (old new : State) (left : Lists) (judged next : Option ℕ) (d : Option (ArrayVec ℕ))
    (probe : Option Probe) (before after : S) →
    Mirrors o h old → Begins orders o old new left judged next d before after → phase o h ≡ 0 →
    period_number o h < greatest_number →
    IsProbe o h (period_number o h + 1) next probe →
    IsAnswered orders places o h Tick (record { reply = Started judged probe; begins_round = is_some d }) new before
    after
started orders places o h old new left judged next d probe before after m b begins unspent probes =
    subst (StartsWith orders places o h judged probe new before after) (chosen_is d left new.targets b.targets)
    (starts orders places o h old new left judged next d probe before after m b begins unspent probes)
