-- Answers for which nothing is drawn: to ticks within a period, to refused calls, and to messages.
use Rattle.std.proofs.Common.{◌≡◌, ◌≢◌, ℕ, ◌+◌, ◌%◌, Bool, true, false, ◌||◌, List, ◌∷◌, None, refl, sym, ap, ◌∙◌}
use Rattle.std.proofs.Common.{add-one}
use Rattle.std.specs.Prelude.{option_and_then}
use Rattle.std.specs.List.{list_any}
use Rattle.swim_wire.specs.Requests.{aged}
use Rattle.swim_history.specs.declared.calls.Call.{Call}
use Rattle.swim_history.specs.declared.calls.Call.TheVariants.{Tick, Hear, Join, Remove}
use Rattle.swim_history.specs.declared.replies.Reply.{Reply}
use Rattle.swim_history.specs.declared.replies.Reply.TheVariants.{Quiet, Started, Asked, Joined, Refused}
use Rattle.swim_history.specs.declared.replies.Refusal.{Refusal}
use Rattle.swim_history.specs.declared.entries.Choice.{Choice}
use Rattle.swim_history.specs.declared.entries.Choice.TheVariants.{Nothing, Round}
use Rattle.swim_history.specs.declared.entries.Entry.{Entry}
use Rattle.swim_history.specs.Setting.{Setting, IsSetting}
use Rattle.swim_history.specs.Events.{is_ticking, is_tick, is_starting, is_start, removes, acks}
use Rattle.swim_history.specs.Clock.{phase, ticks, period_number}
use Rattle.swim_history.specs.Aim.{since, unless, last_probed, aim, unheard}
use Rattle.swim_history.specs.Laws.Run.{period_number-within, period_number-same}
use Rattle.swim_history.specs.Waiting.{waiting, asked_in, sent_on_in}
use Rattle.swim_history.specs.Round.{lists, lists_then}
use Rattle.swim_history.specs.Laws.Waiting.{waiting_tick, waiting_same}
use Rattle.swim_history.specs.Laws.Unchanged.{no_refusal}
use Rattle.swim_history.specs.Run.{Answers}
use Rattle.swim_history.specs.Drawn.{DrawsEntry}
use Rattle.swim_detector.specs.declared.states.State.{State}
use Rattle.swim_relays.specs.Waiting.{Waiting}
use Rattle.swim_detector.specs.Mirrors.{Mirrors, Answer, plain, AreRequests, choice_of, may_draw, IsSettled, IsAnswered}

-- where the chooser isn't asked, it stays
undrawn : {S : Type 0} (orders : S → List ℕ → List ℕ → S → Type 0) (places : S → ℕ → ℕ → S → Type 0) (o : Setting)
    (h : List Entry) (call : Call) (reply : Reply) (choice : Choice) (c : S) →
    may_draw call reply choice ≡ false → DrawsEntry orders places o h call reply choice c c
undrawn orders places o h Tick (Started judged probe) (Round order) c none = absurd cc
undrawn orders places o h Tick (Asked m peer number relays) choice c none = absurd cc
undrawn orders places o h (Join id peer) (Joined place) choice c none = absurd cc
undrawn orders places o h call reply choice c none = refl

-- an answer for which nothing is drawn is one of any chooser
pub settled : {S : Type 0} (orders : S → List ℕ → List ℕ → S → Type 0) (places : S → ℕ → ℕ → S → Type 0) (o : Setting)
    (h : List Entry) (call : Call) (answer : Answer) (state : State) (c : S) →
    IsSettled o h call answer state → IsAnswered orders places o h call answer state c c
settled orders places o h call answer state c s =
    (s.0, undrawn orders places o h call answer.reply (choice_of answer state) c s.1, s.2)

abbrev pub plain_entry : ℕ → ℕ → Call → Reply → Entry
plain_entry seat number call reply =
    record { seat = seat; number = number; call = call; choice = Nothing; reply = reply }

-- the requests where the table stays, and none begins or ceases to wait
pub requests_same : (o : Setting) (h later : List Entry) (old new : Waiting) → AreRequests o h old → new ≡ old →
    waiting o later ≡ waiting o h → AreRequests o later new
requests_same o h later old new are same kept =
    (ap (λ (w : Waiting). w.period) same ∙ are.0, ap (λ (w : Waiting). w.waiting) same ∙ are.1 ∙ sym kept)

-- an entry by which nothing changes
stays : (o : Setting) (h : List Entry) (s : State) (e : Entry) → Mirrors o h s → is_tick e ≡ false →
    is_start e ≡ false → lists_then e.call e.reply e.choice (lists o h) ≡ lists o h →
    ((m : ℕ) → removes m e ≡ false) → ((m number : ℕ) → acks o.me m number e ≡ false) → asked_in e.call e.reply ≡ None →
    sent_on_in e.call e.reply ≡ None → Mirrors o (e ∷ h) s
stays o h s e m idle goes_on same unremoved unacked unasked unsent =
    let same_aim : aim (e ∷ h) ≡ aim h =
    rw goes_on (ap (λ (gone : ℕ → Bool). option_and_then (λ m. unless (gone m) m) (last_probed h))
    (λ i m. (unremoved m i) || list_any (removes m) (since is_start h))) in
    record {
      lists_are = m.lists_are ∙ sym same;
      requests_are = requests_same o h (e ∷ h) s.requests s.requests m.requests_are refl
          (waiting_same o h e idle unasked unsent);
      aim_is = m.aim_is ∙ sym same_aim;
      heard_is = λ target is.
          let same_number : period_number o (e ∷ h) ≡ period_number o h = period_number-same o h e idle in
          m.heard_is target (sym same_aim ∙ is) ∙
          rw (goes_on, unacked target (period_number o (e ∷ h)))
          (ap (λ n. list_any (acks o.me target n) (since is_start h)) (sym same_number));
      phase_is = m.phase_is ∙ rw idle refl;
    }

-- a call is refused: nothing changes
pub refused : (o : Setting) (h : List Entry) (s : State) (call : Call) (why : Refusal) → Mirrors o h s →
    Answers o h call (Refused why) Nothing → IsSettled o h call (plain (Refused why)) s
refused o h s Tick why m fits = (
  fits,
  refl,
  λ seat number. stays o h s (plain_entry seat number Tick (Refused why)) m refl refl refl (λ n. refl)
      (λ n k. refl) refl refl,
)
refused o h s (Hear source message) why m fits = absurd (no_refusal o h message source message.kind why fits)
refused o h s (Join id peer) why m fits = (
  fits,
  refl,
  λ seat number. stays o h s (plain_entry seat number (Join id peer) (Refused why)) m refl refl refl
      (λ n. refl) (λ n k. refl) refl refl,
)
refused o h s (Remove id) why m fits = (
  fits,
  refl,
  λ seat number. stays o h s (plain_entry seat number (Remove id) (Refused why)) m refl refl refl
      (λ n. refl) (λ n k. refl) refl refl,
)

-- a tick of the state: its requests age, and its phase goes on
pub record Passes (o : Setting) (old new : State) : Type 0 where
  pub targets : new.targets ≡ old.targets
  pub aim : new.aim ≡ old.aim
  pub heard : new.heard ≡ old.heard
  pub requests : (new.requests.period ≡ old.requests.period) × (new.requests.waiting ≡ aged old.requests.waiting)
  pub phase : (t : ℕ) → old.phase ≡ t % o.period → new.phase ≡ (t + 1) % o.period

-- the requests after a tick
pub requests_after : (o : Setting) (h : List Entry) (e : Entry) (old new : State) → Mirrors o h old →
    (new.requests.period ≡ old.requests.period) × (new.requests.waiting ≡ aged old.requests.waiting) →
    is_ticking e.call e.reply ≡ true →
    AreRequests o (e ∷ h) new.requests
requests_after o h e old new m aging ticking =
    (aging.0 ∙ m.requests_are.0, rw (waiting_tick o h e ticking) (rw m.requests_are.1 at aging.1))

-- a tick within a period
pub passed : (o : Setting) (h : List Entry) (reply : Reply) (old new : State) (seat number : ℕ) → IsSetting o →
    Mirrors o h old → Passes o old new → is_ticking Tick reply ≡ true → is_starting reply ≡ false → phase o h ≢ 0 →
    Mirrors o (plain_entry seat number Tick reply ∷ h) new
passed o h (Started judged probe) old new seat number s m p ticking starting inside = absurd cc
passed o h (Refused why) old new seat number s m p ticking starting inside = absurd cc
passed o h reply old new seat number s m p ticking starting inside =
    let e = plain_entry seat number Tick reply in
    let same = period_number-within o h e s ticking inside in
    record {
      lists_are = p.targets ∙ m.lists_are;
      requests_are = requests_after o h e old new m p.requests ticking;
      aim_is = p.aim ∙ m.aim_is;
      heard_is = λ target is. p.heard ∙ m.heard_is target is ∙
          ap (λ n. list_any (acks o.me target n) (since is_start h)) (sym same);
      phase_is = p.phase (ticks h) m.phase_is ∙ rw add-one refl;
    }

-- a quiet tick
pub quiet : (o : Setting) (h : List Entry) (old new : State) → IsSetting o → Mirrors o h old → Passes o old new →
    phase o h ≢ 0 → (phase o h ≡ o.rtt → unheard o h ≡ None) → IsSettled o h Tick (plain Quiet) new
quiet o h old new s m p inside silent =
    ((inside, silent), refl, λ seat number. passed o h Quiet old new seat number s m p refl refl inside)
