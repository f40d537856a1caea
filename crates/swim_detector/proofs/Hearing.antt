-- Answers to messages.
use Rattle.std.proofs.Common.{◌≡◌, ◌≢◌, ℕ, ◌+◌, ◌<◌, ◌≤◌, Bool, true, false, ◌||◌, ◌&&◌, List, [], ◌∷◌, ◌++◌, length}
use Rattle.std.proofs.Common.{Some, None, refl, sym, ap, ◌∙◌, arith, length-append}
use Rattle.std.specs.Prelude.{◌==◌}
use Rattle.std.proofs.lemmas.Bool.{eq-eqb, ne_eqb, eqb-true}
use Rattle.std.proofs.lemmas.Option.{same_Some}
use Rattle.swim_wire.specs.Address.{Address}
use Rattle.swim_wire.specs.Probe.{key_of, ping_by, ack_by}
use Rattle.swim_wire.specs.declared.messages.Key.{Key}
use Rattle.swim_wire.specs.RequestLaws.{forget_none, waits_none}
use Rattle.swim_wire.specs.Requests.{Request, waits, forget, asker_for}
use Rattle.swim_wire.specs.Messages.{Message}
use Rattle.swim_wire.specs.declared.messages.Kind.{Kind}
use Rattle.swim_wire.specs.declared.messages.Version.{Version}
use Rattle.swim_wire.specs.declared.messages.Kind.TheVariants.{Ping, PingReq, Ack}
use Rattle.swim_history.specs.declared.calls.Call.TheVariants.{Hear}
use Rattle.swim_history.specs.declared.replies.Reply.{Reply}
use Rattle.swim_history.specs.declared.replies.Reply.TheVariants.{Heard, Send, Dropped}
use Rattle.swim_history.specs.declared.replies.DropReason.{DropReason}
use Rattle.swim_history.specs.declared.replies.DropReason.TheVariants.{NotForMe, TableFull, Stray, NoRequest}
use Rattle.swim_history.specs.declared.entries.Entry.{Entry}
use Rattle.swim_history.specs.Setting.{Setting, IsSetting}
use Rattle.swim_history.specs.Events.{is_acking}
use Rattle.swim_history.specs.Clock.{period_number}
use Rattle.swim_history.specs.Aim.{aim, was_heard}
use Rattle.swim_history.specs.Waiting.{waiting, asked_in, sent_on_in}
use Rattle.swim_history.specs.Laws.Waiting.{waiting_asked, waiting_answered, waiting_same}
use Rattle.swim_history.specs.Laws.Run.{hears_no_start}
use Rattle.swim_history.specs.Run.{Hears, IsRequest, target_at, is_waiting}
use Rattle.swim_wire.specs.Requests.{most_waiting}
use Rattle.swim_detector.specs.declared.states.State.{State}
use Rattle.swim_relays.specs.Waiting.{Waiting}
use Rattle.swim_detector.specs.Mirrors.{Mirrors, plain, AreRequests, IsSettled}
use Rattle.swim_detector.proofs.Settling.{plain_entry, requests_same}

-- whether a message is an ack of the aim for this period
abbrev counts : Setting → List Entry → ℕ → Message → Address → Bool
counts o h target m source = is_acking o.me target (period_number o h) (Hear source m)

-- a message was answered: only the requests that wait and what was heard may have changed
hears : (o : Setting) (h : List Entry) (m : Message) (source : Address) (reply : Reply) (old new : State) →
    Mirrors o h old → Hears o h m source m.kind reply →
    new.targets ≡ old.targets → new.aim ≡ old.aim → new.phase ≡ old.phase →
    ((seat number : ℕ) → AreRequests o (plain_entry seat number (Hear source m) reply ∷ h) new.requests) →
    ((target : ℕ) → aim h ≡ Some target → new.heard ≡ (counts o h target m source || was_heard o h target)) →
    IsSettled o h (Hear source m) (plain reply) new
hears o h m source reply old new mirrors fits targets aims phases requests heard = (
  fits,
  refl,
  λ seat number.
      let idle = hears_no_start o h m source m.kind reply fits in
      let e = plain_entry seat number (Hear source m) reply in
      let same_aim : aim (e ∷ h) ≡ aim h = rw idle refl in
      record {
        lists_are = targets ∙ mirrors.lists_are;
        requests_are = requests seat number;
        aim_is = aims ∙ mirrors.aim_is ∙ sym same_aim;
        heard_is = λ target is. heard target (sym same_aim ∙ is) ∙ rw idle refl;
        phase_is = phases ∙ mirrors.phase_is;
      },
)

-- nothing changed
same_state : (o : Setting) (h : List Entry) (m : Message) (source : Address) (reply : Reply) (s : State) →
    Mirrors o h s → Hears o h m source m.kind reply →
    asked_in (Hear source m) reply ≡ None → sent_on_in (Hear source m) reply ≡ None →
    ((target : ℕ) → aim h ≡ Some target → counts o h target m source ≡ false) →
    IsSettled o h (Hear source m) (plain reply) s
same_state o h m source reply s mirrors fits unasked unsent uncounted =
    hears o h m source reply s s mirrors fits refl refl refl
    (λ seat number. let e = plain_entry seat number (Hear source m) reply in
    requests_same o h (e ∷ h) s.requests s.requests mirrors.requests_are refl
    (waiting_same o h e refl unasked unsent))
    (λ target is. mirrors.heard_is target is ∙ rw (uncounted target is) refl)

-- a message that is no ack doesn't count as one
no_ack : (o : Setting) (h : List Entry) (m : Message) (source : Address) (kind : Kind) (target : ℕ) → m.kind ≡ kind →
    kind ≢ Ack → counts o h target m source ≡ false
no_ack o h m source Ping target is other = rw is refl
no_ack o h m source PingReq target is other = rw is refl
no_ack o h m source Ack target is other = absurd (other refl)

-- ---- pings

pub ping_dropped : (o : Setting) (h : List Entry) (m : Message) (source : Address) (s : State) → Mirrors o h s →
    m.kind ≡ Ping → m.target ≢ o.me → IsSettled o h (Hear source m) (plain (Dropped NotForMe)) s
ping_dropped o h m source s mirrors is other =
    same_state o h m source (Dropped NotForMe) s mirrors (rw is other) refl refl
    (λ target aims. no_ack o h m source Ping target is (λ e. absurd (cc e)))

pub ping_answered : (o : Setting) (h : List Entry) (m : Message) (source : Address) (s : State) → Mirrors o h s →
    m.kind ≡ Ping → m.target ≡ o.me → IsSettled o h (Hear source m) (plain (Send source (ack_by m.version o.me m))) s
ping_answered o h m source s mirrors is own =
    same_state o h m source (Send source (ack_by m.version o.me m)) s mirrors (rw is (own, refl, refl)) (rw is refl)
    (rw is refl) (λ target aims. no_ack o h m source Ping target is (λ e. absurd (cc e)))

-- ---- requests

-- a request is dropped
pub request_dropped : (o : Setting) (h : List Entry) (m : Message) (source : Address) (why : DropReason) (s : State) →
    Mirrors o h s → m.kind ≡ PingReq → Hears o h m source PingReq (Dropped why) →
    IsSettled o h (Hear source m) (plain (Dropped why)) s
request_dropped o h m source why s mirrors is fits =
    same_state o h m source (Dropped why) s mirrors (rw is fits) refl refl
    (λ target aims. no_ack o h m source PingReq target is (λ e. absurd (cc e)))

-- 64 others wait
pub request_full : (o : Setting) (h : List Entry) (m : Message) (source peer : Address) (s : State) → Mirrors o h s →
    m.kind ≡ PingReq → IsRequest o.me m → m.target ≢ o.me → target_at o h m ≡ Some peer →
    waits (key_of m) s.requests.waiting ≡ false → length s.requests.waiting ≡ 64 →
    IsSettled o h (Hear source m) (plain (Dropped TableFull)) s
request_full o h m source peer s mirrors is own other target none full =
    request_dropped o h m source TableFull s mirrors is (
      own,
      other,
      (λ missing. absurd (cc (target, missing))),
      rw mirrors.requests_are.1 at none,
      omega (arith, rw mirrors.requests_are.1 at full),
    )

-- one more request waits only where there is room for it
room_for : (key : Key) (rs new : List Request) (r : Request) → new ≡ forget key rs ++ r ∷ [] → length new ≤ 64 →
    waits key rs ≡ false → length rs < 64
room_for key rs new r is bound none =
    let count : length new ≡ length rs + 1 = ap length is ∙
    ap (λ (kept : List Request). length (kept ++ r ∷ [])) (forget_none key rs none) ∙ length-append rs (r ∷ []) in
    omega (arith, count, bound)

-- a request waits
pub request_taken : (o : Setting) (h : List Entry) (m : Message) (source peer : Address) (old new : State) →
    IsSetting o → Mirrors o h old → m.kind ≡ PingReq → IsRequest o.me m → m.target ≢ o.me →
    target_at o h m ≡ Some peer →
    new.targets ≡ old.targets → new.aim ≡ old.aim → new.phase ≡ old.phase → new.heard ≡ old.heard →
    new.requests ≡ record old.requests {
      waiting = forget (key_of m) old.requests.waiting ++
          record { key = key_of m; peer = source; version = m.version; left = old.requests.period } ∷ [];
    } →
    length new.requests.waiting ≤ 64 →
    IsSettled o h (Hear source m) (plain (Send peer (ping_by o.me m))) new
request_taken o h m source peer old new setting mirrors is own other target targets aims phases heard asked bound =
    let reply = Send peer (ping_by o.me m) in
    let r : Request = record { key = key_of m; peer = source; version = m.version; left = o.period } in
    let waits_now : new.requests.waiting ≡ forget (key_of m) (waiting o h) ++ r ∷ [] =
    rw (mirrors.requests_are.1, mirrors.requests_are.0) at (ap (λ (w : Waiting). w.waiting) asked) in
    let room : is_waiting o h m ≡ false →
    length (waiting o h) < most_waiting =
    λ none. room_for (key_of m) (waiting o h) new.requests.waiting r waits_now bound none in
    hears o h m source reply old new mirrors (rw is (own, other, target, room, refl)) targets aims phases
    (λ seat number. (
      ap (λ (w : Waiting). w.period) asked ∙ mirrors.requests_are.0,
      rw (waiting_asked o h (plain_entry seat number (Hear source m) reply) m source peer (ping_by o.me m)
          (omega (arith, setting.timing.0, setting.timing.1)) refl is refl) waits_now,
    ))
    (λ target aimed. heard ∙ mirrors.heard_is target aimed ∙
    rw (no_ack o h m source PingReq target is (λ e. absurd (cc e))) refl)

-- ---- acks of other members' probes

not_own : (o : Setting) (h : List Entry) (m : Message) (source : Address) (target : ℕ) → m.kind ≡ Ack →
    m.initiator ≢ o.me → counts o h target m source ≡ false
not_own o h m source target is other = rw (is, ne_eqb m.initiator o.me other) refl

-- an ack is sent on
pub ack_forwarded : (o : Setting) (h : List Entry) (m : Message) (source : Address) (asker : Address × Version)
    (old new : State) → Mirrors o h old → m.kind ≡ Ack → m.initiator ≢ o.me →
    Some asker ≡ asker_for (key_of m) old.requests.waiting →
    new.targets ≡ old.targets → new.aim ≡ old.aim → new.phase ≡ old.phase → new.heard ≡ old.heard →
    new.requests ≡ record old.requests { waiting = forget (key_of m) old.requests.waiting } →
    IsSettled o h (Hear source m) (plain (Send asker.0 (ack_by asker.1 o.me m))) new
ack_forwarded o h m source asker old new mirrors is other waits targets aims phases heard answered =
    let reply = Send asker.0 (ack_by asker.1 o.me m) in
    hears o h m source reply old new mirrors (rw is (other, asker.1, sym (rw mirrors.requests_are.1 at waits), refl))
    targets aims phases
    (λ seat number. (
      ap (λ (w : Waiting). w.period) answered ∙ mirrors.requests_are.0,
      rw (waiting_answered o h (plain_entry seat number (Hear source m) reply) m source asker.0 (ack_by asker.1 o.me m)
          refl is refl) (rw mirrors.requests_are.1 at (ap (λ (w : Waiting). w.waiting) answered)),
    ))
    (λ target aimed. heard ∙ mirrors.heard_is target aimed ∙ rw (not_own o h m source target is other) refl)

-- nobody waits for the ack
pub ack_unasked : (o : Setting) (h : List Entry) (m : Message) (source : Address) (old new : State) → Mirrors o h old →
    m.kind ≡ Ack → m.initiator ≢ o.me → None ≡ asker_for (key_of m) old.requests.waiting →
    new.targets ≡ old.targets → new.aim ≡ old.aim → new.phase ≡ old.phase → new.heard ≡ old.heard →
    new.requests ≡ record old.requests { waiting = forget (key_of m) old.requests.waiting } →
    IsSettled o h (Hear source m) (plain (Dropped NoRequest)) new
ack_unasked o h m source old new mirrors is other waits targets aims phases heard answered =
    let reply = Dropped NoRequest in
    hears o h m source reply old new mirrors (rw is (other, sym (rw mirrors.requests_are.1 at waits))) targets aims
    phases
    (λ seat number.
    let e = plain_entry seat number (Hear source m) reply in
    let unasked = forget_none (key_of m) old.requests.waiting
    (waits_none (key_of m) old.requests.waiting (sym waits)) in
    requests_same o h (e ∷ h) old.requests new.requests mirrors.requests_are (answered ∙ rw unasked refl)
    (waiting_same o h e refl refl refl))
    (λ target aimed. heard ∙ mirrors.heard_is target aimed ∙ rw (not_own o h m source target is other) refl)

-- ---- acks of this member's own probe

pub ack_heard : (o : Setting) (h : List Entry) (m : Message) (source : Address) (old new : State) → Mirrors o h old →
    m.kind ≡ Ack → m.initiator ≡ o.me → aim h ≡ Some m.target → m.number ≡ period_number o h →
    new.targets ≡ old.targets → new.aim ≡ old.aim → new.phase ≡ old.phase → new.requests ≡ old.requests →
    new.heard ≡ true →
    IsSettled o h (Hear source m) (plain Heard) new
ack_heard o h m source old new mirrors is own aimed now targets aims phases relays heard =
    hears o h m source Heard old new mirrors (rw is (own, aimed, now)) targets aims phases
    (λ seat number. let e = plain_entry seat number (Hear source m) Heard in
    requests_same o h (e ∷ h) old.requests new.requests mirrors.requests_are relays
    (waiting_same o h e refl refl refl))
    (λ target is_aim. heard ∙
    rw (
      is,
      eq-eqb m.initiator o.me own,
      eq-eqb m.target target (same_Some m.target target (sym aimed ∙ is_aim)),
      eq-eqb m.number (period_number o h) now,
    ) refl)

pub ack_stray : (o : Setting) (h : List Entry) (m : Message) (source : Address) (s : State) → Mirrors o h s →
    m.kind ≡ Ack → m.initiator ≡ o.me → (aim h ≡ Some m.target → m.number ≢ period_number o h) →
    IsSettled o h (Hear source m) (plain (Dropped Stray)) s
ack_stray o h m source s mirrors is own late =
    same_state o h m source (Dropped Stray) s mirrors (rw is (own, late)) refl refl
    (λ target aims. rw (is, eq-eqb m.initiator o.me own) (by target aims (m.target == target) refl))
  where
    by : (target : ℕ) → aim h ≡ Some target → (b : Bool) → (m.target == target) ≡ b →
        ((m.target == target) && m.number == period_number o h) ≡ false
    by target aims true same =
        rw (same, ne_eqb m.number (period_number o h) (late (aims ∙ ap Some (sym (eqb-true m.target target same)))))
        refl
    by target aims false different = rw different refl
