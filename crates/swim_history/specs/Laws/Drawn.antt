-- A drawn run is determined by its calls: choosers that answer the same make the same run of the same calls.
use Rattle.std.proofs.Common.{◌≡◌, ◌≢◌, ◌⊎◌, ℕ, Bool, true, false, List, [], ◌∷◌, length, Option, Some, refl, sym, ap}
use Rattle.std.proofs.Common.{subst, ◌∙◌, inl, inr, arith}
use Rattle.std.proofs.lemmas.Option.{same_Some}
use Rattle.std.specs.Prelude.{map, min, take}
use Rattle.std.specs.List.{AllByRecursion}
use Rattle.arrayvec.specs.ArrayVec.{ArrayVec}
use Rattle.swim_wire.specs.Address.{Address}
use Rattle.swim_wire.specs.Ids.{has}
use Rattle.swim_wire.specs.Round.{leave_judged}
use Rattle.swim_wire.specs.declared.messages.Kind.{Kind}
use Rattle.swim_wire.specs.declared.messages.Kind.TheVariants.{Ping, PingReq, Ack}
use Rattle.swim_wire.specs.Messages.{Message}
use Rattle.swim_history.specs.declared.calls.Call.{Call}
use Rattle.swim_history.specs.declared.calls.Call.TheVariants.{Tick, Hear, Join, Remove}
use Rattle.swim_history.specs.declared.replies.Reply.{Reply}
use Rattle.swim_history.specs.declared.replies.Reply.TheVariants.{Quiet, Started, Asked, Joined, Removed, Refused}
use Rattle.swim_history.specs.declared.replies.Probe.{Probe}
use Rattle.swim_history.specs.declared.replies.Relay.{Relay}
use Rattle.swim_history.specs.declared.replies.Refusal.TheVariants.{Myself, Listed, Full, Unknown, Spent}
use Rattle.swim_history.specs.declared.entries.Choice.{Choice}
use Rattle.swim_history.specs.declared.entries.Choice.TheVariants.{Nothing, Round}
use Rattle.swim_history.specs.declared.entries.Entry.{Entry}
use Rattle.swim_history.specs.Setting.{Setting, IsSetting}
use Rattle.swim_history.specs.Rows.{up, row_of}
use Rattle.swim_history.specs.Round.{lists, listed}
use Rattle.swim_history.specs.Run.{IsStart, candidates, AreRelays, Hears, Answers, calls_of, Continues, IsRun}
use Rattle.swim_history.specs.Laws.Determined.{address_in, address_once, settled, fits_once, starts_once}
use Rattle.swim_history.specs.Drawn.{DrawsRelays, DrawsEntry, IsDrawn}

-- choosers that are the same answer the same, and are the same afterwards
pub record IsFunctional {S : Type 0} (orders : S → List ℕ → List ℕ → S → Type 0) (places : S → ℕ → ℕ → S → Type 0)
    (same : S → S → Type 0) : Type 0 where
  pub order : (one other after after' : S) (ids order order' : List ℕ) → same one other → orders one ids order after →
      orders other ids order' after' → (order ≡ order') × same after after'
  pub place : (one other after after' : S) (last place place' : ℕ) → same one other → places one last place after →
      places other last place' after' → (place ≡ place') × same after after'

-- the calls of a history, each with its seat, newest first
abbrev pub calls_in : List Entry → List (ℕ × Call)
calls_in h = map (λ e. (e.seat, e.call)) h

-- at most one drawn run, and one chooser after it, fit an opening, a chooser and a list of calls
abbrev pub DrawsOnce : {S : Type 0} → (S → List ℕ → List ℕ → S → Type 0) → (S → ℕ → ℕ → S → Type 0) → (S → S → Type 0) →
    Setting → Type 0
DrawsOnce {S} orders places same o =
    (start start' now now' : S) (h h' : List Entry) → same start start' → IsRun o h → IsRun o h' →
    calls_in h ≡ calls_in h' →
    IsDrawn orders places o start h now → IsDrawn orders places o start' h' now' → (h ≡ h') × same now now'

-- ---- replies

-- the reply has a part that is free
abbrev is_free : Call → Reply → Bool
is_free Tick (Started judged probe) = true
is_free Tick (Asked target peer number relays) = true
is_free (Join id peer) (Joined place) = true
is_free call reply = false

is_free-settled : (call : Call) (reply : Reply) → is_free call (settled reply) ≡ is_free call reply
is_free-settled Tick (Started judged probe) = refl
is_free-settled Tick (Asked target peer number relays) = refl
is_free-settled (Join id peer) (Joined place) = refl
is_free-settled call reply = refl

-- a reply with no free part is as it is settled, and nothing was drawn for it
record IsFixed (reply : Reply) (choice : Choice) : Type 0 where
  settles : settled reply ≡ reply
  drawn : choice ≡ Nothing

hears_fixed : (o : Setting) (h : List Entry) (m : Message) (source : Address) (kind : Kind) (reply : Reply) →
    Hears o h m source kind reply → settled reply ≡ reply
hears_fixed o h m source Ping (Started judged probe) a = absurd a
hears_fixed o h m source Ping (Asked target peer number relays) a = absurd a
hears_fixed o h m source Ping (Joined place) a = absurd a
hears_fixed o h m source PingReq (Started judged probe) a = absurd a
hears_fixed o h m source PingReq (Asked target peer number relays) a = absurd a
hears_fixed o h m source PingReq (Joined place) a = absurd a
hears_fixed o h m source Ack (Started judged probe) a = absurd a
hears_fixed o h m source Ack (Asked target peer number relays) a = absurd a
hears_fixed o h m source Ack (Joined place) a = absurd a
hears_fixed o h m source kind reply a = refl

fixed : (o : Setting) (h : List Entry) (call : Call) (reply : Reply) (choice : Choice) → Answers o h call reply choice →
    is_free call reply ≡ false → IsFixed reply choice
fixed o h Tick (Refused Spent) Nothing a none = record { settles = refl; drawn = refl }
fixed o h Tick Quiet Nothing a none = record { settles = refl; drawn = refl }
fixed o h Tick (Started judged probe) choice a none = absurd cc
fixed o h Tick (Asked target peer number relays) choice a none = absurd cc
fixed o h (Hear source m) reply Nothing a none =
    record { settles = hears_fixed o h m source m.kind reply a; drawn = refl }
fixed o h (Join id peer) (Refused Myself) Nothing a none = record { settles = refl; drawn = refl }
fixed o h (Join id peer) (Refused Listed) Nothing a none = record { settles = refl; drawn = refl }
fixed o h (Join id peer) (Refused Full) Nothing a none = record { settles = refl; drawn = refl }
fixed o h (Join id peer) (Joined place) choice a none = absurd cc
fixed o h (Remove id) (Refused Myself) Nothing a none = record { settles = refl; drawn = refl }
fixed o h (Remove id) (Refused Unknown) Nothing a none = record { settles = refl; drawn = refl }
fixed o h (Remove id) Removed Nothing a none = record { settles = refl; drawn = refl }
fixed o h call reply choice a none = absurd a

-- where the reply has no free part, the chooser isn't asked
undrawn : {S : Type 0} (orders : S → List ℕ → List ℕ → S → Type 0) (places : S → ℕ → ℕ → S → Type 0) (o : Setting)
    (h : List Entry) (call : Call) (reply : Reply) (choice : Choice) (before after : S)
    → DrawsEntry orders places o h call reply choice before after → is_free call reply ≡ false → after ≡ before
undrawn orders places o h Tick (Started judged probe) choice before after d none = absurd cc
undrawn orders places o h Tick (Asked target peer number relays) choice before after d none = absurd cc
undrawn orders places o h (Join id peer) (Joined place) choice before after d none = absurd cc
undrawn orders places o h call reply choice before after d none = d

-- ---- relays

relay_is : (r r' : Relay) → r.id ≡ r'.id → r.peer ≡ r'.peer → r ≡ r'
relay_is r r' ids peers =
    ap (λ (n : ℕ). record { id = n; peer = r.peer }) ids ∙ ap (λ (p : Address). record { id = r'.id; peer = p }) peers

abbrev ids_in : List Relay → List ℕ
ids_in relays = map (λ relay. relay.id) relays

-- relays of the same ids, each at its member's address
relays_same : (o : Setting) (h : List Entry) (Is : Relay → Type 0) (rs rs' : List Relay) → ids_in rs ≡ ids_in rs'
    → AllByRecursion (λ relay. Is relay × (row_of o h relay.id ≡ Some (up relay.id relay.peer))) rs →
    AllByRecursion (λ relay. Is relay × (row_of o h relay.id ≡ Some (up relay.id relay.peer))) rs' → rs ≡ rs'
relays_same o h Is [] [] ids each each' = refl
relays_same o h Is [] (r' ∷ rs') ids each each' = absurd cc
relays_same o h Is (r ∷ rs) [] ids each each' = absurd cc
relays_same o h Is (r ∷ rs) (r' ∷ rs') ids each each' =
    let first : r.id ≡ r'.id = cc in
    let others : ids_in rs ≡ ids_in rs' = cc in
    let at : address_in (row_of o h r.id) ≡ Some r.peer = ap address_in each.0.1 in
    let at' : address_in (row_of o h r'.id) ≡ Some r'.peer = ap address_in each'.0.1 in
    let peers = same_Some r.peer r'.peer (sym at ∙ ap (λ (id : ℕ). address_in (row_of o h id)) first ∙ at') in
    ap (λ (x : Relay). x ∷ rs) (relay_is r r' first peers) ∙ ap (λ (xs : List Relay). r' ∷ xs)
    (relays_same o h Is rs rs' others each.1 each'.1)

-- where nobody is to be asked, nobody is
no_relays : (k : ℕ) (ids : List ℕ) (relays : List Relay) → (k ≡ 0) ⊎ (ids ≡ []) → length relays ≡ min k (length ids) →
    relays ≡ []
no_relays k ids [] none count = refl
no_relays k ids (relay ∷ relays) none count =
    elim none [
      | inl zero ↦ absurd (omega arith)
      | inr empty ↦ absurd (omega (arith, ap (λ (xs : List ℕ). length xs) empty))
    ]

none_or_some : (k : ℕ) (ids : List ℕ) → (k ≡ 0) ⊎ (ids ≡ []) → k ≢ 0 → ids ≢ [] → ⊥
none_or_some k ids none some others =
    elim none [
      | inl zero ↦ some zero
      | inr empty ↦ others empty
    ]

-- ---- one entry

-- the same reply and the same choice, and the same chooser afterwards
record IsSame {S : Type 0} (same : S → S → Type 0) (reply reply' : Reply) (choice choice' : Choice)
    (after after' : S) : Type 0 where
  replies : reply ≡ reply'
  choices : choice ≡ choice'
  choosers : same after after'

module _ {S : Type 0} (orders : S → List ℕ → List ℕ → S → Type 0) (places : S → ℕ → ℕ → S → Type 0)
    (same : S → S → Type 0) (f : IsFunctional orders places same) (o : Setting) (h : List Entry)
    (before before' after after' : S) (alike : same before before') where
  abbrev Draws : Call → Reply → Choice → Type 0
  Draws call reply choice = DrawsEntry orders places o h call reply choice before after

  abbrev Draws' : Call → Reply → Choice → Type 0
  Draws' call reply choice = DrawsEntry orders places o h call reply choice before' after'

  abbrev Same : Reply → Reply → Choice → Choice → Type 0
  Same reply reply' choice choice' = IsSame same reply reply' choice choice' after after'

  unasked : after ≡ before → after' ≡ before' → same after after'
  unasked e e' = subst (λ (x : S). same x after') (sym e) (subst (λ (x : S). same before x) (sym e') alike)

  -- the order of a round
  rounds_same : (judged : Option ℕ) (probe probe' : Option Probe) (choice choice' : Choice) →
      IsStart o h judged probe choice → IsStart o h judged probe' choice'
      → Draws Tick (Started judged probe) choice → Draws' Tick (Started judged probe') choice' → (choice ≡ choice')
      × same after after'
  rounds_same judged probe probe' Nothing Nothing a a' d d' = (refl, unasked d d')
  rounds_same judged probe probe' Nothing (Round order') a a' d d' = absurd (a'.draws.1 (a.draws a'.draws.0))
  rounds_same judged probe probe' (Round order) Nothing a a' d d' = absurd (a.draws.1 (a'.draws a.draws.0))
  rounds_same judged probe probe' (Round order) (Round order') a a' d d' =
      let drawn = f.order before before' after after'
      (leave_judged judged (lists o h)).probed order.items order'.items alike d d' in
      (ap (λ (ids : List ℕ). Round (record { items = ids })) drawn.0, drawn.1)

  start_same : (judged : Option ℕ) (probe probe' : Option Probe) (choice choice' : Choice) →
      IsStart o h judged probe choice → IsStart o h judged probe' choice'
      → Draws Tick (Started judged probe) choice → Draws' Tick (Started judged probe') choice' →
      Same (Started judged probe) (Started judged probe') choice choice'
  start_same judged probe probe' choice choice' a a' d d' =
      let drawn = rounds_same judged probe probe' choice choice' a a' d d' in
      let again : IsStart o h judged probe' choice =
      subst (λ (c : Choice). IsStart o h judged probe' c) (sym drawn.0) a' in
      record {
        replies = ap (Started judged) (starts_once o h judged judged probe probe' choice a again).1;
        choices =
            drawn.0;
        choosers = drawn.1;
      }

  -- the relays
  relay_ids_same : (ids : List ℕ) (rs rs' : List Relay) → length rs ≡ min o.k (length ids) →
      length rs' ≡ min o.k (length ids)
      → DrawsRelays orders o.k ids (ids_in rs) before after → DrawsRelays orders o.k ids (ids_in rs') before' after' →
      (ids_in rs ≡ ids_in rs') × same after after'
  relay_ids_same ids rs rs' count count' (inl none) (inl none') = (
    ap ids_in (no_relays o.k ids rs none.0 count ∙ sym (no_relays o.k ids rs' none.0 count')),
    unasked none.1 none'.1,
  )
  relay_ids_same ids rs rs' count count' (inl none) (inr some) = absurd (none_or_some o.k ids none.0 some.0 some.1)
  relay_ids_same ids rs rs' count count' (inr some) (inl none) = absurd (none_or_some o.k ids none.0 some.0 some.1)
  relay_ids_same ids rs rs' count count' (inr some) (inr some') =
      let drawn = f.order before before' after after' ids some.2 some'.2 alike some.3 some'.3 in
      (some.4 ∙ ap (take o.k) drawn.0 ∙ sym some'.4, drawn.1)

  asked_same : (target : ℕ) (peer : Address) (number : ℕ) (rs rs' : ArrayVec Relay) → AreRelays o h target rs.items →
      AreRelays o h target rs'.items
      → Draws Tick (Asked target peer number rs) Nothing → Draws' Tick (Asked target peer number rs') Nothing →
      Same (Asked target peer number rs) (Asked target peer number rs') Nothing Nothing
  asked_same target peer number rs rs' a a' d d' =
      let drawn = relay_ids_same (candidates o h target) rs.items rs'.items a.count a'.count d d' in
      let items = relays_same o h
      (λ relay. has (candidates o h target) relay.id ≡ true) rs.items rs'.items drawn.0 a.each a'.each in
      record {
        replies = ap (λ (xs : List Relay). Asked target peer number (record { items = xs })) items;
        choices =
            refl;
        choosers = drawn.1;
      }

  -- a reply with a free part
  free_same : (call : Call) (reply reply' : Reply) (choice choice' : Choice) → Answers o h call reply choice →
      Answers o h call reply' choice' → settled reply ≡ settled reply'
      → Draws call reply choice → Draws' call reply' choice' → is_free call reply ≡ true →
      Same reply reply' choice choice'
  free_same Tick (Started judged probe) (Started judged' probe') choice choice' a a' e d d' free =
      subst (λ (j : Option ℕ). IsStart o h j probe' choice' → Draws' Tick (Started j probe') choice' →
      Same (Started judged probe) (Started j probe') choice choice')
      (a.judges ∙ sym a'.judges) (λ a' d'. start_same judged probe probe' choice choice' a a' d d') a' d'
  free_same Tick (Asked target peer number rs) (Asked target' peer' number' rs') Nothing Nothing a a' e d d' free =
      subst (λ (t : ℕ). AreRelays o h t rs'.items → row_of o h t ≡ Some (up t peer') →
      Draws' Tick (Asked t peer' number' rs') Nothing →
      Same (Asked target peer number rs) (Asked t peer' number' rs') Nothing Nothing)
      (same_Some target target' (sym a.1 ∙ a'.1))
      (λ relays row d'. subst
      (λ (p : Address). Same (Asked target peer number rs) (Asked target p number' rs') Nothing Nothing)
      (address_once (row_of o h target) target peer peer' a.4 row)
      (subst (λ (n : ℕ). Same (Asked target peer number rs) (Asked target peer n rs') Nothing Nothing)
      (a.2 ∙ sym a'.2) (asked_same target peer number rs rs' a.3 relays d d'))) a'.3 a'.4 d'
  free_same Tick (Asked target peer number rs) (Asked target' peer' number' rs') Nothing (Round order') a a' e d d'
      free =
      absurd a'
  free_same Tick (Asked target peer number rs) (Asked target' peer' number' rs') (Round order) choice' a a' e d d'
      free = absurd a
  free_same (Join id peer) (Joined place) (Joined place') Nothing Nothing a a' e d d' free =
      let drawn = f.place before before' after after' (length (listed o h)) place place' alike d d' in
      record { replies = ap Joined drawn.0; choices = refl; choosers = drawn.1 }
  free_same (Join id peer) (Joined place) (Joined place') Nothing (Round order') a a' e d d' free = absurd a'
  free_same (Join id peer) (Joined place) (Joined place') (Round order) choice' a a' e d d' free = absurd a
  free_same call reply reply' choice choice' a a' e d d' free = absurd cc

  -- a reply with none
  fixed_same : (call : Call) (reply reply' : Reply) (choice choice' : Choice) → Answers o h call reply choice →
      Answers o h call reply' choice' → settled reply ≡ settled reply'
      → Draws call reply choice → Draws' call reply' choice' → is_free call reply ≡ false →
      Same reply reply' choice choice'
  fixed_same call reply reply' choice choice' a a' e d d' none =
      let none' : is_free call reply' ≡ false =
      sym (is_free-settled call reply') ∙ ap (is_free call) (sym e) ∙ is_free-settled call reply ∙ none in
      let x = fixed o h call reply choice a none in
      let x' = fixed o h call reply' choice' a' none' in
      record {
        replies = sym x.settles ∙ e ∙ x'.settles;
        choices = x.drawn ∙ sym x'.drawn;
        choosers = unasked (undrawn orders places o h call reply choice before after d none)
            (undrawn orders places o h call reply' choice' before' after' d' none');
      }

  entry_same : (call : Call) (reply reply' : Reply) (choice choice' : Choice) → Answers o h call reply choice →
      Answers o h call reply' choice' → settled reply ≡ settled reply'
      → Draws call reply choice → Draws' call reply' choice' → Same reply reply' choice choice'
  entry_same call reply reply' choice choice' a a' e d d' = by (is_free call reply) refl where
    by : (b : Bool) → is_free call reply ≡ b → Same reply reply' choice choice'
    by true is = free_same call reply reply' choice choice' a a' e d d' is
    by false is = fixed_same call reply reply' choice choice' a a' e d d' is

-- ---- a run

entry_is : (e e' : Entry) → e.seat ≡ e'.seat → e.number ≡ e'.number → e.call ≡ e'.call → e.choice ≡ e'.choice →
    e.reply ≡ e'.reply → e ≡ e'
entry_is e e' seats numbers calls choices replies =
    ap (λ (x : ℕ). record { seat = x; number = e.number; call = e.call; choice = e.choice; reply = e.reply }) seats
    ∙ ap (λ (x : ℕ). record { seat = e'.seat; number = x; call = e.call; choice = e.choice; reply = e.reply }) numbers
    ∙ ap (λ (x : Call). record {
      seat = e'.seat;
      number = e'.number;
      call = x;
      choice = e.choice;
      reply =
          e.reply;
    }) calls
    ∙ ap (λ (x : Choice). record {
      seat = e'.seat;
      number = e'.number;
      call = e'.call;
      choice = x;
      reply =
          e.reply;
    }) choices
    ∙ ap (λ (x : Reply). record {
      seat = e'.seat;
      number = e'.number;
      call = e'.call;
      choice = e'.choice;
      reply =
          x;
    }) replies

pub drawn_once : {S : Type 0} (orders : S → List ℕ → List ℕ → S → Type 0) (places : S → ℕ → ℕ → S → Type 0)
    (same : S → S → Type 0) (o : Setting) → IsFunctional orders places same → IsSetting o →
    DrawsOnce orders places same o
drawn_once orders places same o f s start start' now now' [] [] alike run run' calls d d' =
    (refl, unasked orders places same f o [] start start' now now' alike d d')
drawn_once orders places same o f s start start' now now' [] (e' ∷ h') alike run run' calls d d' = absurd cc
drawn_once orders places same o f s start start' now now' (e ∷ h) [] alike run run' calls d d' = absurd cc
drawn_once {S} orders places same o f s start start' now now' (e ∷ h) (e' ∷ h') alike run run' calls d d' =
    let earlier : calls_in h ≡ calls_in h' = cc in
    let last : ◌≡◌ {A = ℕ × Call} (e.seat, e.call) (e'.seat, e'.call) = cc in
    let seats = ap (λ (p : ℕ × Call). p.0) last in
    let called = ap (λ (p : ℕ × Call). p.1) last in
    let rest = drawn_once orders places same o f s start start' d.0 d'.0 h h' alike run.1 run'.1 earlier d.1 d'.1 in
    let continues : Continues o h e' = subst (λ (past : List Entry). Continues o past e') (sym rest.0) run'.0 in
    let answer : Answers o h e.call e'.reply e'.choice =
    subst (λ (call : Call). Answers o h call e'.reply e'.choice) (sym called) continues.answer in
    let draws : DrawsEntry orders places o h e'.call e'.reply e'.choice d'.0 now' =
    subst (λ (past : List Entry). DrawsEntry orders places o past e'.call e'.reply e'.choice d'.0 now')
    (sym rest.0) d'.2 in
    let draw : DrawsEntry orders places o h e.call e'.reply e'.choice d'.0 now' =
    subst (λ (call : Call). DrawsEntry orders places o h call e'.reply e'.choice d'.0 now') (sym called) draws in
    let settles = fits_once o s h e.call e.reply e'.reply e.choice e'.choice run.0.answer answer in
    let entry = entry_same orders places same f o h d.0 d'.0 now now' rest.1 e.call e.reply e'.reply e.choice e'.choice
    run.0.answer answer settles d.2 draw in
    let numbers : e.number ≡ e'.number =
    run.0.number ∙ ap (λ (seat : ℕ). calls_of seat h) seats ∙ sym continues.number in (
      ap (λ (x : Entry). x ∷ h) (entry_is e e' seats numbers called entry.choices entry.replies)
          ∙ ap (λ (past : List Entry). e' ∷ past) rest.0,
      entry.choosers,
    )
