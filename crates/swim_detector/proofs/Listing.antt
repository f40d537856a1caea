-- Answers to joins and removals.
use Rattle.std.proofs.Common.{◌≡◌, ◌≢◌, ℕ, ◌≤◌, Bool, true, false, ◌||◌, List, ◌∷◌, length, Option, Some, None, refl}
use Rattle.std.proofs.Common.{sym, ap, ◌∙◌, arith}
use Rattle.std.specs.Prelude.{◌==◌, option_and_then}
use Rattle.std.specs.List.{list_any}
use Rattle.std.proofs.lemmas.Bool.{false≢true}
use Rattle.swim_wire.specs.Address.{Address}
use Rattle.swim_wire.specs.Ids.{has}
use Rattle.swim_wire.specs.Round.{Lists, all_of, leave, join_at}
use Rattle.swim_history.specs.declared.calls.Call.TheVariants.{Join, Remove}
use Rattle.swim_history.specs.declared.replies.Reply.TheVariants.{Joined, Removed}
use Rattle.swim_history.specs.declared.entries.Entry.{Entry}
use Rattle.swim_history.specs.Setting.{Setting, IsSetting}
use Rattle.swim_history.specs.Events.{is_start, removes}
use Rattle.swim_history.specs.Aim.{since, unless, last_probed, aim}
use Rattle.swim_history.specs.Rows.{row_of, is_listed}
use Rattle.swim_history.specs.Changes.{known_count}
use Rattle.swim_history.specs.Round.{listed}
use Rattle.swim_history.specs.Laws.Waiting.{waiting_same}
use Rattle.swim_history.specs.Laws.Listed.{listed_is, room_to_join}
use Rattle.swim_history.specs.Run.{IsRun}
use Rattle.swim_targets.specs.declared.rounds.JoinFault.{JoinFault}
use Rattle.swim_targets.specs.declared.rounds.JoinFault.TheVariants.{Listed, Full}
use Rattle.swim_detector.specs.declared.states.State.{State}
use Rattle.swim_detector.specs.Mirrors.{Mirrors, plain, MayList, IsAnswered, IsSettled}
use Rattle.swim_detector.proofs.Settling.{plain_entry, requests_same}

-- a member that isn't listed, nor refused, may be listed
pub may_list : (o : Setting) (h : List Entry) (id : ℕ) → IsSetting o → IsRun o h → id ≢ o.me →
    is_listed o h id ≡ false → (row_of o h id ≡ None → known_count o h ≢ 128) → MayList o h id
may_list o h id s run other down known = record {
  other = other;
  down = down;
  known = known;
  unlisted = listed_is o h s run id ∙ down;
  room = room_to_join o h id s run down known;
}

-- such a member finds its place on the list
pub no_fault : (o : Setting) (h : List Entry) (s : State) (id : ℕ) (fault : JoinFault) → Mirrors o h s →
    MayList o h id →
    (fault ≡ Listed → has (all_of s.targets) id ≡ true) → (fault ≡ Full → length (all_of s.targets) ≡ 128) → ⊥
no_fault o h s id Listed m may is_on is_full =
    false≢true (sym may.unlisted ∙ ap (λ (r : Lists). has (all_of r) id) (sym m.lists_are) ∙ is_on refl)
no_fault o h s id Full m may is_on is_full =
    let full : length (listed o h) ≡ 128 = ap (λ (r : Lists). length (all_of r)) (sym m.lists_are) ∙ is_full refl in
    absurd (omega (arith, full, may.room))

-- the joiner is listed
pub joined : {S : Type 0} (orders : S → List ℕ → List ℕ → S → Type 0) (places : S → ℕ → ℕ → S → Type 0) (o : Setting)
    (h : List Entry) (id place : ℕ) (peer : Address) (old new : State) (before after : S) →
    Mirrors o h old → MayList o h id →
    place ≤ length (all_of old.targets) → places before (length (all_of old.targets)) place after →
    new.targets ≡ join_at id place old.targets →
    new.requests ≡ old.requests → new.aim ≡ old.aim → new.heard ≡ old.heard → new.phase ≡ old.phase →
    IsAnswered orders places o h (Join id peer) (plain (Joined place)) new before after
joined orders places o h id place peer old new before after m may within drawn listing relays aims heard phases = (
  (may.other, may.down, may.known, rw m.lists_are at within),
  rw m.lists_are at drawn,
  λ seat number. record {
    lists_are = listing ∙ ap (join_at id place) m.lists_are;
    requests_are = let e = plain_entry seat number (Join id peer) (Joined place) in
        requests_same o h (e ∷ h) old.requests new.requests m.requests_are relays (waiting_same o h e refl refl refl);
    aim_is = aims ∙ m.aim_is;
    heard_is = λ target is. heard ∙ m.heard_is target is;
    phase_is = phases ∙ m.phase_is;
  },
)

-- a value that two tests may take away
unless_either : (first second : ℕ → Bool) (probed : Option ℕ) →
    option_and_then (λ m. unless (first m || second m) m) probed ≡
    option_and_then (λ m. unless (first m) m) (option_and_then (λ m. unless (second m) m) probed)
unless_either first second None = refl
unless_either first second (Some m) = by (first m) (second m) refl
  where
    by : (a b : Bool) → first m ≡ a → unless (a || b) m ≡ option_and_then (λ m. unless (first m) m) (unless b m)
    by true true is = refl
    by true false is = rw is refl
    by false true is = refl
    by false false is = rw is refl

still : (gone : ℕ → Bool) (before : Option ℕ) (target : ℕ) →
    option_and_then (λ m. unless (gone m) m) before ≡ Some target → before ≡ Some target
still gone None target is = absurd (cc is)
still gone (Some m) target is = by (gone m) is
  where
    by : (b : Bool) → unless b m ≡ Some target → Some m ≡ Some target
    by true is = absurd (cc is)
    by false is = is

-- the member is forgotten
pub forgotten : (o : Setting) (h : List Entry) (id : ℕ) (old new : State) → Mirrors o h old → id ≢ o.me →
    row_of o h id ≢ None → new.targets ≡ leave id old.targets →
    new.aim ≡ option_and_then (λ m. unless (id == m) m) old.aim →
    new.requests ≡ old.requests → new.heard ≡ old.heard → new.phase ≡ old.phase →
    IsSettled o h (Remove id) (plain Removed) new
forgotten o h id old new m other known leaves aims relays heard phases = (
  (other, known),
  refl,
  λ seat number.
      let e = plain_entry seat number (Remove id) Removed in
      let aim_after : aim (e ∷ h) ≡ option_and_then (λ m. unless (id == m) m) (aim h) =
      unless_either (λ m. id == m) (λ m. list_any (removes m) (since is_start h)) (last_probed h) in
      record {
        lists_are = leaves ∙ ap (leave id) m.lists_are;
        requests_are = requests_same o h (e ∷ h) old.requests new.requests m.requests_are relays
            (waiting_same o h e refl refl refl);
        aim_is = aims ∙ (ap (option_and_then (λ m. unless (id == m) m)) m.aim_is ∙ sym aim_after);
        heard_is = λ target is. heard ∙ m.heard_is target (still (λ m. id == m) (aim h) target (sym aim_after ∙ is));
        phase_is = phases ∙ m.phase_is;
      },
)
