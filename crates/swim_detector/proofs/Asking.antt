-- Answers to ticks at the timeout of an aim that no ack came of.
use Rattle.std.proofs.Common.{◌≡◌, ◌⊎◌, ℕ, zero, suc, Bool, true, false, ◌||◌, List, [], ◌∷◌, length, take, map, min}
use Rattle.std.proofs.Common.{refl, sym, ap, ◌∙◌, Some, arith, inl, inr}
use Rattle.std.specs.Prelude.{IsPermutation, nat_eq, ◌==◌, not}
use Rattle.std.specs.List.{AllByRecursion}
use Rattle.std.proofs.lemmas.Bool.{and_parts, or_parts, or_from, or_right, eq-eqb, false_from_ne_true, both_ways}
use Rattle.std.proofs.Math.Nat.{min-zero, zero-min}
use Rattle.std.proofs.lemmas.List.Sorted.{length_permutation}
use Rattle.std.proofs.lemmas.List.{length-map, length-take}
use Rattle.arrayvec.specs.ArrayVec.{ArrayVec}
use Rattle.swim_wire.specs.Address.{Address}
use Rattle.swim_wire.specs.Ids.{has, has_twice}
use Rattle.swim_history.specs.declared.calls.Call.TheVariants.{Tick}
use Rattle.swim_history.specs.declared.replies.Relay.{Relay}
use Rattle.swim_history.specs.declared.replies.Reply.TheVariants.{Asked}
use Rattle.swim_history.specs.declared.entries.Entry.{Entry}
use Rattle.swim_history.specs.Setting.{Setting, IsSetting}
use Rattle.swim_history.specs.Clock.{phase, period_number}
use Rattle.swim_history.specs.Aim.{unheard}
use Rattle.swim_history.specs.Rows.{up, row_of, is_listed}
use Rattle.swim_history.specs.Round.{listed}
use Rattle.swim_wire.specs.IdLaws.{has_part, once_part, has-IsPermutation, once-IsPermutation}
use Rattle.swim_history.specs.Laws.Listed.{listed_is, listed_once, aim_listed, unheard_aim}
use Rattle.swim_history.specs.Run.{IsRun, AreRelays, candidates}
use Rattle.swim_history.specs.Drawn.{DrawsRelays}
use Rattle.swim_detector.specs.declared.states.State.{State}
use Rattle.swim_detector.specs.Mirrors.{Mirrors, plain, AreListed, AreAt, IsAnswered}
use Rattle.swim_detector.proofs.Settling.{Passes, passed}

-- ---- the first ids of a list

has_take : (count id : ℕ) (ids : List ℕ) → has (take count ids) id ≡ true → has ids id ≡ true
has_take zero id [] e = absurd (cc e)
has_take zero id (x ∷ ids) e = absurd (cc e)
has_take (suc count) id [] e = absurd (cc e)
has_take (suc count) id (x ∷ ids) e = by (nat_eq id x) e (has_take count id ids)
  where
    by : (b : Bool) → (b || has (take count ids) id) ≡ true → (has (take count ids) id ≡ true → has ids id ≡ true) →
        (b || has ids id) ≡ true
    by true e again = refl
    by false e again = again e

once_take : (count : ℕ) (ids : List ℕ) → has_twice ids ≡ false → has_twice (take count ids) ≡ false
once_take zero [] once = refl
once_take zero (x ∷ ids) once = refl
once_take (suc count) [] once = refl
once_take (suc count) (x ∷ ids) once =
    let parts = or_parts (has ids x) (has_twice ids) once in
    or_from (has (take count ids) x) (has_twice (take count ids))
    (false_from_ne_true (has (take count ids) x) (λ there. both_ways (has ids x) parts.0 (has_take count x ids there)))
    (once_take count ids parts.1)

-- ---- candidates

candidate_listed : (o : Setting) (h : List Entry) (m id : ℕ) → IsSetting o → IsRun o h →
    has (candidates o h m) id ≡ true → is_listed o h id ≡ true
candidate_listed o h m id s run there =
    sym (listed_is o h s run id) ∙
    (and_parts (has (listed o h) id) (not (id == m))
    (sym (has_part (λ other. not (other == m)) id (listed o h)) ∙ there)).0

-- ids that are all candidates are listed
all_listed : (o : Setting) (h : List Entry) (ids : List ℕ) → ((id : ℕ) → has ids id ≡ true → is_listed o h id ≡ true) →
    AreListed o h ids
all_listed o h [] each = tt
all_listed o h (id ∷ ids) each = (
  each id (rw (eq-eqb id id refl) refl),
  all_listed o h ids (λ other there. each other (or_right (nat_eq other id) (has ids other) there)),
)

-- the first of an order of the candidates
chosen : (o : Setting) (h : List Entry) (m id : ℕ) (order : List ℕ) → IsPermutation (candidates o h m) order →
    has (take o.k order) id ≡ true → has (candidates o h m) id ≡ true
chosen o h m id order p there = sym (has-IsPermutation id (candidates o h m) order p) ∙ has_take o.k id order there

pub chosen_listed : (o : Setting) (h : List Entry) (m : ℕ) (order : List ℕ) → IsSetting o → IsRun o h →
    IsPermutation (candidates o h m) order → AreListed o h (take o.k order)
chosen_listed o h m order s run p =
    all_listed o h (take o.k order) (λ id there. candidate_listed o h m id s run (chosen o h m id order p there))

-- ---- relays

each_is : (o : Setting) (h : List Entry) (m : ℕ) (relays : List Relay) →
    ((id : ℕ) → has (map (λ relay. relay.id) relays) id ≡ true → has (candidates o h m) id ≡ true) → AreAt o h relays →
    AllByRecursion (λ relay. (has (candidates o h m) relay.id ≡ true) ×
    (row_of o h relay.id ≡ Some (up relay.id relay.peer))) relays
each_is o h m [] there at = tt
each_is o h m (relay ∷ relays) there at = (
  (there relay.id (rw (eq-eqb relay.id relay.id refl) refl), at.0),
  each_is o h m relays (λ id is.
      there id (or_right (nat_eq id relay.id) (has (map (λ relay. relay.id) relays) id) is)) at.1,
)

-- the first k of an order of the candidates, at their addresses
pub are_relays : (o : Setting) (h : List Entry) (m : ℕ) (order : List ℕ) (relays : List Relay) → IsSetting o →
    IsRun o h → IsPermutation (candidates o h m) order → map (λ relay. relay.id) relays ≡ take o.k order →
    AreAt o h relays →
    AreRelays o h m relays
are_relays o h m order relays s run p ids at = record {
  count = sym (length-map relays (λ relay. relay.id)) ∙
      (ap length ids ∙ (length-take o.k order ∙ ap (min o.k) (length_permutation (candidates o h m) order p)));
  once = rw ids (once_take o.k order
      (once-IsPermutation (candidates o h m) order p
      (once_part (λ other. not (other == m)) (listed o h) (listed_once o h s run))));
  each = each_is o h m relays (λ id there. chosen o h m id order p (rw ids at there)) at;
}

-- nobody is asked
pub no_relays : (o : Setting) (h : List Entry) (m : ℕ) → (o.k ≡ 0) ⊎ (candidates o h m ≡ []) → AreRelays o h m []
no_relays o h m none = record { count = by none; once = refl; each = tt }
  where
    by : (o.k ≡ 0) ⊎ (candidates o h m ≡ []) → 0 ≡ min o.k (length (candidates o h m))
    by (inl none) = rw none (sym (zero-min (length (candidates o h m))))
    by (inr nobody) = rw nobody (sym (min-zero o.k))

-- whom no ack was heard of is listed
pub aim_is_listed : (o : Setting) (h : List Entry) (m : ℕ) → IsSetting o → IsRun o h → unheard o h ≡ Some m →
    is_listed o h m ≡ true
aim_is_listed o h m s run silent = aim_listed o h m s run (unheard_aim o h m silent)

-- the aim is asked about
pub asked : {S : Type 0} (orders : S → List ℕ → List ℕ → S → Type 0) (places : S → ℕ → ℕ → S → Type 0) (o : Setting)
    (h : List Entry) (m : ℕ) (peer : Address) (number : ℕ) (relays : ArrayVec Relay) (old new : State)
    (before after : S) →
    IsSetting o → Mirrors o h old → Passes o old new → phase o h ≡ o.rtt → unheard o h ≡ Some m →
    number ≡ period_number o h → AreRelays o h m relays.items → row_of o h m ≡ Some (up m peer) →
    DrawsRelays orders o.k (candidates o h m) (map (λ relay. relay.id) relays.items) before after →
    IsAnswered orders places o h Tick (plain (Asked m peer number relays)) new before after
asked orders places o h m peer number relays old new before after s mirrors p timeout silent now are row drawn = (
  (timeout, silent, now, are, row),
  drawn,
  λ seat n. passed o h (Asked m peer number relays) old new seat n s mirrors p refl refl
      (λ begins. omega (arith, s.timing.0, timeout, begins)),
)
