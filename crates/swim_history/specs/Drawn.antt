-- A drawn run: one whose choices are a chooser's answers, in the order of asking. What a chooser answers is a
-- matter of the chooser: orders relates the chooser before, ids, an order of them, and the chooser after, and
-- places the chooser before, the last place there is, a place, and the chooser after.
use Rattle.std.specs.Prelude.{◌≡◌, ◌≢◌, ◌⊎◌, ℕ, List, [], ◌∷◌, length, take, map}
use Rattle.swim_wire.specs.Round.{leave_judged}
use Rattle.swim_history.specs.declared.calls.Call.{Call}
use Rattle.swim_history.specs.declared.calls.Call.TheVariants.{Tick, Join}
use Rattle.swim_history.specs.declared.replies.Reply.{Reply}
use Rattle.swim_history.specs.declared.replies.Reply.TheVariants.{Started, Asked, Joined}
use Rattle.swim_history.specs.declared.entries.Choice.{Choice}
use Rattle.swim_history.specs.declared.entries.Choice.TheVariants.{Round}
use Rattle.swim_history.specs.declared.entries.Entry.{Entry}
use Rattle.swim_history.specs.Setting.{Setting}
use Rattle.swim_history.specs.Round.{lists, listed}
use Rattle.swim_history.specs.Run.{candidates}

-- the chooser orders the members that may be asked, and the first k are; where there are none, or k is 0, it
-- isn't asked
abbrev pub DrawsRelays : {S : Type 0} → (S → List ℕ → List ℕ → S → Type 0) → ℕ → List ℕ → List ℕ → S → S → Type 0
DrawsRelays orders k ids relays before after =
    (((k ≡ 0) ⊎ (ids ≡ [])) × (after ≡ before))
    ⊎ ((k ≢ 0) × (ids ≢ []) × (order : List ℕ) × orders before ids order after × (relays ≡ take k order))

-- what the chooser is asked for an entry: the order of a new round, the order of the members that may be asked
-- to ping the aim, the place of a joiner, and nothing else
abbrev pub DrawsEntry : {S : Type 0} → (S → List ℕ → List ℕ → S → Type 0) → (S → ℕ → ℕ → S → Type 0) → Setting →
    List Entry → Call → Reply → Choice → S → S → Type 0
DrawsEntry orders places o h Tick (Started judged probe) (Round order) before after =
    orders before (leave_judged judged (lists o h)).probed order.items after
DrawsEntry orders places o h Tick (Asked m peer number relays) choice before after =
    DrawsRelays orders o.k (candidates o h m) (map (λ relay. relay.id) relays.items) before after
DrawsEntry orders places o h (Join id peer) (Joined place) choice before after =
    places before (length (listed o h)) place after
DrawsEntry orders places o h call reply choice before after = after ≡ before

-- the choices of a run are those of the chooser, which is start before it and now after it
abbrev pub IsDrawn : {S : Type 0} → (S → List ℕ → List ℕ → S → Type 0) → (S → ℕ → ℕ → S → Type 0) → Setting → S →
    List Entry → S → Type 0
IsDrawn orders places o start [] now = now ≡ start
IsDrawn {S} orders places o start (e ∷ past) now =
    (between : S) × IsDrawn orders places o start past between
    × DrawsEntry orders places o past e.call e.reply e.choice between now
