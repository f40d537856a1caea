-- What the fields of the detector mean, by the definitions over its journal.
use Rattle.std.specs.Prelude.{◌≡◌, ◌≢◌, ℕ, ◌<◌, ◌≤◌, Bool, true, false, List, ◌∷◌, length, slice_index, Option, Some}
use Rattle.std.specs.Prelude.{None}
use Rattle.swim_history.specs.declared.calls.Call.{Call}
use Rattle.swim_history.specs.declared.calls.Call.TheVariants.{Tick, Join, Remove}
use Rattle.swim_history.specs.declared.replies.Reply.{Reply}
use Rattle.swim_history.specs.declared.replies.Reply.TheVariants.{Started, Asked, Joined, Refused}
use Rattle.swim_history.specs.declared.entries.Choice.{Choice}
use Rattle.swim_history.specs.declared.entries.Choice.TheVariants.{Nothing, Round}
use Rattle.swim_history.specs.declared.entries.Entry.{Entry}
use Rattle.swim_history.specs.declared.replies.Refusal.{Refusal}
use Rattle.swim_history.specs.declared.replies.Relay.{Relay}
use Rattle.swim_wire.specs.Address.{Address}
use Rattle.swim_relays.specs.Waiting.{Waiting}
use Rattle.swim_wire.specs.Round.{Lists, all_of}
use Rattle.swim_wire.specs.Ids.{most_members, has}
use Rattle.swim_history.specs.Rows.{up, row_of, is_listed}
use Rattle.swim_history.specs.Changes.{known_count}
use Rattle.std.specs.List.{AllByRecursion}
use Rattle.swim_history.specs.Setting.{Setting}
use Rattle.swim_history.specs.Clock.{phase}
use Rattle.swim_history.specs.Aim.{aim, was_heard}
use Rattle.swim_history.specs.Round.{lists, listed}
use Rattle.swim_history.specs.Waiting.{waiting}
use Rattle.swim_history.specs.Run.{seats, calls_of, Answers}
use Rattle.swim_history.specs.Drawn.{DrawsEntry}
use Rattle.swim_detector.specs.declared.states.State.{State}

-- what a call is answered, and whether a round began by it
pub record Answer : Type 0 where
  pub reply : Reply
  pub begins_round : Bool

-- no round began by it
abbrev pub plain : Reply → Answer
plain reply = record { reply = reply; begins_round = false }

-- the requests that wait by the history, for as many ticks as its period has; where their count began is nobody's
-- concern
abbrev pub AreRequests : Setting → List Entry → Waiting → Type 0
AreRequests o h w = (w.period ≡ o.period) × (w.waiting ≡ waiting o h)

-- the state is what the definitions find in the history
pub record Mirrors (o : Setting) (h : List Entry) (s : State) : Type 0 where
  pub lists_are : s.targets ≡ lists o h
  pub requests_are : AreRequests o h s.requests
  pub aim_is : s.aim ≡ aim h
  pub heard_is : (m : ℕ) → aim h ≡ Some m → s.heard ≡ was_heard o h m
  pub phase_is : s.phase ≡ phase o h

-- what was drawn where these are the lists after it: the order of a round that begins is that of all members
abbrev pub choice_after : Bool → Lists → Choice
choice_after false r = Nothing
choice_after true r = Round (record { items = all_of r })

abbrev pub choice_of : Answer → State → Choice
choice_of answer state = choice_after answer.begins_round state.targets

-- the entry of a call with its answer, after which this is the state
abbrev pub entry_of : ℕ → ℕ → Call → Answer → State → Entry
entry_of seat number call answer state =
    record { seat = seat; number = number; call = call; choice = choice_of answer state; reply = answer.reply }

-- the same where a round began by it
abbrev pub round_entry : ℕ → ℕ → Call → Reply → State → Entry
round_entry seat number call reply state =
    entry_of seat number call (record { reply = reply; begins_round = true }) state

-- the chooser may have been asked for the entry
abbrev pub may_draw : Call → Reply → Choice → Bool
may_draw Tick (Started judged probe) (Round order) = true
may_draw Tick (Asked m peer number relays) choice = true
may_draw (Join id peer) (Joined place) choice = true
may_draw call reply choice = false

-- the answer to a call may follow the history, nothing was drawn for it, and the state is what the definitions
-- find in the history with its entry, whose ever the call was
abbrev pub IsSettled : Setting → List Entry → Call → Answer → State → Type 0
IsSettled o h call answer state =
    Answers o h call answer.reply (choice_of answer state)
    × (may_draw call answer.reply (choice_of answer state) ≡ false)
    × ((seat number : ℕ) → Mirrors o (entry_of seat number call answer state ∷ h) state)

-- the answer to a call may follow the history, its choices are the chooser's, and the state is what the
-- definitions find in the history with its entry, whose ever the call was
abbrev pub IsAnswered : {S : Type 0} → (S → List ℕ → List ℕ → S → Type 0) → (S → ℕ → ℕ → S → Type 0) → Setting →
    List Entry → Call → Answer → State → S → S → Type 0
IsAnswered orders places o h call answer state before after =
    Answers o h call answer.reply (choice_of answer state)
    × DrawsEntry orders places o h call answer.reply (choice_of answer state) before after
    × ((seat number : ℕ) → Mirrors o (entry_of seat number call answer state ∷ h) state)

-- each seat's count is how many calls of it stand in the history, which has at most so many entries
pub record Counts (h : List Entry) (counts : List ℕ) (limit : ℕ) : Type 0 where
  pub seats : (seat : ℕ) → seat < seats → slice_index counts seat ≡ calls_of seat h
  pub within : length h ≤ limit

-- the next member, if there is one, is listed
abbrev pub IsListedNext : Setting → List Entry → Option ℕ → Type 0
IsListedNext o h None = Unit {0}
IsListedNext o h (Some m) = is_listed o h m ≡ true

-- all of these members are listed
abbrev pub AreListed : Setting → List Entry → List ℕ → Type 0
AreListed o h ids = AllByRecursion (λ id. is_listed o h id ≡ true) ids

-- the relays are up at their addresses
abbrev pub AreAt : Setting → List Entry → List Relay → Type 0
AreAt o h relays = AllByRecursion (λ relay. row_of o h relay.id ≡ Some (up relay.id relay.peer)) relays

-- a member may be listed, and there is room for it
pub record MayList (o : Setting) (h : List Entry) (id : ℕ) : Type 0 where
  pub other : id ≢ o.me
  pub down : is_listed o h id ≡ false
  pub known : row_of o h id ≡ None → known_count o h ≢ most_members
  pub unlisted : has (listed o h) id ≡ false
  pub room : length (listed o h) < most_members

-- a joiner is refused for that reason, or may be listed
abbrev pub JoinsOr : Setting → List Entry → ℕ → Option Refusal → Type 0
JoinsOr o h id (Some refusal) = (peer : Address) → Answers o h (Join id peer) (Refused refusal) Nothing
JoinsOr o h id None = MayList o h id

-- a removal is refused for that reason, or may be made
abbrev pub RemovesOr : Setting → List Entry → ℕ → Option Refusal → Type 0
RemovesOr o h id (Some refusal) = Answers o h (Remove id) (Refused refusal) Nothing
RemovesOr o h id None = (id ≢ o.me) × (row_of o h id ≢ None)
