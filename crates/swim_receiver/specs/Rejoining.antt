-- Which members the receiver of a life joins again by itself.
use Rattle.std.specs.Prelude.{◌≡◌, ℕ, ◌-◌, ◌^◌, min, Bool, true, false, List, [], ◌∷◌, ◌++◌}
use Rattle.std.specs.Prelude.{Option, Some, None, option_and_then}
use mathlib.Core.List.{IsPrefix}
use Rattle.swim_wire.specs.Address.{Address}
use Rattle.swim_wire.specs.Messages.{Message}
use Rattle.swim_history.specs.declared.rows.Change.{Change}
use Rattle.swim_history.specs.declared.rows.Row.{Row}
use Rattle.swim_history.specs.Changes.{table_after}
use Rattle.swim_history.specs.Setting.{Setting}
use Rattle.swim_rejoin.specs.Believing.{believed}
use Rattle.swim_rejoin.specs.Histories.{rejoin_in, table_in}
use Rattle.swim_rejoin.specs.Rejoiners.{Follows}
use Rattle.swim_work.specs.declared.counts.Why.{Why}
use Rattle.swim_work.specs.Calling.{Hears, IsMessage, Joins}
use Rattle.swim_work.specs.Posts.{AtSender}
use Rattle.swim_receiver.specs.declared.rejoining.Returning.{Returning}
use Rattle.swim_receiver.specs.Happenings.{Happening, events_in, joins_in, period_told, rules_in, tidings_in}
use Rattle.swim_receiver.specs.Happenings.Happening.{Asked, Rejoined, Shown, Told}

-- what the receiver learns between two datagrams, newest first, while its viewer, which had seen some changes, comes to
-- have seen these: any tidings; which N is in force; or the table after a beginning of them, which has all that the
-- table before it showed
abbrev pub AreNews : Setting → List Change → List Change → List Happening → Type 0
AreNews o saw seen [] = IsPrefix saw seen
AreNews o saw seen (Told tidings ∷ before) = AreNews o saw seen before
AreNews o saw seen (Shown rows ∷ before) =
    (then : List Change) × IsPrefix then seen × (rows ≡ table_after o then) × AreNews o saw then before
AreNews o saw seen (Rejoined id ∷ before) = ⊥
AreNews o saw seen (Asked rejoin ∷ before) = AreNews o saw seen before

-- it learnt some of that
abbrev pub LearnsOn : Setting → List Change → List Change → List Happening → List Happening → Type 0
LearnsOn o saw seen h now = (more : List Happening) × (now ≡ more ++ h) × AreNews o saw seen more

-- what is remembered is what all that happened comes to, newest first, with the rows of the table that was last looked
-- at, and with the number of joins, which stops at 2^64-1. Each N is one that its lookup answered, in order, and it
-- answered no other; and all tidings are those that its inbox gave, in order, and it gave no others
abbrev pub IsReturning : Returning → List Happening → Type 0
IsReturning r h =
    Follows r.rejoiner (events_in h) × (r.rows.items ≡ table_in (events_in h))
    × (r.rejoins ≡ min (joins_in h) (2 ^ 64 - 1)) × (r.lookup ≡ rules_in h) × (r.inbox ≡ tidings_in h)
    × (r.period ≡ period_told h)

abbrev pub Learns : Setting → List Change → List Change → Returning → Returning → Type 0
Learns o saw seen old new =
    (h : List Happening) → IsReturning old h → (now : List Happening) × LearnsOn o saw seen h now × IsReturning new now

-- for the same member
abbrev pub IsOfSame : Returning → Returning → Type 0
IsOfSame old new = new.rejoiner.me ≡ old.rejoiner.me

-- who is to be joined again after it by the N that is in force, with the row that the table shows which was last looked
-- at
abbrev pub whom : ℕ → List Happening → Address → Option Message → Option Row
whom me h source message =
    option_and_then (λ m. believed (rejoin_in (events_in h)) me (events_in h) m source) message

-- that it was joined again is remembered where it was, and nothing where it wasn't
abbrev pub IsJoinTold : Row → Bool → List Happening → List Happening → Type 0
IsJoinTold row true h told = told ≡ Rejoined row.id ∷ h
IsJoinTold row false h told = told ≡ h

-- a member is joined again, and that is remembered, or nothing is
abbrev pub JoinsAgain : {O : Type 0} → Setting → ℕ → Row → Returning → AtSender O → Option Why → AtSender O →
    Returning → Type 0
JoinsAgain o limit row before old end new after =
    (is_joined : Bool) × Joins o limit row old end new is_joined
    × ((h : List Happening) → IsReturning before h →
    (told : List Happening) × IsReturning after told × IsJoinTold row is_joined h told)

-- what follows the call for a datagram: nothing where nobody is to be joined again, and else the call that joins it
abbrev pub JoinsThen : {O : Type 0} → Setting → ℕ → Option Row → List Happening → AtSender O → Option Why → Option Why →
    AtSender O →
    List Happening → Type 0
JoinsThen o limit None h mid heard end new told = (new ≡ mid) × (end ≡ heard) × (told ≡ h)
JoinsThen o limit (Some row) h mid heard end new told =
    (is_joined : Bool) × Joins o limit row mid end new is_joined × IsJoinTold row is_joined h told

-- a datagram was heard, and then whoever it shows to be there again was joined
pub record HearsAndJoins {O : Type 0} (o : Setting) (limit me : ℕ) (h : List Happening) (bytes : List ℕ)
    (source : Address)
    (old : AtSender O) (end : Option Why) (new : AtSender O) (told : List Happening) : Type 0 where
  pub mid : AtSender O
  pub heard : Option Why
  pub hears : Hears o limit bytes source old heard mid
  pub message : Option Message
  pub is : IsMessage o bytes source old heard mid message
  pub joins : JoinsThen o limit (whom me h source message) h mid heard end new told
