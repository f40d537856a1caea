-- What became of the datagrams that a line gave.
use Rattle.std.specs.Prelude.{◌≡◌, ℕ, ◌+◌, ◌-◌, ◌^◌, min, List, [], ◌∷◌, take, flat_map, Option, Some, None}
use Rattle.std.specs.Option.{option_to_list}
use Rattle.swim_wire.specs.Address.{Address}
use Rattle.swim_wire.specs.Layout.{IsTextOf, first_fault}
use Rattle.swim_wire.specs.Messages.{Message}
use Rattle.swim_history.specs.declared.calls.Call.TheVariants.{Hear, Join}
use Rattle.swim_history.specs.declared.rows.Change.{Change}
use Rattle.swim_history.specs.declared.rows.Row.{Row}
use Rattle.swim_history.specs.Setting.{Setting}
use Rattle.swim_node.specs.declared.receipts.CallFault.TheVariants.{Wire, NoMemory, JournalFull}
use Rattle.swim_node.specs.Seats.{Seated}
use Rattle.swim_work.specs.declared.counts.Counts.{Counts}
use Rattle.swim_work.specs.declared.lines.Got.{Got}
use Rattle.swim_work.specs.declared.lines.Got.TheVariants.{Datagram}
use Rattle.swim_work.specs.Answers.{is_joining}
use Rattle.swim_work.specs.Gates.{Received}
use Rattle.swim_work.specs.Outcomes.{Outcome, calls_among, memory_in}
use Rattle.swim_work.specs.Outcomes.Outcome.{Answered, Refused}
use Rattle.swim_receiver.specs.declared.rejoining.Returning.{Returning}
use Rattle.swim_receiver.specs.Happenings.{Happening}
use Rattle.swim_receiver.specs.Rejoining.{IsJoinTold, IsReturning, LearnsOn, whom}

-- the datagram that an answer of a line is, if it is one: its bytes, and where it came from
abbrev pub datagram_by : Got → List ℕ → List (List ℕ × Address)
datagram_by (Datagram count source) bytes = (take count bytes, source) ∷ []
datagram_by got bytes = []

-- the datagrams among the answers of a line, oldest first
abbrev pub datagrams_in : List Received → List (List ℕ × Address)
datagrams_in given = flat_map (λ r. datagram_by r.got r.bytes) given

-- what became of a datagram: of the call for it, and of the one behind that which joins a member again, if there was to
-- be one
pub record Step : Type 0 where
  pub call : Outcome
  pub join : Option Outcome

abbrev pub outcomes_of : Step → List Outcome
outcomes_of step = step.call ∷ option_to_list step.join

abbrev pub outcomes_in : List Step → List Outcome
outcomes_in steps = flat_map outcomes_of steps

-- the member with this row was joined at its address, where one was to be joined, and that is remembered if the node
-- joined it; or the call was refused
abbrev pub IsJoined : Option Row → Option Outcome → List Happening → List Happening → Type 0
IsJoined None join h told = (join ≡ None) × (told ≡ h)
IsJoined (Some row) (Some (Answered k)) h told =
    (k.call ≡ Join row.id row.peer) × IsJoinTold row (is_joining k.reply) h told
IsJoined (Some row) (Some (Refused NoMemory)) h told = told ≡ h
IsJoined (Some row) (Some (Refused JournalFull)) h told = told ≡ h
IsJoined (Some row) join h told = ⊥

-- the call for this datagram is for its message, and behind it whoever that shows to be there again was joined, by all
-- that happened; or the datagram's bytes have that fault, or the node had no room, and nobody was joined
abbrev pub BecomesSo : ℕ → List Happening → List ℕ × Address → Outcome → Option Outcome → List Happening → Type 0
BecomesSo me h d (Answered k) join told =
    (m : Message) × IsTextOf d.0 m × (k.call ≡ Hear d.1 m) × IsJoined (whom me h d.1 (Some m)) join h told
BecomesSo me h d (Refused (Wire fault)) join told = (first_fault d.0 ≡ Some fault) × IsJoined None join h told
BecomesSo me h d (Refused NoMemory) join told = IsJoined None join h told
BecomesSo me h d (Refused JournalFull) join told = IsJoined None join h told

-- each of these datagrams became one of those, in order. All that happened to members is then told, with what was
-- learnt before each, and after the last, by a viewer that had seen some changes and has seen these by now
abbrev pub BecomeSo : Setting → ℕ → List Change → List Happening → List (List ℕ × Address) → List Step → List Change →
    List Happening → Type 0
BecomeSo o me saw h [] [] seen told = LearnsOn o saw seen h told
BecomeSo o me saw h (d ∷ ds) (step ∷ steps) seen told =
    (then : List Change) × (learnt : List Happening) × (after : List Happening) × LearnsOn o saw then h learnt
    × BecomesSo me learnt d step.call step.join after × BecomeSo o me then after ds steps seen told
BecomeSo o me saw h ds steps seen told = ⊥

-- how many were no datagrams of the protocol
abbrev pub wire_by : Outcome → ℕ
wire_by (Refused (Wire fault)) = 1
wire_by x = 0

abbrev pub wire_in : List Outcome → ℕ
wire_in [] = 0
wire_in (x ∷ xs) = wire_by x + wire_in xs

-- how many met a full journal
abbrev pub full_by : Outcome → ℕ
full_by (Refused JournalFull) = 1
full_by x = 0

abbrev pub full_in : List Outcome → ℕ
full_in [] = 0
full_in (x ∷ xs) = full_by x + full_in xs

-- each of these datagrams of a life, in order, became one of the seat's calls, behind which whoever it shows to be
-- there again was joined, by all that happened until then, and the seat made no other call; or it was refused. Each
-- refusal is counted: as no datagram or for memory, which are counts that stop at 2^64-1, or at a full journal. In what
-- happened, the tables of this life are those after beginnings of these changes, one after the other
pub record AreHeardAfter (o : Setting) (me : ℕ) (h : List Happening) (datagrams : List (List ℕ × Address))
    (seat : Seated) (counts : Counts) (seen : List Change) (told : List Happening) : Type 0 where
  pub steps : List Step
  pub become : BecomeSo o me [] h datagrams steps seen told
  pub calls : seat.calls ≡ calls_among (outcomes_in steps)
  pub wire : counts.wire ≡ min (wire_in (outcomes_in steps)) (2 ^ 64 - 1)
  pub refused : counts.refused ≡ min (memory_in (outcomes_in steps)) (2 ^ 64 - 1)
  pub full : seat.full ≡ full_in (outcomes_in steps)

-- the same, whatever happened to members before, with what is remembered of it
abbrev pub AreHeard : Setting → Returning → List (List ℕ × Address) → Seated → Counts → List Change → Returning → Type 0
AreHeard o old datagrams seat counts seen new =
    (h : List Happening) → IsReturning old h → (told : List Happening) × IsReturning new told
    × AreHeardAfter o old.rejoiner.me h datagrams seat counts seen told
