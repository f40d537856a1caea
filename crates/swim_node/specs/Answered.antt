-- How an answered call stands in a run of the sequential detector. Histories stand newest first.
use Rattle.std.specs.Prelude.{◌≡◌, ◌↔◌, ℕ, ◌+◌, ◌<◌, List, [], ◌∷◌, ◌++◌, length, Option, Some, None, IfSome}
use Rattle.swim_wire.specs.Layout.{first_fault}
use Rattle.swim_history.specs.declared.calls.Call.{Call}
use Rattle.swim_history.specs.declared.replies.Reply.{Reply}
use Rattle.swim_history.specs.declared.rows.Change.{Change}
use Rattle.swim_history.specs.declared.entries.Choice.{Choice}
use Rattle.swim_history.specs.declared.entries.Entry.{Entry}
use Rattle.swim_history.specs.declared.seats.Kept.{Kept}
use Rattle.swim_history.specs.declared.gaps.Gap.{Gap}
use Rattle.swim_history.specs.Setting.{Setting}
use Rattle.swim_history.specs.Changes.{changes}
use Rattle.swim_history.specs.Run.{IsRun}
use Rattle.swim_history.specs.Seats.{kept_of}
use Rattle.swim_history.specs.Gap.{IsWidest, HasNoGap}
use Rattle.swim_node.specs.declared.receipts.CallFault.{CallFault}
use Rattle.swim_node.specs.declared.receipts.CallFault.TheVariants.{Wire, JournalFull, NoMemory}
use Rattle.swim_node.specs.Seats.{Seated}

-- an answered call: its place in the journal, its number among the calls of its seat, what was asked, and the reply
abbrev pub kept : ℕ → ℕ → Call → Reply → Kept
kept position number call reply = record { position = position; number = number; call = call; reply = reply }

-- the entry of a seat's call, with what was drawn for it
abbrev pub entry_of : ℕ → Kept → Choice → Entry
entry_of seat k choice = record { seat = seat; number = k.number; call = k.call; choice = choice; reply = k.reply }

-- some run of the opening ends with this call of the seat, at its place, and its changes of the member table are the
-- news
pub record EndsARun (o : Setting) (seat : ℕ) (k : Kept) (news : List Change) : Type 0 where
  pub before : List Entry
  pub choice : Choice
  pub run : IsRun o (entry_of seat k choice ∷ before)
  pub position : length before ≡ k.position
  pub told : news ≡ changes o (entry_of seat k choice ∷ before)

-- the call was answered: it is the next one of the seat, which keeps its number. None of the seat's calls had met a
-- full
-- journal
pub record IsAnswered (o : Setting) (old new : Seated) (call : Call) (k : Kept) (news : List Change) : Type 0 where
  pub seat : new.number ≡ old.number
  pub calls : new.calls ≡ old.calls ++ k ∷ []
  pub asked : k.call ≡ call
  pub number : k.number ≡ length old.calls
  pub run : EndsARun o old.number k news
  pub room : old.full ≡ 0
  pub full : new.full ≡ 0

-- a history that the node may have had when the seat had made these calls: its entries of the seat are these very ones
pub record IsMoment (o : Setting) (seat : Seated) (past : List Entry) : Type 0 where
  pub run : IsRun o past
  pub calls : seat.calls ≡ kept_of seat.number past

-- why a call may be refused under the lock: at such a moment the journal had as many entries as it may have; or it had
-- fewer, as none of the seat's calls had met a full journal, and memory was refused. That the journal of such a moment
-- was the node's own is seen where the node is closed: a seat one of whose calls met a full journal has met that one
abbrev pub MayRefuse : Setting → ℕ → Seated → CallFault → Type 0
MayRefuse o limit seat (Wire fault) = ⊥
MayRefuse o limit seat JournalFull = (past : List Entry) × IsMoment o seat past × (length past ≡ limit)
MayRefuse o limit seat NoMemory = (past : List Entry) × IsMoment o seat past × (length past < limit) × (seat.full ≡ 0)

-- why bytes that came may be: also where they are no datagram, for their first fault
abbrev pub MayRefuseBytes : List ℕ → Setting → ℕ → Seated → CallFault → Type 0
MayRefuseBytes bytes o limit seat (Wire fault) = first_fault bytes ≡ Some fault
MayRefuseBytes bytes o limit seat JournalFull = MayRefuse o limit seat JournalFull
MayRefuseBytes bytes o limit seat NoMemory = MayRefuse o limit seat NoMemory

-- how many calls met a full journal, after one more call was refused
abbrev pub full_after : CallFault → ℕ → ℕ
full_after JournalFull count = count + 1
full_after fault count = count

-- a seat whose call was refused: all that it knows more is that the call met a full journal, if it did
abbrev pub refused : CallFault → Seated → Seated
refused fault seat = record seat { full = full_after fault seat.full }

-- what is told of a member's widest gap is true of a history with these calls of the seat
abbrev pub IsGapAtMoment : Setting → Seated → ℕ → Option Gap → Type 0
IsGapAtMoment o seat member gap =
    (past : List Entry) × IsMoment o seat past
    × IfSome gap (λ g. IsWidest o past member g.a g.b g.n)
    × ((gap ≡ None) ↔ HasNoGap o past member)
