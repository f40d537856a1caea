-- What becomes of a call that a worker makes of the node.
use Rattle.std.specs.Prelude.{◌≡◌, ◌⊎◌, ℕ, Bool, false, List, Option, Some, None}
use Rattle.swim_wire.specs.Address.{Address}
use Rattle.swim_wire.specs.Messages.{Message}
use Rattle.swim_wire.specs.Layout.{IsTextOf}
use Rattle.swim_history.specs.declared.calls.Call.{Call}
use Rattle.swim_history.specs.declared.calls.Call.TheVariants.{Hear, Join, Tick}
use Rattle.swim_history.specs.declared.rows.Change.{Change}
use Rattle.swim_history.specs.declared.rows.Row.{Row}
use Rattle.swim_history.specs.declared.seats.Kept.{Kept}
use Rattle.swim_history.specs.Setting.{Setting}
use Rattle.swim_node.specs.declared.receipts.CallFault.{CallFault}
use Rattle.swim_node.specs.declared.receipts.CallFault.TheVariants as faults
use Rattle.swim_node.specs.Answered.{IsAnswered, MayRefuse, MayRefuseBytes, refused}
use Rattle.swim_work.specs.declared.counts.Counts.{Counts}
use Rattle.swim_work.specs.declared.counts.Why.{Why}
use Rattle.swim_work.specs.declared.counts.Why.TheVariants.{JournalFull}
use Rattle.swim_work.specs.Answers.{is_joining}
use Rattle.swim_work.specs.Ends.{both}
use Rattle.swim_work.specs.Posts.{AtSender}

-- the node answered: the call is the next one of the seat, nothing was counted but what couldn't be sent, and the
-- worker goes
-- on
pub record IsMade {O : Type 0} (o : Setting) (call : Call) (old : AtSender O) (end : Option Why)
    (new : AtSender O) : Type 0 where
  pub kept : Kept
  pub news : List Change
  pub answered : IsAnswered o old.seat new.seat call kept news
  pub counted : new.counts ≡ record old.counts { unsent = new.counts.unsent }
  pub goes_on : end ≡ None

-- what a refusal adds to the counts
abbrev pub counts_with : CallFault → Counts → Counts
counts_with (faults.Wire fault) counts = record counts { wire = both counts.wire 1 }
counts_with faults.NoMemory counts = record counts { refused = both counts.refused 1 }
counts_with faults.JournalFull counts = counts

-- a full journal ends a worker, and no other refusal does
abbrev pub end_with : CallFault → Option Why
end_with faults.JournalFull = Some JournalFull
end_with fault = None

-- the node refused: nothing changed but the counts, and what the seat knows of a full journal
pub record IsRefused {O : Type 0} (fault : CallFault) (old : AtSender O) (end : Option Why) (new : AtSender O) : Type
    0 where
  pub same : new ≡ record old { seat = refused fault old.seat; counts = counts_with fault old.counts }
  pub ends : end ≡ end_with fault

-- a call was made, of those that may be, or got a refusal, of those that it may get
abbrev pub Calls : {O : Type 0} → Setting → (Call → Type 0) → (CallFault → Type 0) → AtSender O → Option Why →
    AtSender O →
    Type 0
Calls o may_ask may_refuse old end new =
    ((call : Call) × may_ask call × IsMade o call old end new)
    ⊎ ((fault : CallFault) × may_refuse fault × IsRefused fault old end new)

-- bytes came from this address: the node was called with their message, or told why it wasn't
abbrev pub Hears : {O : Type 0} → Setting → ℕ → List ℕ → Address → AtSender O → Option Why → AtSender O → Type 0
Hears o limit bytes source old end new =
    Calls o (λ call. (m : Message) × IsTextOf bytes m × (call ≡ Hear source m)) (MayRefuseBytes bytes o limit old.seat)
    old end new

-- one tick of time passed
abbrev pub Ticks : {O : Type 0} → Setting → ℕ → AtSender O → Option Why → AtSender O → Type 0
Ticks o limit old end new = Calls o (λ call. call ≡ Tick) (MayRefuse o limit old.seat) old end new

-- the message of the datagram from there, where the node answered the call for it; there is none where it refused
abbrev pub IsMessage : {O : Type 0} → Setting → List ℕ → Address → AtSender O → Option Why → AtSender O →
    Option Message → Type 0
IsMessage o bytes source old end new None = new.seat.calls ≡ old.seat.calls
IsMessage o bytes source old end new (Some m) = IsTextOf bytes m × IsMade o (Hear source m) old end new

-- the node is told to list that member at its row's address. It was joined where the reply says so, and only there
abbrev pub Joins : {O : Type 0} → Setting → ℕ → Row → AtSender O → Option Why → AtSender O → Bool → Type 0
Joins o limit row old end new is_joined =
    ((made : IsMade o (Join row.id row.peer) old end new) × (is_joined ≡ is_joining made.kept.reply))
    ⊎ ((fault : CallFault) × MayRefuse o limit old.seat fault × IsRefused fault old end new × (is_joined ≡ false))
