-- What a worker hands over to be sent.
use Rattle.std.specs.Prelude.{◌≡◌, ℕ, ◌-◌, ◌^◌, min, Bool, not, List, [], ◌++◌, map, flat_map, count_by}
use Rattle.std.specs.Prelude.{Option, Some, None}
use Rattle.swim_wire.specs.Address.{Address}
use Rattle.swim_wire.specs.Messages.{Message}
use Rattle.swim_wire.specs.Layout.{text_of}
use Rattle.swim_history.specs.declared.seats.Kept.{Kept}
use Rattle.swim_history.specs.Events.{is_starting}
use Rattle.swim_history.specs.Sends.{sends_of}
use Rattle.swim_history.specs.Setting.{Setting}
use Rattle.swim_trail.specs.Growing.{Grows}
use Rattle.swim_node.specs.Seats.{Seated}
use Rattle.swim_work.specs.declared.counts.Counts.{Counts}

-- a datagram that was handed over: its bytes, where to, and whether it was taken
pub record Posted : Type 0 where
  pub bytes : List ℕ
  pub to : Address
  pub is_taken : Bool

-- where to, and which bytes: of what was handed over, and of a message that is to be
abbrev pub handed : Posted → Address × List ℕ
handed p = (p.to, p.bytes)

abbrev pub datagram : Address × Message → Address × List ℕ
datagram m = (m.0, text_of m.1)

-- each of these messages was handed over once, in order, as its own bytes and to its own address; so many of them were
-- not
-- taken
pub record ArePosted (messages : List (Address × Message)) (old new : Option (List Posted)) (count : ℕ) : Type 0 where
  pub posted : List Posted
  pub grows : Grows old new posted
  pub each : map handed posted ≡ map datagram messages
  pub unsent : count ≡ count_by (λ p. not p.is_taken) posted

-- nothing was handed over yet, as far as that is known
abbrev pub IsFresh : Option (List Posted) → Type 0
IsFresh None = Unit {0}
IsFresh (Some posted) = posted ≡ []

-- the messages of all replies to these calls
abbrev pub messages_of : Setting → List Kept → List (Address × Message)
messages_of o calls = flat_map (λ k. sends_of k.reply o) calls

-- all that was handed over since are the messages of the replies to these calls, each once, in order; so many were not
-- taken, a count that stops at 2^64-1
pub record HasSent (o : Setting) (calls : List Kept) (start now : Option (List Posted)) (unsent : ℕ) : Type 0 where
  pub count : ℕ
  pub posted : ArePosted (messages_of o calls) start now count
  pub counted : unsent ≡ min count (2 ^ 64 - 1)

-- what a contract sees of a caller that sends: its seat, its post, and its counts
pub record AtSender (O : Type 0) : Type 0 where
  pub seat : Seated
  pub post : O
  pub counts : Counts

abbrev pub at_sender : {O : Type 0} → Seated → O → Counts → AtSender O
at_sender seat post counts = record { seat = seat; post = post; counts = counts }

-- how many of these calls began a period
abbrev pub starts_in : List Kept → ℕ
starts_in calls = count_by (λ k. is_starting k.reply) calls
