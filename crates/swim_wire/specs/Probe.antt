-- The probe that a message belongs to, and messages that are passed on.
use Rattle.std.specs.Prelude.{Bool, ◌&&◌, ◌==◌, ℕ, None}
use Rattle.swim_wire.specs.Messages.{Message}
use Rattle.swim_wire.specs.declared.messages.Kind.TheVariants.{Ping, Ack}
use Rattle.swim_wire.specs.declared.messages.Version.{Version}
use Rattle.swim_wire.specs.declared.messages.Key.{Key}

-- the probe that a message belongs to
abbrev pub key_of : Message → Key
key_of m = record { initiator = m.initiator; target = m.target; number = m.number }

-- both are the same probe
abbrev pub same_key : Key → Key → Bool
same_key a b = a.initiator == b.initiator && a.target == b.target && a.number == b.number

-- the ping of the same probe by that sender, in the version that it was asked for in
abbrev pub ping_by : ℕ → Message → Message
ping_by sender m = record {
  version = m.version;
  kind = Ping;
  sender = sender;
  initiator = m.initiator;
  target = m.target;
  number = m.number;
  at = None;
}

-- the ack of the same probe by that sender, in that version
abbrev pub ack_by : Version → ℕ → Message → Message
ack_by version sender m = record {
  version = version;
  kind = Ack;
  sender = sender;
  initiator = m.initiator;
  target = m.target;
  number = m.number;
  at = None;
}
