-- The messages that a reply sends, with their addresses (section 3.1 of the SWIM paper).
use Rattle.std.specs.Prelude.{◌==◌, List, [], ◌∷◌, map, Some, None, if◌then◌else◌}
use Rattle.swim_wire.specs.Address.{Address}
use Rattle.swim_wire.specs.Messages.{Message, carries}
use Rattle.swim_wire.specs.declared.messages.Kind.{Kind}
use Rattle.swim_wire.specs.declared.messages.Kind.TheVariants.{Ping, PingReq}
use Rattle.swim_history.specs.declared.replies.Probe.{Probe}
use Rattle.swim_history.specs.declared.replies.Reply.{Reply}
use Rattle.swim_history.specs.declared.replies.Reply.TheVariants.{Started, Asked, Send}
use Rattle.swim_history.specs.Setting.{Setting}

-- a message of this member's own probe: it says where the target is where a message of its version and kind does
abbrev pub own : Setting → Kind → Probe → Message
own o kind probe = record {
  version = o.version;
  kind = kind;
  sender = o.me;
  initiator = o.me;
  target = probe.target;
  number = probe.number;
  at = if carries o.version kind then Some probe.peer else None;
}

-- the same message to each address; no period has the number 0, and a message of none is not sent
abbrev pub to_each : Setting → Kind → Probe → List Address → List (Address × Message)
to_each o kind probe peers = if probe.number == 0 then [] else map (λ peer. (peer, own o kind probe)) peers

abbrev pub sends_of : Reply → Setting → List (Address × Message)
sends_of (Started judged (Some probe)) o = to_each o Ping probe (probe.peer ∷ [])
sends_of (Asked target peer number relays) o =
    to_each o PingReq (record { target = target; peer = peer; number = number })
    (map (λ relay. relay.peer) relays.items)
sends_of (Send peer message) o = (peer, message) ∷ []
sends_of reply o = []
