-- The requests that wait: pings that other members asked for, whose acks are to be forwarded
-- (section 3.1 of the SWIM paper). A request waits with its version and the address that it came from until an ack of
-- its
-- probe is forwarded, the probe is asked for again, or a whole period of ticks has passed.
use Rattle.std.specs.Prelude.{ℕ, ◌-◌, Bool, false, List, [], ◌∷◌, ◌++◌, Option, Some, None, if◌then◌else◌, nat_lt}
use Rattle.std.specs.Prelude.{option_and_then}
use Rattle.std.specs.List.{list_any}
use Rattle.std.specs.Option.{option_to_list}
use Rattle.swim_wire.specs.Address.{Address}
use Rattle.swim_wire.specs.Probe.{key_of, same_key}
use Rattle.swim_wire.specs.Requests.{Request}
use Rattle.swim_wire.specs.declared.messages.Key.{Key}
use Rattle.swim_wire.specs.Messages.{Message}
use Rattle.swim_wire.specs.declared.messages.Kind.{Kind}
use Rattle.swim_wire.specs.declared.messages.Kind.TheVariants.{Ping, PingReq}
use Rattle.swim_wire.specs.declared.messages.Version.{Version}
use Rattle.swim_history.specs.declared.calls.Call.{Call}
use Rattle.swim_history.specs.declared.calls.Call.TheVariants.{Hear}
use Rattle.swim_history.specs.declared.replies.Reply.{Reply}
use Rattle.swim_history.specs.declared.replies.Reply.TheVariants.{Send}
use Rattle.swim_history.specs.declared.entries.Entry.{Entry}
use Rattle.swim_history.specs.Setting.{Setting}
use Rattle.swim_history.specs.Clock.{ticks}

-- who asked for which probe, and in which version
pub record Asking : Type 0 where
  pub key : Key
  pub peer : Address
  pub version : Version

abbrev pub asking : Kind → Message → Address → Option Asking
asking PingReq m source = Some (record { key = key_of m; peer = source; version = m.version })
asking kind m source = None

-- the probe that an entry was asked for and pings
abbrev pub asked_in : Call → Reply → Option Asking
asked_in (Hear source m) (Send peer ping) = asking m.kind m source
asked_in call reply = None

-- the probe whose ping or ack an entry sends on
abbrev pub sent_on : Kind → Message → Option Key
sent_on Ping m = None
sent_on kind m = Some (key_of m)

abbrev pub sent_on_in : Call → Reply → Option Key
sent_on_in (Hear source m) (Send peer message) = sent_on m.kind m
sent_on_in call reply = None

abbrev pub is_same : Key → Option Key → Bool
is_same key None = false
is_same key (Some other) = same_key other key

-- the entry ends an earlier request of that probe: the probe is asked for again, or its ack is forwarded
abbrev pub ends : Key → Entry → Bool
ends key e = is_same key (sent_on_in e.call e.reply)

-- what is left of a request, by the entries after it
abbrev pub left_of : ℕ → List Entry → Asking → Option Request
left_of period newer a =
    if list_any (ends a.key) newer then None
    else (if nat_lt (ticks newer) period
    then Some (record { key = a.key; peer = a.peer; version = a.version; left = period - ticks newer })
    else None)

-- the requests that wait after these entries and then those, oldest first
abbrev pub waiting_since : ℕ → List Entry → List Entry → List Request
waiting_since period newer [] = []
waiting_since period newer (e ∷ before) =
    waiting_since period (e ∷ newer) before ++ option_to_list
    (option_and_then (left_of period newer) (asked_in e.call e.reply))

-- the requests that wait after a history, oldest first
abbrev pub waiting : Setting → List Entry → List Request
waiting o h = waiting_since o.period [] h
