-- What the answer to a call of the node tells.
use Rattle.std.specs.Prelude.{Bool, true, false, Option, Some, None, Result, Ok, Err}
use Rattle.swim_wire.specs.Messages.{Message}
use Rattle.swim_history.specs.declared.calls.Call.{Call}
use Rattle.swim_history.specs.declared.calls.Call.TheVariants.{Hear}
use Rattle.swim_history.specs.declared.replies.Reply.{Reply}
use Rattle.swim_history.specs.declared.replies.Reply.TheVariants.{Joined}
use Rattle.swim_history.specs.Events.{is_starting}
use Rattle.swim_node.specs.declared.receipts.CallFault.{CallFault}
use Rattle.swim_node.specs.declared.receipts.Receipt.{Receipt}

-- the message that was heard
abbrev pub message_by : Call → Option Message
message_by (Hear source m) = Some m
message_by call = None

abbrev pub message_in : {N : Type 0} → Result (Receipt N) CallFault → Option Message
message_in (Ok r) = message_by r.call
message_in (Err fault) = None

-- a period started
abbrev pub has_started : {N : Type 0} → Result (Receipt N) CallFault → Bool
has_started (Ok r) = is_starting r.reply
has_started (Err fault) = false

-- a member was joined
abbrev pub is_joining : Reply → Bool
is_joining (Joined place) = true
is_joining reply = false

abbrev pub has_joined : {N : Type 0} → Result (Receipt N) CallFault → Bool
has_joined (Ok r) = is_joining r.reply
has_joined (Err fault) = false
