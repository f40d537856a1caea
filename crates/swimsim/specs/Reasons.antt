-- The reasons that replies tell.
use Rattle.std.specs.Prelude.{Option, Some, None}
use Rattle.swim_history.specs.declared.replies.Reply.{Reply}
use Rattle.swim_history.specs.declared.replies.Reply.TheVariants as replies
use Rattle.swimsim.specs.declared.reasons.Reason.{Reason}
use Rattle.swimsim.specs.declared.reasons.Reason.TheVariants.{Dropped, Refused}

abbrev pub reason_of : Reply → Option Reason
reason_of (replies.Dropped why) = Some (Dropped why)
reason_of (replies.Refused why) = Some (Refused why)
reason_of reply = None
