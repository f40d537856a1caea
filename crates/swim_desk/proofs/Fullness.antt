-- A turn of a connection that ends a life for a full journal leaves a seat that knows of it.
use Rattle.std.proofs.Common.{◌≡◌, ℕ, ◌<◌, Bool, true, false, List, [], ◌∷◌, Option, Some, None, Result}
use Rattle.std.proofs.Common.{Ok, Err, sym, ap, ◌∙◌, inl, inr, arith}
use Rattle.swim_text.specs.declared.short_lines.LineEnd.{LineEnd}
use Rattle.swim_text.specs.declared.short_lines.LineEnd.TheVariants as lines
use Rattle.swim_history.specs.declared.calls.Call.{Call}
use Rattle.swim_history.specs.declared.replies.Reply.{Reply}
use Rattle.swim_history.specs.declared.replies.Reply.TheVariants as replies
use Rattle.swim_history.specs.Setting.{Setting}
use Rattle.swim_control.specs.declared.connections.Stand.{Stand}
use Rattle.swim_control.specs.declared.connections.Stand.TheVariants as stands
use Rattle.swim_control.specs.declared.desks.Answer.TheVariants as answers
use Rattle.swim_control.specs.declared.desks.DeskCommand.{DeskCommand}
use Rattle.swim_control.specs.declared.desks.DeskCommand.TheVariants as commands
use Rattle.swim_control.specs.declared.commands.Said.{Said}
use Rattle.swim_control.specs.declared.commands.Said.TheVariants as saids
use Rattle.swim_control.specs.declared.faults.Fault.{Fault}
use Rattle.swim_control.specs.declared.faults.Fault.TheVariants as line_faults
use Rattle.swim_control.specs.declared.serving.Served.{Served}
use Rattle.swim_control.specs.declared.serving.Served.TheVariants as served
use Rattle.swim_control.specs.Commands.{said_by, line_said}
use Rattle.swim_control.specs.Connections.{TakesTurn}
use Rattle.swim_control.specs.Desks.{Told, Shows, Measures, Answers, Counts as Counted, Reloads}
use Rattle.swim_control.specs.Serving.{end_at}
use Rattle.swim_control.specs.Talks.{Talks}
use Rattle.swim_control.specs.Turns.{Asked, Meets, closed}
use Rattle.swim_work.specs.declared.counts.Why.{Why}
use Rattle.swim_work.specs.declared.counts.Why.TheVariants.{JournalFull}
use Rattle.swim_desk.specs.Desk.{AtDesk, Asks, Calls, Tells}
use Rattle.swim_desk.specs.Ending.{why_at}

pub told_full : (reply : Reply) → Tells reply answers.JournalFull → ⊥
told_full (replies.Joined place) is = cc is
told_full replies.Removed is = cc is
told_full (replies.Refused why) is = cc is
told_full replies.Quiet is = is
told_full (replies.Started judged probe) is = is
told_full (replies.Asked target peer number relays) is = is
told_full replies.Heard is = is
told_full (replies.Send to message) is = is
told_full (replies.Dropped why) is = is

called_full : (o : Setting) (limit : ℕ) (call : Call) (desk after : AtDesk) →
    Calls o limit desk call answers.JournalFull after →
    0 < after.seat.full
called_full o limit call desk after (inl done) = absurd (told_full done.kept.reply done.told)
called_full o limit call desk after (inr refused) = rw (refused.1) (omega arith)

asked_full : (o : Setting) (limit : ℕ) (command : DeskCommand) (desk after : AtDesk) →
    Asks o limit desk command (Answers answers.JournalFull) after → 0 < after.seat.full
asked_full o limit commands.List desk after is = absurd is
asked_full o limit (commands.Gap member) desk after is = absurd is
asked_full o limit commands.Stats desk after is = absurd is
asked_full o limit commands.Reload desk after is = absurd is
asked_full o limit (commands.Join id peer) desk after is = called_full o limit _ desk after is
asked_full o limit (commands.Remove id) desk after is = called_full o limit _ desk after is

answer_full : (o : Setting) (limit : ℕ) (command : DeskCommand) (told : Told) (desk after : AtDesk) →
    Asks o limit desk command told after →
    end_at (Ok (saids.Asks command)) (told ∷ []) ≡ Some served.JournalFull → 0 < after.seat.full
answer_full o limit command (Shows table) desk after is ends = absurd (cc ends)
answer_full o limit command (Measures gap) desk after is ends = absurd (cc ends)
answer_full o limit command (Counted text) desk after is ends = absurd (cc ends)
answer_full o limit command (Reloads text) desk after is ends = absurd (cc ends)
answer_full o limit command (Answers (answers.Joined place)) desk after is ends = absurd (cc ends)
answer_full o limit command (Answers answers.Removed) desk after is ends = absurd (cc ends)
answer_full o limit command (Answers (answers.Refused why)) desk after is ends = absurd (cc ends)
answer_full o limit command (Answers answers.NoMemory) desk after is ends = absurd (cc ends)
answer_full o limit command (Answers answers.JournalFull) desk after is ends = asked_full o limit command desk after is

line_full : (o : Setting) (limit : ℕ) (read : Result Said Fault) (told : List Told) (desk after : AtDesk) →
    Asked (Asks o limit) read desk told after → end_at read told ≡ Some served.JournalFull → 0 < after.seat.full
line_full o limit (Err line_faults.LongLine) told desk after is ends = absurd (cc ends)
line_full o limit (Err line_faults.Unended) told desk after is ends = absurd (cc ends)
line_full o limit (Err (line_faults.Words fault)) told desk after is ends = absurd (cc ends)
line_full o limit (Ok saids.Stop) told desk after is ends = absurd (cc ends)
line_full o limit (Ok (saids.Asks command)) [] desk after is ends = absurd (cc ends)
line_full o limit (Ok (saids.Asks command)) (told ∷ []) desk after is ends =
    answer_full o limit command told desk after is ends
line_full o limit (Ok (saids.Asks command)) (told ∷ more ∷ before) desk after is ends = absurd is

-- what was told ends serving only where it was written
written_full : (done : Bool) (end : Option Served) → Some served.JournalFull ≡ closed done end →
    end ≡ Some served.JournalFull
written_full true end is = sym is
written_full false end is = absurd (cc is)

met_full : (o : Setting) (limit : ℕ) (met : LineEnd) (line : List ℕ) (desk after : AtDesk) (old new : Option (List ℕ)) →
    Meets (Asks o limit) met line desk after old new (Some served.JournalFull) → 0 < after.seat.full
met_full o limit lines.Feed line desk after old new is =
    line_full o limit (said_by (line_said line)) is.told desk after is.asked
    (written_full is.done (end_at (said_by (line_said line)) is.told) is.is)
met_full o limit lines.Long line desk after old new is = absurd (cc (written_full is.1.0 (Some served.TooLong) is.1.2))
met_full o limit lines.Unended line desk after old new is =
    absurd (cc (written_full is.1.0 (Some served.Unended) is.1.2))
met_full o limit lines.Over line desk after old new is = absurd (cc is.2)
met_full o limit lines.Spent line desk after old new is = absurd (cc is.2)
met_full o limit lines.Failed line desk after old new is = absurd (cc is.2)
met_full o limit lines.Unsent line desk after old new is = absurd (cc is.2)

ended_full : (o : Setting) (limit now : ℕ) (end : Served) (old new : Talks) (desk after : AtDesk) →
    TakesTurn (Asks o limit) now (stands.Ended end) old new desk after → why_at (stands.Ended end) ≡ Some JournalFull →
    0 < after.seat.full
ended_full o limit now served.JournalFull old new desk after is ends =
    met_full o limit is.turn.met is.turn.line desk after _ is.turn.put is.turn.meets
ended_full o limit now served.Stopped old new desk after is ends = absurd (cc ends)
ended_full o limit now served.Ended old new desk after is ends = absurd (cc ends)
ended_full o limit now served.Unended old new desk after is ends = absurd (cc ends)
ended_full o limit now served.TooLong old new desk after is ends = absurd (cc ends)
ended_full o limit now served.ReadFault old new desk after is ends = absurd (cc ends)
ended_full o limit now served.WriteFault old new desk after is ends = absurd (cc ends)

stood_full : (o : Setting) (limit now : ℕ) (stand : Stand) (old new : Talks) (desk after : AtDesk) →
    TakesTurn (Asks o limit) now stand old new desk after → why_at stand ≡ Some JournalFull → 0 < after.seat.full
stood_full o limit now (stands.Ended end) old new desk after is ends =
    ended_full o limit now end old new desk after is ends
stood_full o limit now stands.Idle old new desk after is ends = absurd (cc ends)
stood_full o limit now stands.Busy old new desk after is ends = absurd (cc ends)
stood_full o limit now (stands.Closed why) old new desk after is ends = absurd (cc ends)

-- of a turn that ends a life for this reason
pub turned_full : (o : Setting) (limit now : ℕ) (stand : Stand) (old new : Talks) (desk after : AtDesk)
    (found : Option Why) (why : Why) →
    TakesTurn (Asks o limit) now stand old new desk after → found ≡ why_at stand → found ≡ Some why →
    why ≡ JournalFull → 0 < after.seat.full
turned_full o limit now stand old new desk after found why is at some full =
    stood_full o limit now stand old new desk after is (sym at ∙ (some ∙ ap Some full))
