-- A turn of a connection leaves the desk its seat.
use Rattle.std.proofs.Common.{◌≡◌, ℕ, List, [], ◌∷◌, Option, Result, Ok, Err, ap, inl, inr}
use Rattle.swim_text.specs.declared.short_lines.LineEnd.{LineEnd}
use Rattle.swim_text.specs.declared.short_lines.LineEnd.TheVariants as lines
use Rattle.swim_history.specs.Setting.{Setting}
use Rattle.swim_history.specs.declared.calls.Call.{Call}
use Rattle.swim_control.specs.declared.connections.Close.TheVariants as closes
use Rattle.swim_control.specs.declared.connections.Stand.{Stand}
use Rattle.swim_control.specs.declared.connections.Stand.TheVariants as stands
use Rattle.swim_control.specs.declared.desks.Answer.{Answer}
use Rattle.swim_control.specs.declared.desks.Answer.TheVariants as answers
use Rattle.swim_control.specs.declared.desks.DeskCommand.{DeskCommand}
use Rattle.swim_control.specs.declared.desks.DeskCommand.TheVariants as commands
use Rattle.swim_control.specs.declared.commands.Said.{Said}
use Rattle.swim_control.specs.declared.commands.Said.TheVariants as saids
use Rattle.swim_control.specs.declared.faults.Fault.{Fault}
use Rattle.swim_control.specs.declared.serving.Served.{Served}
use Rattle.swim_control.specs.Commands.{said_by, line_said}
use Rattle.swim_control.specs.Connections.{TakesTurn, Turns}
use Rattle.swim_control.specs.Desks.{Told, Shows, Measures, Answers, Counts as Counted, Reloads}
use Rattle.swim_control.specs.Talks.{Talk, Talks}
use Rattle.swim_control.specs.Turns.{Asked, Meets}
use Rattle.swim_desk.specs.Desk.{AtDesk, Asks, Calls}

-- the desk has the same seat
abbrev pub IsSame : AtDesk → AtDesk → Type 0
IsSame desk after = after.seat.number ≡ desk.seat.number

same : (desk after : AtDesk) → after ≡ desk → IsSame desk after
same desk after is = ap (λ (d : AtDesk). d.seat.number) is

refused_same : (o : Setting) (limit : ℕ) (call : Call) (answer : Answer) (desk after : AtDesk) →
    Calls o limit desk call answer after → IsSame desk after
refused_same o limit call answer desk after (inl done) = done.answered.seat
refused_same o limit call answers.JournalFull desk after (inr is) = ap (λ (d : AtDesk). d.seat.number) is.1
refused_same o limit call answers.NoMemory desk after (inr is) = ap (λ (d : AtDesk). d.seat.number) is.1
refused_same o limit call (answers.Joined place) desk after (inr is) = absurd is
refused_same o limit call answers.Removed desk after (inr is) = absurd is
refused_same o limit call (answers.Refused why) desk after (inr is) = absurd is

asks_same : (o : Setting) (limit : ℕ) (command : DeskCommand) (told : Told) (desk after : AtDesk) →
    Asks o limit desk command told after → IsSame desk after
asks_same o limit commands.List (Shows table) desk after is = ap (λ (d : AtDesk). d.seat.number) is.0
asks_same o limit (commands.Gap member) (Measures gap) desk after is = same desk after is.0
asks_same o limit commands.Stats (Counted text) desk after is = same desk after is
asks_same o limit commands.Reload (Reloads text) desk after is = same desk after is
asks_same o limit (commands.Join id peer) (Answers answer) desk after is = refused_same o limit _ answer desk after is
asks_same o limit (commands.Remove id) (Answers answer) desk after is = refused_same o limit _ answer desk after is
asks_same o limit commands.List (Measures gap) desk after is = absurd is
asks_same o limit commands.List (Answers answer) desk after is = absurd is
asks_same o limit commands.List (Counted text) desk after is = absurd is
asks_same o limit commands.List (Reloads text) desk after is = absurd is
asks_same o limit (commands.Gap member) (Shows table) desk after is = absurd is
asks_same o limit (commands.Gap member) (Answers answer) desk after is = absurd is
asks_same o limit (commands.Gap member) (Counted text) desk after is = absurd is
asks_same o limit (commands.Gap member) (Reloads text) desk after is = absurd is
asks_same o limit commands.Stats (Shows table) desk after is = absurd is
asks_same o limit commands.Stats (Measures gap) desk after is = absurd is
asks_same o limit commands.Stats (Answers answer) desk after is = absurd is
asks_same o limit commands.Stats (Reloads text) desk after is = absurd is
asks_same o limit commands.Reload (Shows table) desk after is = absurd is
asks_same o limit commands.Reload (Measures gap) desk after is = absurd is
asks_same o limit commands.Reload (Answers answer) desk after is = absurd is
asks_same o limit commands.Reload (Counted text) desk after is = absurd is
asks_same o limit (commands.Join id peer) (Shows table) desk after is = absurd is
asks_same o limit (commands.Join id peer) (Measures gap) desk after is = absurd is
asks_same o limit (commands.Join id peer) (Counted text) desk after is = absurd is
asks_same o limit (commands.Join id peer) (Reloads text) desk after is = absurd is
asks_same o limit (commands.Remove id) (Shows table) desk after is = absurd is
asks_same o limit (commands.Remove id) (Measures gap) desk after is = absurd is
asks_same o limit (commands.Remove id) (Counted text) desk after is = absurd is
asks_same o limit (commands.Remove id) (Reloads text) desk after is = absurd is

line_same : (o : Setting) (limit : ℕ) (read : Result Said Fault) (told : List Told) (desk after : AtDesk) →
    Asked (Asks o limit) read desk told after → IsSame desk after
line_same o limit (Err fault) [] desk after is = same desk after is
line_same o limit (Err fault) (told ∷ before) desk after is = absurd is
line_same o limit (Ok saids.Stop) [] desk after is = same desk after is
line_same o limit (Ok saids.Stop) (told ∷ before) desk after is = absurd is
line_same o limit (Ok (saids.Asks command)) [] desk after is = absurd is
line_same o limit (Ok (saids.Asks command)) (told ∷ []) desk after is = asks_same o limit command told desk after is
line_same o limit (Ok (saids.Asks command)) (told ∷ more ∷ before) desk after is = absurd is

met_same : (o : Setting) (limit : ℕ) (met : LineEnd) (line : List ℕ) (desk after : AtDesk) (old new : Option (List ℕ))
    (end : Option Served) → Meets (Asks o limit) met line desk after old new end → IsSame desk after
met_same o limit lines.Feed line desk after old new end is =
    line_same o limit (said_by (line_said line)) is.told desk after is.asked
met_same o limit lines.Long line desk after old new end is = same desk after is.0
met_same o limit lines.Unended line desk after old new end is = same desk after is.0
met_same o limit lines.Over line desk after old new end is = same desk after is.0
met_same o limit lines.Spent line desk after old new end is = same desk after is.0
met_same o limit lines.Failed line desk after old new end is = same desk after is.0
met_same o limit lines.Unsent line desk after old new end is = same desk after is.0

turn_same : (o : Setting) (limit now : ℕ) (stand : Stand) (old new : Talk) (desk after : AtDesk) →
    Turns (Asks o limit) now stand old new desk after → IsSame desk after
turn_same o limit now stands.Idle old new desk after is = same desk after is.0
turn_same o limit now stands.Busy old new desk after (inl is) = same desk after is.0
turn_same o limit now stands.Busy old new desk after (inr is) =
    met_same o limit is.met is.line desk after old.written is.put _ is.meets
turn_same o limit now (stands.Ended end) old new desk after is =
    met_same o limit is.met is.line desk after old.written is.put _ is.meets
turn_same o limit now (stands.Closed (closes.Served end)) old new desk after is = same desk after is.0
turn_same o limit now (stands.Closed closes.Silent) old new desk after is = same desk after is.0
turn_same o limit now (stands.Closed closes.Untaken) old new desk after is = same desk after is.0

pub turned_same : (o : Setting) (limit now : ℕ) (stand : Stand) (old new : Talks) (desk after : AtDesk) →
    TakesTurn (Asks o limit) now stand old new desk after → IsSame desk after
turned_same o limit now stand old new desk after is = turn_same o limit now stand is.first is.then_so desk after is.turn
