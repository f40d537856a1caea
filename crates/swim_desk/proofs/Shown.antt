-- That a desk shows the member table after a beginning of the changes that it has seen since.
use Rattle.std.proofs.Common.{◌≡◌, ℕ, List, [], ◌∷◌, Some, None, sym, subst, ap, inl, inr}
use Rattle.std.specs.List.{AllByRecursion}
use mathlib.Core.List.{IsPrefix}
use Rattle.swim_history.specs.declared.calls.Call.{Call}
use Rattle.swim_history.specs.declared.rows.Change.{Change}
use Rattle.swim_history.specs.Setting.{Setting}
use Rattle.swim_control.specs.declared.desks.Answer.{Answer}
use Rattle.swim_control.specs.declared.desks.Answer.TheVariants as answers
use Rattle.swim_control.specs.declared.desks.DeskCommand.{DeskCommand}
use Rattle.swim_control.specs.declared.desks.DeskCommand.TheVariants as commands
use Rattle.swim_control.specs.Desks.{Told, Shows, Measures, Answers, Counts as Counted, Reloads}
use Rattle.swim_control.specs.SideBySide.{Called, Leads}
use Rattle.swim_node.specs.News.{IsLongerOf}
use Rattle.swim_node.proofs.Prefixes.{begins_itself, begins_whole}
use Rattle.swim_desk.specs.Desk.{AtDesk, Asks, Calls, ShowsOf}

-- what is told of some changes is told of more of them
shows_later : (o : Setting) (saw seen : List Change) (told : Told) → IsPrefix saw seen → ShowsOf o saw told →
    ShowsOf o seen told
shows_later o saw seen (Shows None) later is = tt
shows_later o saw seen (Shows (Some table)) later is = (is.0, begins_whole is.0 saw seen is.1 later, is.2)
shows_later o saw seen (Measures gap) later is = tt
shows_later o saw seen (Answers answer) later is = tt
shows_later o saw seen (Counted text) later is = tt
shows_later o saw seen (Reloads text) later is = tt

-- ---- a call of the desk

same_seen : (old new : AtDesk) → new ≡ old → IsPrefix old.seen new.seen
same_seen old new same = rw same (begins_itself old.seen)

longer_seen : (old news new : List Change) → IsLongerOf old news new → IsPrefix old new
longer_seen old news new (inl (begins, is)) = subst (IsPrefix old) (sym is) begins
longer_seen old news new (inr (begins, is)) = subst (IsPrefix old) (sym is) (begins_itself old)

unmoved : (old new : AtDesk) → new.seen ≡ old.seen → IsPrefix old.seen new.seen
unmoved old new is = subst (IsPrefix old.seen) (sym is) (begins_itself old.seen)

call_seen : (o : Setting) (limit : ℕ) (call : Call) (answer : Answer) (old new : AtDesk) →
    Calls o limit old call answer new → IsPrefix old.seen new.seen
call_seen o limit call answer old new (inl done) = longer_seen old.seen done.news new.seen done.learnt
call_seen o limit call answers.JournalFull old new (inr is) = unmoved old new (ap (λ (d : AtDesk). d.seen) is.1)
call_seen o limit call answers.NoMemory old new (inr is) = unmoved old new (ap (λ (d : AtDesk). d.seen) is.1)
call_seen o limit call (answers.Joined place) old new (inr is) = absurd is
call_seen o limit call answers.Removed old new (inr is) = absurd is
call_seen o limit call (answers.Refused why) old new (inr is) = absurd is

asks_shown : (o : Setting) (limit : ℕ) (command : DeskCommand) (told : Told) (old new : AtDesk) →
    Asks o limit old command told new → IsPrefix old.seen new.seen × ShowsOf o new.seen told
asks_shown o limit commands.List (Shows None) old new is = (is.1, tt)
asks_shown o limit commands.List (Shows (Some table)) old new is = (is.1, (new.seen, begins_itself new.seen, is.2))
asks_shown o limit (commands.Gap member) (Measures gap) old new is = (same_seen old new is.0, tt)
asks_shown o limit commands.Stats (Counted text) old new is = (same_seen old new is, tt)
asks_shown o limit commands.Reload (Reloads text) old new is = (same_seen old new is, tt)
asks_shown o limit (commands.Join id peer) (Answers answer) old new is = (call_seen o limit _ answer old new is, tt)
asks_shown o limit (commands.Remove id) (Answers answer) old new is = (call_seen o limit _ answer old new is, tt)
asks_shown o limit commands.List (Measures gap) old new is = absurd is
asks_shown o limit commands.List (Answers answer) old new is = absurd is
asks_shown o limit commands.List (Counted text) old new is = absurd is
asks_shown o limit commands.List (Reloads text) old new is = absurd is
asks_shown o limit (commands.Gap member) (Shows table) old new is = absurd is
asks_shown o limit (commands.Gap member) (Answers answer) old new is = absurd is
asks_shown o limit (commands.Gap member) (Counted text) old new is = absurd is
asks_shown o limit (commands.Gap member) (Reloads text) old new is = absurd is
asks_shown o limit commands.Stats (Shows table) old new is = absurd is
asks_shown o limit commands.Stats (Measures gap) old new is = absurd is
asks_shown o limit commands.Stats (Answers answer) old new is = absurd is
asks_shown o limit commands.Stats (Reloads text) old new is = absurd is
asks_shown o limit commands.Reload (Shows table) old new is = absurd is
asks_shown o limit commands.Reload (Measures gap) old new is = absurd is
asks_shown o limit commands.Reload (Answers answer) old new is = absurd is
asks_shown o limit commands.Reload (Counted text) old new is = absurd is
asks_shown o limit (commands.Join id peer) (Shows table) old new is = absurd is
asks_shown o limit (commands.Join id peer) (Measures gap) old new is = absurd is
asks_shown o limit (commands.Join id peer) (Counted text) old new is = absurd is
asks_shown o limit (commands.Join id peer) (Reloads text) old new is = absurd is
asks_shown o limit (commands.Remove id) (Shows table) old new is = absurd is
asks_shown o limit (commands.Remove id) (Measures gap) old new is = absurd is
asks_shown o limit (commands.Remove id) (Counted text) old new is = absurd is
asks_shown o limit (commands.Remove id) (Reloads text) old new is = absurd is

-- ---- one call after the other

pub all_later : (o : Setting) (saw seen : List Change) (log : List Called) → IsPrefix saw seen →
    AllByRecursion (λ c. ShowsOf o saw c.told) log → AllByRecursion (λ c. ShowsOf o seen c.told) log
all_later o saw seen [] later all = tt
all_later o saw seen (c ∷ log) later all =
    (shows_later o saw seen c.told later all.0, all_later o saw seen log later all.1)

pub led_shown : (o : Setting) (limit : ℕ) (log : List Called) (old new : AtDesk) → Leads (Asks o limit) old log new →
    IsPrefix old.seen new.seen × AllByRecursion (λ c. ShowsOf o new.seen c.told) log
led_shown o limit [] old new is = (same_seen old new is, tt)
led_shown o limit (c ∷ log) old new (mid, (led, asked)) =
    let before = led_shown o limit log old mid led in
    let last = asks_shown o limit c.command c.told mid new asked in (
      begins_whole old.seen mid.seen new.seen before.0 last.0,
      (last.1, all_later o mid.seen new.seen log last.0 before.1),
    )
