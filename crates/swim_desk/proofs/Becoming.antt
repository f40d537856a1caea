-- What the calls of a desk become: calls of its seat, and refusals for want of memory, which are counted.
use Rattle.std.proofs.Common.{◌≡◌, ℕ, ◌+◌, ◌-◌, ◌^◌, ◌≤◌, min, List, [], ◌∷◌, ◌++◌, refl, sym, ap, ◌∙◌, inl, inr, arith}
use Rattle.std.proofs.Common.{append_assoc, append-nil}
use Rattle.swim_history.specs.declared.calls.Call.{Call}
use Rattle.swim_history.specs.declared.replies.Reply.{Reply}
use Rattle.swim_history.specs.declared.replies.Reply.TheVariants as replies
use Rattle.swim_history.specs.declared.seats.Kept.{Kept}
use Rattle.swim_history.specs.Setting.{Setting}
use Rattle.swim_control.specs.declared.desks.Answer.{Answer}
use Rattle.swim_control.specs.declared.desks.Answer.TheVariants as answers
use Rattle.swim_control.specs.declared.desks.DeskCommand.{DeskCommand}
use Rattle.swim_control.specs.declared.desks.DeskCommand.TheVariants as commands
use Rattle.swim_control.specs.Desks.{Told, Shows, Measures, Answers, Counts as Counted, Reloads}
use Rattle.swim_control.specs.SideBySide.{Called, Leads}
use Rattle.swim_desk.specs.Connected.{BecomeSo, BecomesSo, IsMade, unmade_by, unmade_in}
use Rattle.swim_desk.specs.Desk.{AtDesk, Asks, Calls, Tells}
use Rattle.swim_desk.proofs.Fullness.{told_full}

-- what was called between two states of a desk
pub record Makes (becomes : List Kept → Type 0) (unmade : ℕ) (old new : AtDesk) : Type 0 where
  pub made : List Kept
  pub calls : new.seat.calls ≡ old.seat.calls ++ made
  pub become : becomes made
  pub refused : old.refused ≤ 2 ^ 64 - 1 → new.refused ≡ min (old.refused + unmade) (2 ^ 64 - 1)

-- nothing was
makes_none : (becomes : List Kept → Type 0) (old new : AtDesk) → becomes [] → new.seat.calls ≡ old.seat.calls →
    new.refused ≡ old.refused → Makes becomes 0 old new
makes_none becomes old new none same as_many = record {
  made = [];
  calls = same ∙ sym (append-nil old.seat.calls);
  become = none;
  refused = λ within. omega (arith, within, as_many);
}

told_unmade : (reply : Reply) → Tells reply answers.NoMemory → ⊥
told_unmade (replies.Joined place) is = cc is
told_unmade replies.Removed is = cc is
told_unmade (replies.Refused why) is = cc is
told_unmade replies.Quiet is = is
told_unmade (replies.Started judged probe) is = is
told_unmade (replies.Asked target peer number relays) is = is
told_unmade replies.Heard is = is
told_unmade (replies.Send to message) is = is
told_unmade (replies.Dropped why) is = is

is_made : (call : Call) (answer : Answer) (kept : Kept) → kept.call ≡ call → Tells kept.reply answer →
    IsMade call answer (kept ∷ [])
is_made call (answers.Joined place) kept asked told = (kept, refl, asked, told)
is_made call answers.Removed kept asked told = (kept, refl, asked, told)
is_made call (answers.Refused why) kept asked told = (kept, refl, asked, told)
is_made call answers.JournalFull kept asked told = absurd (told_full kept.reply told)
is_made call answers.NoMemory kept asked told = absurd (told_unmade kept.reply told)

-- a call that was answered
unmade_none : (answer : Answer) (reply : Reply) → Tells reply answer → unmade_by (Answers answer) ≡ 0
unmade_none (answers.Joined place) reply told = refl
unmade_none answers.Removed reply told = refl
unmade_none (answers.Refused why) reply told = refl
unmade_none answers.JournalFull reply told = refl
unmade_none answers.NoMemory reply told = absurd (told_unmade reply told)

call_made : (o : Setting) (limit : ℕ) (call : Call) (answer : Answer) (old new : AtDesk) →
    Calls o limit old call answer new → Makes (IsMade call answer) (unmade_by (Answers answer)) old new
call_made o limit call answer old new (inl done) = record {
  made = done.kept ∷ [];
  calls = done.answered.calls;
  become = is_made call answer done.kept done.answered.asked done.told;
  refused = λ within.
      let as_many : new.refused ≡ old.refused = done.refused in
      let none : unmade_by (Answers answer) ≡ 0 = unmade_none answer done.kept.reply done.told in
      omega (arith, within, as_many, none);
}
call_made o limit call answers.JournalFull old new (inr is) =
    makes_none (IsMade call answers.JournalFull) old new refl (ap (λ (d : AtDesk). d.seat.calls) is.1)
    (ap (λ (d : AtDesk). d.refused) is.1)
call_made o limit call answers.NoMemory old new (inr is) = record {
  made = [];
  calls = ap (λ (d : AtDesk). d.seat.calls) is.1 ∙ sym (append-nil old.seat.calls);
  become = refl;
  refused = λ within. ap (λ (d : AtDesk). d.refused) is.1;
}
call_made o limit call (answers.Joined place) old new (inr is) = absurd is
call_made o limit call answers.Removed old new (inr is) = absurd is
call_made o limit call (answers.Refused why) old new (inr is) = absurd is

-- a call of the desk
asks_made : (o : Setting) (limit : ℕ) (command : DeskCommand) (told : Told) (old new : AtDesk) →
    Asks o limit old command told new → Makes (BecomesSo command told) (unmade_by told) old new
asks_made o limit commands.List (Shows table) old new is =
    makes_none (BecomesSo commands.List (Shows table)) old new refl (ap (λ (d : AtDesk). d.seat.calls) is.0)
    (ap (λ (d : AtDesk). d.refused) is.0)
asks_made o limit (commands.Gap member) (Measures gap) old new is =
    makes_none (BecomesSo (commands.Gap member) (Measures gap)) old new refl (ap (λ (d : AtDesk). d.seat.calls) is.0)
    (ap (λ (d : AtDesk). d.refused) is.0)
asks_made o limit commands.Stats (Counted text) old new is =
    makes_none (BecomesSo commands.Stats (Counted text)) old new refl (ap (λ (d : AtDesk). d.seat.calls) is)
    (ap (λ (d : AtDesk). d.refused) is)
asks_made o limit commands.Reload (Reloads text) old new is =
    makes_none (BecomesSo commands.Reload (Reloads text)) old new refl (ap (λ (d : AtDesk). d.seat.calls) is)
    (ap (λ (d : AtDesk). d.refused) is)
asks_made o limit (commands.Join id peer) (Answers answer) old new is = call_made o limit _ answer old new is
asks_made o limit (commands.Remove id) (Answers answer) old new is = call_made o limit _ answer old new is
asks_made o limit commands.List (Measures gap) old new is = absurd is
asks_made o limit commands.List (Answers answer) old new is = absurd is
asks_made o limit commands.List (Counted text) old new is = absurd is
asks_made o limit commands.List (Reloads text) old new is = absurd is
asks_made o limit (commands.Gap member) (Shows table) old new is = absurd is
asks_made o limit (commands.Gap member) (Answers answer) old new is = absurd is
asks_made o limit (commands.Gap member) (Counted text) old new is = absurd is
asks_made o limit (commands.Gap member) (Reloads text) old new is = absurd is
asks_made o limit commands.Stats (Shows table) old new is = absurd is
asks_made o limit commands.Stats (Measures gap) old new is = absurd is
asks_made o limit commands.Stats (Answers answer) old new is = absurd is
asks_made o limit commands.Stats (Reloads text) old new is = absurd is
asks_made o limit commands.Reload (Shows table) old new is = absurd is
asks_made o limit commands.Reload (Measures gap) old new is = absurd is
asks_made o limit commands.Reload (Answers answer) old new is = absurd is
asks_made o limit commands.Reload (Counted text) old new is = absurd is
asks_made o limit (commands.Join id peer) (Shows table) old new is = absurd is
asks_made o limit (commands.Join id peer) (Measures gap) old new is = absurd is
asks_made o limit (commands.Join id peer) (Counted text) old new is = absurd is
asks_made o limit (commands.Join id peer) (Reloads text) old new is = absurd is
asks_made o limit (commands.Remove id) (Shows table) old new is = absurd is
asks_made o limit (commands.Remove id) (Measures gap) old new is = absurd is
asks_made o limit (commands.Remove id) (Counted text) old new is = absurd is
asks_made o limit (commands.Remove id) (Reloads text) old new is = absurd is

-- one call after the other
next_made : (log : List Called) (c : Called) (old mid new : AtDesk) → Makes (BecomeSo log) (unmade_in log) old mid →
    Makes (BecomesSo c.command c.told) (unmade_by c.told) mid new →
    Makes (BecomeSo (c ∷ log)) (unmade_in log + unmade_by c.told) old new
next_made log c old mid new before last = record {
  made = before.made ++ last.made;
  calls = last.calls ∙ (ap (λ l. l ++ last.made) before.calls ∙ append_assoc old.seat.calls before.made last.made);
  become = (before.made, last.made, refl, before.become, last.become);
  refused = λ within.
      let first : mid.refused ≡ min (old.refused + unmade_in log) (2 ^ 64 - 1) = before.refused within in
      let below : mid.refused ≤ 2 ^ 64 - 1 = omega (arith, first) in
      let then : new.refused ≡ min (mid.refused + unmade_by c.told) (2 ^ 64 - 1) = last.refused below in
      omega (arith, first, then);
}

pub led_made : (o : Setting) (limit : ℕ) (log : List Called) (old new : AtDesk) → Leads (Asks o limit) old log new →
    Makes (BecomeSo log) (unmade_in log) old new
led_made o limit [] old new is =
    makes_none (BecomeSo []) old new refl (ap (λ (d : AtDesk). d.seat.calls) is) (ap (λ (d : AtDesk). d.refused) is)
led_made o limit (c ∷ log) old new (mid, (led, asked)) =
    next_made log c old mid new (led_made o limit log old mid led) (asks_made o limit c.command c.told mid new asked)
