-- What contracts see of a `Journal`.
use Rattle.std.specs.Prelude.{◌≡◌, ℕ, ◌+◌, ◌^◌, ◌<◌, ◌≤◌, true, List, length, filter, nat_eq, IfSome, if◌then◌else◌}
use Rattle.std.specs.Option.{option_to_list}
use Rattle.std.specs.HashMap.{get, spare}
use Rattle.swim_history.specs.declared.calls.Call.{Call}
use Rattle.swim_history.specs.declared.replies.Reply.{Reply}
use Rattle.swim_history.specs.declared.entries.Choice.TheVariants.{Nothing}
use Rattle.swim_history.specs.declared.entries.Entry.{Entry}
use Rattle.swim_history.specs.declared.summaries.Summary.{Summary}
use Rattle.swim_history.specs.Setting.{Setting, is_state_up}
use Rattle.swim_history.specs.Clock.{period_number}
use Rattle.swim_history.specs.Changes.{table, change_by, rows_after, IsAscending}
use Rattle.swim_history.specs.Events.{is_starting, judged_in, probe_in, is_joining, joins}
use Rattle.swim_history.specs.Judgement.{judgements}
use Rattle.swim_history.specs.Storing.MemberGaps.{IsKept, IsOpenTo, gaps_then}

pub record Written : Type 0 where
  pub opening : Setting
  -- newest first
  pub past : List Entry
  -- how many more entries take no memory
  pub room : ℕ

-- what is kept of a history
pub record IsSummary (o : Setting) (h : List Entry) (s : Summary) : Type 0 where
  pub rows_are : s.rows.items ≡ table o h
  pub number_is : s.number ≡ period_number o h
  pub judged_is : s.judged ≡ length (judgements o h)
  pub joins_are : s.joins ≡ length (filter joins h)
  pub gaps_are : (m : ℕ) → IsKept o h s.joins m (get nat_eq s.gaps m)

-- what an entry with this call and reply makes of it has room
pub record HasRoomFor (call : Call) (reply : Reply) (s : Summary) : Type 0 where
  pub ascends : IsAscending s.rows.items
  pub rows : length (rows_after s.rows.items (option_to_list (change_by call reply s.number))) ≤ 128
  pub number : is_starting reply ≡ true → s.number + 1 < 2 ^ 64
  pub judged : s.judged + 1 < 2 ^ 32
  pub joins : s.joins + 1 < 2 ^ 32
  pub gap : IfSome (probe_in reply) (λ probe. IsOpenTo s.joins probe.number (get nat_eq s.gaps probe.target))
  pub member : 0 < spare s.gaps

-- and what that is
pub record IsNext (call : Call) (reply : Reply) (old new : Summary) : Type 0 where
  pub rows : new.rows.items ≡ rows_after old.rows.items (option_to_list (change_by call reply old.number))
  pub number : new.number ≡ (if is_starting reply then old.number + 1 else old.number)
  pub judged : new.judged ≡ old.judged + length (option_to_list (judged_in reply))
  pub joins : new.joins ≡ (if is_joining call reply then old.joins + 1 else old.joins)
  pub gaps : (m : ℕ) → get nat_eq new.gaps m ≡ gaps_then m call reply
      (length (filter (λ row. is_state_up row.state) new.rows.items)) old.joins (get nat_eq old.gaps m)
  pub member : spare old.gaps ≤ spare new.gaps + 1

-- it keeps the same, though perhaps with more room
pub record IsSame (old new : Summary) : Type 0 where
  pub rows : new.rows ≡ old.rows
  pub number : new.number ≡ old.number
  pub judged : new.judged ≡ old.judged
  pub joins : new.joins ≡ old.joins
  pub gaps : (m : ℕ) → get nat_eq new.gaps m ≡ get nat_eq old.gaps m

-- an entry for which nothing was drawn
abbrev pub undrawn : ℕ → ℕ → Call → Reply → Entry
undrawn seat number call reply = record { seat = seat; number = number; call = call; choice = Nothing; reply = reply }
