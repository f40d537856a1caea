-- What a daemon counts of its lives, and tells of them.
use Rattle.std.specs.Prelude.{◌≡◌, ℕ, ◌-◌, ◌==◌, ◌&&◌, nat_lt, Bool, true, false, List, [], ◌∷◌, Option, Some, None}
use Rattle.std.specs.Prelude.{if◌then◌else◌}
use Rattle.std.specs.Option.{option_and_then}
use Rattle.swim_wire.specs.Address.{Address}
use Rattle.swim_history.specs.declared.calls.Call.{Call}
use Rattle.swim_history.specs.declared.calls.Call.TheVariants.{Hear}
use Rattle.swim_history.specs.declared.replies.Reply.{Reply}
use Rattle.swim_history.specs.declared.replies.Reply.TheVariants.{Heard}
use Rattle.swim_history.specs.declared.rows.Change.{Change}
use Rattle.swim_history.specs.declared.rows.Change.TheVariants.{Up, Failed, Gone}
use Rattle.swim_events.specs.Watched.{Lived}
use Rattle.swim_recorder.specs.declared.reporters.Standing.{Standing}
use Rattle.swim_metrics.specs.declared.hearings.LastHearing.{LastHearing}
use Rattle.swim_metrics.specs.FailedFor.{failed_for}
use Rattle.swim_metrics.specs.Following.{Follows, Measured, measures_of}
use Rattle.swim_metrics.specs.LastHeard.{heard_at}
use Rattle.swim_metrics.specs.Members.{tally_in}
use Rattle.swim_reports.specs.declared.bulletins.Counted.{Counted}
use Rattle.swim_reports.specs.declared.happenings.Happening.{Happening}
use Rattle.swim_reports.specs.declared.happenings.Happening.TheVariants.{Judged, Joined, JoinedAgain, Relayed, Removed}
use Rattle.swim_reports.specs.declared.totals.Totals.{Totals}
use Rattle.swim_reports.specs.Totals.{totals_with}

-- the receiver's seat, by which the daemon lets members join again
abbrev pub receiver : ℕ
receiver = 0

-- whether a call of that seat, which changed the member table so, is a join that the daemon made by itself
abbrev pub is_own_join : ℕ → Option Change → Bool
is_own_join seat (Some (Up id at)) = seat == receiver
is_own_join seat change = false

-- the entries of these lives were counted; before the first there is nothing to count
abbrev pub AreCounted : Option Measured → List Lived → Type 0
AreCounted None [] = Unit {0}
AreCounted None (life ∷ older) = ⊥
AreCounted (Some m) lives = Follows m lives

-- what is told of the counts: of the entries, of the life that runs and of those before it, and of the daemon's own
-- joins
abbrev pub counted_of : Standing → Totals → ℕ → Measured → Counted
counted_of life over own_joins m = record {
  measures = measures_of m;
  behind = life.metered.calls - life.read;
  totals = totals_with over life;
  watchers = life.watchers;
  own_joins = own_joins;
}

-- for how many periods a member is failed, if it is
abbrev pub failed_by : Option Measured → ℕ → Option ℕ
failed_by metrics id = option_and_then (λ m. failed_for id m.known) metrics

-- the member of which an entry is an ack that came in time
abbrev pub acked_in : Call → Reply → Option ℕ
acked_in (Hear source ack) Heard = Some ack.target
acked_in call reply = None

-- in how many periods in a row that member was heard by relays alone, by what was counted
abbrev pub relayed_of : Option ℕ → Option Measured → ℕ
relayed_of (Some id) (Some m) = (tally_in id m.members).relayed
relayed_of id metrics = 0

abbrev pub relayed_by : Call → Reply → Option Measured → ℕ
relayed_by call reply metrics = relayed_of (acked_in call reply) metrics

-- what the log tells as a member was heard by relays alone in the tenth period in a row
abbrev pub told_alone : Option ℕ → ℕ → ℕ → Option Happening
told_alone None before after = None
told_alone (Some id) before after = if nat_lt before 10 && after == 10 then Some (Relayed id 10) else None

-- a join of a member that is failed for so many periods, if it is, by the receiver's seat or by another
abbrev pub join_told : Option ℕ → Bool → ℕ → Address → Happening
join_told None is_own id at = Joined id at
join_told (Some after) true id at = JoinedAgain id after
join_told (Some after) false id at = Joined id at

-- what the log tells of a change by a call of this seat
abbrev pub told_of : ℕ → Change → Option Measured → List LastHearing → Happening
told_of seat (Up id at) metrics hearings = join_told (failed_by metrics id) (seat == receiver) id at
told_of seat (Failed id period) metrics hearings = Judged id period (heard_at hearings id)
told_of seat (Gone id) metrics hearings = Removed id
