-- The headline: whatever the threads' schedule and the datagrams, the journal handed back at closing is one run of the
-- sequential SWIM detector holding every caller's calls once, in its order, with the replies it got; in it a member is
-- judged failed exactly at the end of a period aimed at it without an ack for that period, and successive probes of a
-- listed member lie at most 2n - 1 periods apart.
use Rattle.std.specs.Prelude.{◌≡◌, ℕ, ◌<◌, List, length}
use Rattle.std.specs.List.{AllByRecursion}
use Rattle.swim_history.specs.declared.rows.Change.{Change}
use Rattle.swim_history.specs.declared.entries.Entry.{Entry}
use Rattle.swim_history.specs.Setting.{Setting}
use Rattle.swim_history.specs.Changes.{changes}
use Rattle.swim_history.specs.Run.{IsRun}
use Rattle.swim_history.specs.Seats.{kept_of}
use Rattle.swim_history.specs.Judgement.{JudgesByRule}
use Rattle.swim_history.specs.Gap.{AreGapsBounded, IsProbedInTime}
use Rattle.swim_node.specs.Seats.{Seated}

-- each seat's calls are the journal's entries of that seat: each once, in order, with its place and its reply
abbrev pub HoldsCalls : List Entry → List Seated → Type 0
HoldsCalls h seats = AllByRecursion (λ seat. seat.calls ≡ kept_of seat.number h) seats

-- a caller whose call met a full journal met one that has as many entries as it may have
abbrev pub AreFullWhereMet : ℕ → List Entry → List Seated → Type 0
AreFullWhereMet limit h seats = AllByRecursion (λ seat. 0 < seat.full → length h ≡ limit) seats

-- the journal of a closed node, the calls of its seats, and the closing news
pub record IsOneHistory (o : Setting) (h : List Entry) (seats : List Seated) (news : List Change) : Type 0 where
  -- the journal is one run of the sequential SWIM detector,
  pub run : IsRun o h
  -- holding every caller's calls once, in its order, with the replies it got,
  pub calls : HoldsCalls h seats
  -- and nobody else's;
  pub callers : AllByRecursion (λ e. e.seat < 4) h
  -- in it a member is judged failed exactly at the end of a period aimed at it without an ack for that period,
  pub judged : JudgesByRule o h
  -- successive probes of a listed member lie at most 2 n - 1 periods apart,
  pub gaps : AreGapsBounded o h
  -- and of 2 n - 1 starts, as long as it is listed, one probes it;
  pub rounds : IsProbedInTime o h
  -- the closing news is all its changes of the member table
  pub told : news ≡ changes o h
