-- Why a life ended, and whether another one follows.
use Rattle.std.specs.Prelude.{◌||◌, Bool, true, false, Option, Some, None}
use Rattle.std.specs.Option.{unwrap_or}
use Rattle.swim_work.specs.declared.counts.Counts.{Counts}
use Rattle.swim_work.specs.declared.counts.Why.{Why}
use Rattle.swim_work.specs.declared.counts.Why.TheVariants as whys
use Rattle.swim_work.specs.declared.workers.End.{End}
use Rattle.swim_work.specs.Ends.{together, why_of}
use Rattle.swim_crew.specs.declared.pasts.Ends.{Ends}
use Rattle.swim_crew.specs.declared.pasts.LivesEnd.{LivesEnd}
use Rattle.swim_crew.specs.declared.pasts.LivesEnd.TheVariants.{Stopped, Socket, NoMemory}
use Rattle.swim_crew.specs.declared.pasts.Past.{Past}

-- why a worker ended; one that ended since its life was over has no reason of its own
abbrev pub reason : End → Why
reason end = unwrap_or end.why whys.Stopped

-- why a life ended: the gravest of its workers' reasons, and no memory if one of them got no thread
abbrev pub why_ended : Ends → Why
why_ended ends = why_of (reason ends.first) (reason ends.second) (reason ends.third) ends.all_began

-- a worker was told to stop
abbrev pub is_told : Option Why → Bool
is_told (Some whys.Stopped) = true
is_told why = false

-- one of a life's workers was
abbrev pub is_stopped : Ends → Bool
is_stopped ends = is_told ends.first.why || is_told ends.second.why || is_told ends.third.why

-- what all of them counted
abbrev pub counted : Ends → Counts
counted ends = together (together ends.first.counts ends.second.counts) ends.third.counts

-- why no life follows one that ended for this reason; a full journal is followed by a life, unless a worker was told to
-- stop
abbrev pub end_by : Why → Bool → Option LivesEnd
end_by whys.JournalFull true = Some Stopped
end_by whys.JournalFull false = None
end_by whys.NoMemory stopped = Some NoMemory
end_by whys.Socket stopped = Some Socket
end_by whys.Stopped stopped = Some Stopped

abbrev pub end_after : Past → Option LivesEnd
end_after past = end_by past.why (is_stopped past.ends)
