-- What is held of a node's journals: what the definitions say of all that was read.
use Rattle.std.specs.Prelude.{◌≡◌, ℕ, ◌+◌, nat_le, if◌then◌else◌, Bool, List, [], ◌∷◌, map, length, sum, count_by}
use Rattle.swim_history.specs.declared.replies.DropReason.{DropReason}
use Rattle.swim_history.specs.declared.replies.DropReason.TheVariants as reasons
use Rattle.swim_history.specs.declared.calls.Call.{Call}
use Rattle.swim_history.specs.declared.replies.Reply.{Reply}
use Rattle.swim_history.specs.declared.entries.Entry.{Entry}
use Rattle.swim_history.specs.Setting.{Setting}
use Rattle.swim_history.specs.Changes.{change_by}
use Rattle.swim_history.specs.Events.{is_tick, joins}
use Rattle.swim_events.specs.Watched.{Lived}
use Rattle.swim_events.specs.Watching.{Known, rows_then, number_then}
use Rattle.swim_metrics.specs.declared.entry_counts.EntryCounts.{EntryCounts}
use Rattle.swim_metrics.specs.declared.dropped.Dropped.{Dropped}
use Rattle.swim_metrics.specs.declared.measures.Measures.{Measures}
use Rattle.swim_metrics.specs.declared.odd_senders.OddSenders.{OddSenders}
use Rattle.swim_metrics.specs.declared.wait_histograms.HistogramBucket.{HistogramBucket}
use Rattle.swim_metrics.specs.declared.wait_histograms.Waits.{Waits}
use Rattle.swim_metrics.specs.Counting.{capped, entries, this_life, sent, sends_ping, sends_ask, pinged, heard_directly}
use Rattle.swim_metrics.specs.Counting.{heard_by_relay, serves, dropped_as, failed_in, judges, last_begun, late, leaves}
use Rattle.swim_metrics.specs.Counting.{up_in}
use Rattle.swim_metrics.specs.declared.member_figures.MemberFigures.{MemberFigures}
use Rattle.swim_metrics.specs.Waiting.{bounds, waited, waits, was_heard}

-- the count of a reason
abbrev pub dropped_for : DropReason → Dropped → ℕ
dropped_for reasons.NotForMe d = d.not_for_me
dropped_for reasons.Borrowed d = d.borrowed
dropped_for reasons.AboutMe d = d.about_me
dropped_for reasons.Unlisted d = d.unlisted
dropped_for reasons.TableFull d = d.table_full
dropped_for reasons.Stray d = d.stray
dropped_for reasons.NoRequest d = d.no_request

-- a bucket of a histogram counts all waits up to its bound
abbrev pub bucket_of : List ℕ → ℕ → HistogramBucket
bucket_of waits bound = record { bound = bound; count = capped (count_by (λ wait. nat_le wait bound) waits) }

-- a bucket after one more wait
abbrev pub bucket_then : ℕ → HistogramBucket → HistogramBucket
bucket_then wait bucket =
    record { bound = bucket.bound; count = capped (bucket.count + (if nat_le wait bucket.bound then 1 else 0)) }

-- a histogram of these waits
pub record AreOf (w : Waits) (waits : List ℕ) : Type 0 where
  pub buckets : w.buckets ≡ map (bucket_of waits) bounds
  pub total : w.sum ≡ capped (sum waits)
  pub number : w.count ≡ capped (length waits)

-- the counts are those of all a node's lives
pub record Count (c : EntryCounts) (node : List Lived) : Type 0 where
  pub ticks : c.ticks ≡ capped (count_by is_tick (entries node))
  pub pings_sent : c.pings_sent ≡ capped (count_by sends_ping (sent node))
  pub pings_heard : c.pings_heard ≡ capped (count_by pinged (entries node))
  pub heard_directly : c.heard_directly ≡ capped (count_by heard_directly (entries node))
  pub heard_by_relay : c.heard_by_relay ≡ capped (count_by heard_by_relay (entries node))
  pub acks_late : c.acks_late ≡ capped (late node)
  pub asks_sent : c.asks_sent ≡ capped (count_by sends_ask (sent node))
  pub requests_served : c.requests_served ≡ capped (count_by serves (entries node))
  pub dropped : (why : DropReason) → dropped_for why c.dropped ≡ capped (count_by (dropped_as why) (entries node))
  pub verdicts : c.verdicts ≡ capped (count_by judges (entries node))
  pub joins : c.joins ≡ capped (count_by joins (entries node))
  pub removals : c.removals ≡ capped (count_by leaves (entries node))
  pub lives : c.lives ≡ capped (length node)
  pub entries : c.entries ≡ capped (length (this_life node))
  pub waits : AreOf c.waits (waits node)

-- the period that runs is so many ticks old, and its aim was heard or was not
pub record Runs (ticks : ℕ) (is_heard : Bool) (h : List Entry) : Type 0 where
  pub age : ticks ≡ capped (waited h)
  pub hearing : is_heard ≡ was_heard h

-- the counts, how many ticks old the period that runs is, whether its aim was heard, what is known of the members, what
-- was counted of each, this member's id, and messages whose senders aren't as the table has them
pub record Measured : Type 0 where
  pub counts : EntryCounts
  pub waited : ℕ
  pub heard : Bool
  pub known : Known
  pub members : List MemberFigures
  pub me : ℕ
  pub odd : OddSenders

-- the number of the last period that began in the newest life
abbrev pub newest_number : List Lived → ℕ
newest_number [] = 0
newest_number (life ∷ older) = last_begun life.opening life.past

-- what is held is what all these lives come to; what is known and counted of the members is told apart
pub record Follows (m : Measured) (lives : List Lived) : Type 0 where
  pub counts : Count m.counts lives
  pub period : Runs m.waited m.heard (this_life lives)
  pub number : m.known.number ≡ newest_number lives

-- what is told of them
abbrev pub measures_of : Measured → Measures
measures_of m = record {
  counts = m.counts;
  up = up_in m.known.rows;
  failed = failed_in m.known.rows;
  number = m.known.number;
  members = record { items = m.members };
  odd = m.odd;
}

-- a life begins
abbrev pub begun : ℕ → Setting → List Lived → List Lived
begun number o lives = record { number = number; opening = o; past = [] } ∷ lives

-- what is known of the members after an entry
abbrev pub known_then : Call → Reply → Known → Known
known_then call reply k =
    record { rows = rows_then (change_by call reply k.number) k.rows; number = number_then reply k.number }
