-- The metrics, as one table: of each its name, what it tells, its type and its samples.
use Rattle.std.specs.Prelude.{Bool, true, false, not, ℕ, suc, ◌==◌, if◌then◌else◌, ◌*◌, ◌/◌, ◌%◌, List, [], ◌∷◌, ◌++◌}
use Rattle.std.specs.Prelude.{map, filter, length, codes, decimal, Option, Some, None, is_some}
use Rattle.std.specs.Int.{from_bool}
use Rattle.swim_metrics.specs.declared.dropped.Dropped.{Dropped}
use Rattle.swim_metrics.specs.declared.wait_histograms.HistogramBucket.{HistogramBucket}
use Rattle.swim_metrics.specs.declared.wait_histograms.Waits.{Waits}
use Rattle.swim_metrics.specs.declared.outside.Outside.{Outside}
use Rattle.swim_metrics.specs.declared.outside.FileFigures.{FileFigures}
use Rattle.swim_metrics.specs.declared.heads.MetricKind.{MetricKind}
use Rattle.swim_metrics.specs.declared.heads.Metric.{Metric}
use Rattle.swim_metrics.specs.declared.heads.Metric.TheVariants as metrics
use Rattle.swim_metrics.specs.declared.families.Column.{Column}
use Rattle.swim_metrics.specs.declared.families.Column.TheVariants as columns
use Rattle.swim_metrics.specs.declared.member_figures.MemberFigures.{MemberFigures}
use Rattle.swim_metrics.specs.declared.measures.Measures.{Measures}
use Rattle.swim_metrics.specs.Heads.{head_of}

-- a value of a metric: what follows the metric's name, its labels behind the first, each with a comma in front, and the
-- value
pub record Sample : Type 0 where
  pub suffix : List ℕ
  pub labels : List ℕ
  pub value : List ℕ

pub record Family : Type 0 where
  pub name : List ℕ
  pub help : List ℕ
  pub kind : MetricKind
  pub samples : List Sample

-- ---- samples

abbrev pub part : List ℕ → List ℕ → ℕ → Sample
part suffix labels n = record { suffix = suffix; labels = labels; value = decimal n }

abbrev pub labelled : List ℕ → ℕ → Sample
labelled labels n = part [] labels n

-- one value alone
abbrev pub one : ℕ → List Sample
one n = labelled [] n ∷ []

-- a time in milliseconds, told in seconds
abbrev pub seconds : ℕ → List ℕ
seconds ms =
    decimal (ms / 1000) ++ (codes "." ++ (decimal (ms / 100 % 10) ++ (decimal (ms / 10 % 10) ++ decimal (ms % 10))))

abbrev pub one_time : ℕ → List Sample
one_time ms = record { suffix = []; labels = []; value = seconds ms } ∷ []

-- a character within quotes
abbrev pub escaped_one : ℕ → List ℕ
escaped_one c =
    if c == 10 then codes "\\n" else (if c == 34 then codes "\\\"" else (if c == 92 then codes "\\\\" else c ∷ []))

abbrev pub escaped : List ℕ → List ℕ
escaped [] = []
escaped (c ∷ text) = escaped_one c ++ escaped text

abbrev pub version_sample : List ℕ → List Sample
version_sample version = record {
  suffix = [];
  labels = codes ",version=\"" ++ (escaped version ++ codes "\"");
  value = codes "1";
} ∷ []

abbrev pub state_samples : ℕ → ℕ → List Sample
state_samples up failed = labelled (codes ",state=\"up\"") up ∷ labelled (codes ",state=\"failed\"") failed ∷ []

abbrev pub ack_samples : ℕ → ℕ → List Sample
ack_samples directly by_relay =
    labelled (codes ",from=\"target\"") directly ∷ labelled (codes ",from=\"relay\"") by_relay ∷ []

abbrev pub dropped_samples : Dropped → List Sample
dropped_samples d =
    labelled (codes ",reason=\"not_for_me\"") d.not_for_me
    ∷ labelled (codes ",reason=\"borrowed\"") d.borrowed
    ∷ labelled (codes ",reason=\"about_me\"") d.about_me
    ∷ labelled (codes ",reason=\"unlisted\"") d.unlisted
    ∷ labelled (codes ",reason=\"table_full\"") d.table_full
    ∷ labelled (codes ",reason=\"stray\"") d.stray
    ∷ labelled (codes ",reason=\"no_request\"") d.no_request
    ∷ []

abbrev pub odd_samples : ℕ → ℕ → ℕ → List Sample
odd_samples unlisted own_id elsewhere =
    labelled (codes ",why=\"unlisted\"") unlisted
    ∷ labelled (codes ",why=\"own_id\"") own_id
    ∷ labelled (codes ",why=\"elsewhere\"") elsewhere
    ∷ []

-- of a histogram's bucket
abbrev pub bucket_sample : HistogramBucket → Sample
bucket_sample bucket =
    part (codes "_bucket") (codes ",le=\"" ++ (decimal bucket.bound ++ codes "\"")) bucket.count

-- behind the buckets: all waits, their sum, and how many there were
abbrev pub total_samples : Waits → List Sample
total_samples w =
    part (codes "_bucket") (codes ",le=\"+Inf\"") w.count
    ∷ part (codes "_sum") [] w.sum
    ∷ part (codes "_count") [] w.count
    ∷ []

abbrev pub wait_samples : Waits → List Sample
wait_samples w = map bucket_sample w.buckets ++ total_samples w

-- ---- members

-- of a member; what is told beside its id stands behind that
abbrev pub member_sample : ℕ → List ℕ → ℕ → Sample
member_sample id more n = labelled (codes ",id=\"" ++ (decimal id ++ (codes "\"" ++ more))) n

abbrev pub heard_sample : ℕ → Option ℕ → List Sample
heard_sample id None = []
heard_sample id (Some number) = member_sample id [] number ∷ []

abbrev pub member_acks : ℕ → ℕ → ℕ → List Sample
member_acks id directly by_relay =
    member_sample id (codes ",from=\"target\"") directly ∷ member_sample id (codes ",from=\"relay\"") by_relay ∷ []

abbrev pub column_of : Column → MemberFigures → List Sample
column_of columns.Up row = member_sample row.id [] (from_bool row.is_up) ∷ []
column_of columns.Heard row = heard_sample row.id row.tally.heard
column_of columns.Acks row = member_acks row.id row.tally.directly row.tally.by_relay
column_of columns.Verdicts row = member_sample row.id [] row.tally.verdicts ∷ []
column_of columns.Asked row = member_sample row.id [] row.tally.asked ∷ []

-- of each member, in turn
abbrev pub member_samples : Column → List MemberFigures → List Sample
member_samples column [] = []
member_samples column (row ∷ rows) = column_of column row ++ member_samples column rows

-- ---- keys

-- of the key of the group at a place, by its fingerprint
abbrev pub key_sample : ℕ → List ℕ → Sample
key_sample place fingerprint = record {
  suffix = [];
  labels = codes ",place=\"" ++ (decimal place ++ (codes "\",fingerprint=\"" ++ (fingerprint ++ codes "\"")));
  value = codes "1";
}

-- of each key, in turn, where so many stand in front of them
abbrev pub key_samples : ℕ → List (List ℕ) → List Sample
key_samples before [] = []
key_samples before (fingerprint ∷ others) = key_sample (suc before) fingerprint ∷ key_samples (suc before) others

-- ---- journal files

-- whether the newest life's file is whole so far; not where lives have none
abbrev pub is_ok : Option FileFigures → Bool
is_ok None = false
is_ok (Some files) = files.is_ok

-- how many lives have no whole file; 0 where none was to have one
abbrev pub cut_in : Option FileFigures → ℕ
cut_in None = 0
cut_in (Some files) = files.cut

-- ---- the table

-- the values of a metric
abbrev pub samples_by : Measures → Outside → Metric → List Sample
samples_by m out metrics.Build = version_sample out.version.now
samples_by m out metrics.Member = one out.me
samples_by m out metrics.Members = state_samples m.up m.failed
samples_by m out metrics.PeriodNumber = one m.number
samples_by m out metrics.PeriodSeconds = one_time (out.tick_ms * out.period)
samples_by m out metrics.TickSeconds = one_time out.tick_ms
samples_by m out metrics.Ticks = one m.counts.ticks
samples_by m out metrics.PingsSent = one m.counts.pings_sent
samples_by m out metrics.PingsHeard = one m.counts.pings_heard
samples_by m out metrics.AcksHeard = ack_samples m.counts.heard_directly m.counts.heard_by_relay
samples_by m out metrics.LateAcks = one m.counts.acks_late
samples_by m out metrics.AsksSent = one m.counts.asks_sent
samples_by m out metrics.RequestsServed = one m.counts.requests_served
samples_by m out metrics.Dropped = dropped_samples m.counts.dropped
samples_by m out metrics.OddSenders =
    odd_samples m.odd.unlisted.count m.odd.own_id.count m.odd.elsewhere.count
samples_by m out metrics.Verdicts = one m.counts.verdicts
samples_by m out metrics.Joins = one m.counts.joins
samples_by m out metrics.OwnJoins = one out.own_joins
samples_by m out metrics.Removals = one m.counts.removals
samples_by m out metrics.Knocks = one out.knocks
samples_by m out metrics.Lives = one m.counts.lives
samples_by m out metrics.Entries = one m.counts.entries
samples_by m out metrics.EntriesLimit = one out.journal_limit
samples_by m out metrics.EntriesBehind = one out.behind
samples_by m out metrics.Unsent = one out.unsent
samples_by m out metrics.Wire = one out.wire
samples_by m out metrics.Refused = one out.refused
samples_by m out metrics.Forged = one out.forged
samples_by m out metrics.Fenced = one out.fenced
samples_by m out metrics.Key = key_samples 0 out.fingerprints.now.items
samples_by m out metrics.Watchers = one out.watchers
samples_by m out metrics.LostWatchers = one out.lost_watchers
samples_by m out metrics.Unwritten = one out.unwritten
samples_by m out metrics.MemberUp = member_samples columns.Up m.members.items
samples_by m out metrics.MemberHeard = member_samples columns.Heard m.members.items
samples_by m out metrics.MemberAcks = member_samples columns.Acks m.members.items
samples_by m out metrics.MemberVerdicts = member_samples columns.Verdicts m.members.items
samples_by m out metrics.MemberAsked = member_samples columns.Asked m.members.items
samples_by m out metrics.JournalFileOk = one (from_bool (is_ok out.files))
samples_by m out metrics.JournalFilesCut = one (cut_in out.files)
samples_by m out metrics.AckWait = wait_samples m.counts.waits

abbrev pub family_of : Measures → Outside → Metric → Family
family_of m out metric = record {
  name = (head_of metric).name;
  help = (head_of metric).help;
  kind = (head_of metric).kind;
  samples = samples_by m out metric;
}

-- all of them, in the order in which they are told
abbrev pub all : List Metric
all =
    metrics.Build ∷ metrics.Member ∷ metrics.Members ∷ metrics.PeriodNumber ∷ metrics.PeriodSeconds
    ∷ metrics.TickSeconds ∷ metrics.Ticks ∷ metrics.PingsSent ∷ metrics.PingsHeard ∷ metrics.AcksHeard
    ∷ metrics.LateAcks ∷ metrics.AsksSent ∷ metrics.RequestsServed ∷ metrics.Dropped
    ∷ metrics.OddSenders ∷ metrics.AckWait
    ∷ metrics.Verdicts ∷ metrics.Joins ∷ metrics.OwnJoins ∷ metrics.Removals ∷ metrics.Knocks ∷ metrics.Lives
    ∷ metrics.Entries ∷ metrics.EntriesLimit ∷ metrics.EntriesBehind ∷ metrics.Unsent ∷ metrics.Wire ∷ metrics.Refused
    ∷ metrics.Forged ∷ metrics.Fenced ∷ metrics.Key ∷ metrics.Watchers ∷ metrics.LostWatchers ∷ metrics.Unwritten
    ∷ metrics.MemberUp ∷ metrics.MemberHeard ∷ metrics.MemberAcks ∷ metrics.MemberVerdicts ∷ metrics.MemberAsked
    ∷ metrics.JournalFileOk ∷ metrics.JournalFilesCut ∷ []

-- a metric is told of a daemon: that of keys only where it has some, and those of journal files only where it has some
abbrev pub is_told : Outside → Metric → Bool
is_told out metrics.Key = not (length out.fingerprints.now.items == 0)
is_told out metrics.JournalFileOk = is_some out.files
is_told out metrics.JournalFilesCut = is_some out.files
is_told out metric = true

-- those that are told of a daemon
abbrev pub told : Outside → List Metric
told out = filter (is_told out) all
