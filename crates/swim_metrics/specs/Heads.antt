-- What each metric is called, what it tells, and how it is to be read.
use Rattle.std.specs.Prelude.{ℕ, List, codes}
use Rattle.swim_metrics.specs.declared.heads.MetricKind.{MetricKind}
use Rattle.swim_metrics.specs.declared.heads.MetricKind.TheVariants.{Counter, Gauge, Histogram}
use Rattle.swim_metrics.specs.declared.heads.Metric.{Metric}
use Rattle.swim_metrics.specs.declared.heads.Metric.TheVariants as metrics

pub record HeadTexts : Type 0 where
  pub name : List ℕ
  pub help : List ℕ
  pub kind : MetricKind

abbrev pub head : MetricKind → List ℕ → List ℕ → HeadTexts
head kind name help = record { name = name; help = help; kind = kind }

abbrev pub head_of : Metric → HeadTexts
head_of metrics.Build = head Gauge (codes "swimd_build_info") (codes "The version of the daemon.")
head_of metrics.Member = head Gauge (codes "swimd_member_id") (codes "This member's id.")
head_of metrics.Members = head Gauge (codes "swimd_members") (codes "Other members that are known, by state.")
head_of metrics.PeriodNumber = head Gauge (codes "swimd_period_number") (codes "The number of the period that runs.")
head_of metrics.PeriodSeconds = head Gauge (codes "swimd_period_seconds") (codes "How long a period lasts.")
head_of metrics.TickSeconds = head Gauge (codes "swimd_tick_seconds") (codes "How long a tick lasts.")
head_of metrics.Ticks = head Counter (codes "swimd_ticks_total") (codes "Ticks of time that were taken.")
head_of metrics.PingsSent =
    head Counter (codes "swimd_pings_sent_total") (codes "Pings sent, those for other members among them.")
head_of metrics.PingsHeard = head Counter (codes "swimd_pings_heard_total") (codes "Pings that came.")
head_of metrics.AcksHeard =
    head Counter (codes "swimd_acks_heard_total") (codes "Acks of own probes that came in time, by who sent them.")
head_of metrics.LateAcks =
    head Counter (codes "swimd_acks_late_total") (codes "Acks of own probes that came after the end of their periods.")
head_of metrics.AsksSent =
    head Counter (codes "swimd_asks_sent_total") (codes "Relays that were asked to ping a member.")
head_of metrics.RequestsServed =
    head Counter (codes "swimd_requests_served_total") (codes "Requests of others for which a member was pinged.")
head_of metrics.Dropped = head Counter (codes "swimd_dropped_total") (codes "Messages that were dropped, by reason.")
head_of metrics.OddSenders =
    head Counter (codes "swimd_odd_senders_total")
    (codes "Messages whose senders are not as the member table has them, by why.")
head_of metrics.Verdicts = head Counter (codes "swimd_verdicts_total") (codes "Members that were judged failed.")
head_of metrics.Joins = head Counter (codes "swimd_joins_total") (codes "Members that joined, or joined again.")
head_of metrics.OwnJoins = head Counter (codes "swimd_own_joins_total") (codes "Joins that the daemon made by itself.")
head_of metrics.Removals = head Counter (codes "swimd_removals_total") (codes "Members that were removed.")
head_of metrics.Knocks =
    head Counter (codes "swimd_knocks_total") (codes "Pings sent to failed members beside the probes.")
head_of metrics.Lives =
    head Counter (codes "swimd_lives_total") (codes "Lives that began, each with a journal of its own.")
head_of metrics.Entries = head Gauge (codes "swimd_journal_entries") (codes "Entries of this life's journal.")
head_of metrics.EntriesLimit = head Gauge (codes "swimd_journal_entries_limit") (codes "The most entries of a journal.")
head_of metrics.EntriesBehind =
    head Gauge (codes "swimd_journal_entries_behind") (codes "Entries that are in none of these counts yet.")
head_of metrics.Unsent = head Counter (codes "swimd_unsent_total") (codes "Datagrams that could not be sent.")
head_of metrics.Wire = head Counter (codes "swimd_wire_total") (codes "Datagrams that came and are no message.")
head_of metrics.Refused =
    head Counter (codes "swimd_refused_total") (codes "Calls that were refused for want of memory.")
head_of metrics.Forged =
    head Counter (codes "swimd_forged_total") (codes "Datagrams that came without a tag by a key of the group.")
head_of metrics.Fenced =
    head Counter (codes "swimd_fenced_total") (codes "Datagrams that came above the rate and were thrown away.")
head_of metrics.Key =
    head Gauge (codes "swimd_key") (codes "A key of the group, by its fingerprint. The one at place 1 signs.")
head_of metrics.Watchers = head Gauge (codes "swimd_watchers") (codes "Watchers of the member table now.")
head_of metrics.LostWatchers = head Counter (codes "swimd_lost_watchers_total") (codes "Watchers that did not keep up.")
head_of metrics.Unwritten =
    head Counter (codes "swimd_metrics_unwritten_total")
    (codes "Times that the metrics could not be written to their file.")
head_of metrics.MemberUp = head Gauge (codes "swimd_member_up") (codes "Whether a member is up.")
head_of metrics.MemberHeard =
    head Gauge (codes "swimd_member_heard_period")
    (codes "The number of the last period in which an ack of a member came in time.")
head_of metrics.MemberAcks =
    head Counter (codes "swimd_member_acks_total")
    (codes "Acks of own probes of a member that came in time, by who sent them.")
head_of metrics.MemberVerdicts =
    head Counter (codes "swimd_member_verdicts_total") (codes "How often a member was judged failed.")
head_of metrics.MemberAsked =
    head Counter (codes "swimd_member_asked_total") (codes "How often a member was asked to ping another one.")
head_of metrics.JournalFileOk =
    head Gauge (codes "swimd_journal_file_ok") (codes "Whether this life's journal file is whole so far.")
head_of metrics.JournalFilesCut =
    head Counter (codes "swimd_journal_files_cut_total") (codes "Lives without a whole journal file.")
head_of metrics.AckWait =
    head Histogram (codes "swimd_ack_wait_ticks") (codes "Ticks from a probe to the first ack of it that came in time.")
