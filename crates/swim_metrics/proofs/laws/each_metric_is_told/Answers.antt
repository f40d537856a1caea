use Rattle.std.proofs.Common.{Contains, refl, arith}
use Rattle.swim_metrics.specs.declared.heads.Metric.{Metric}
use Rattle.swim_metrics.specs.declared.heads.Metric.TheVariants as metrics
use Rattle.swim_metrics.specs.Families.{all}
use Rattle.swim_metrics.proofs.laws.each_metric_is_told.Goals as goal

told : (metric : Metric) → Contains all metric
told metrics.Build = (0, omega arith, refl)
told metrics.Member = (1, omega arith, refl)
told metrics.Members = (2, omega arith, refl)
told metrics.PeriodNumber = (3, omega arith, refl)
told metrics.PeriodSeconds = (4, omega arith, refl)
told metrics.TickSeconds = (5, omega arith, refl)
told metrics.Ticks = (6, omega arith, refl)
told metrics.PingsSent = (7, omega arith, refl)
told metrics.PingsHeard = (8, omega arith, refl)
told metrics.AcksHeard = (9, omega arith, refl)
told metrics.LateAcks = (10, omega arith, refl)
told metrics.AsksSent = (11, omega arith, refl)
told metrics.RequestsServed = (12, omega arith, refl)
told metrics.Dropped = (13, omega arith, refl)
told metrics.OddSenders = (14, omega arith, refl)
told metrics.AckWait = (15, omega arith, refl)
told metrics.Verdicts = (16, omega arith, refl)
told metrics.Joins = (17, omega arith, refl)
told metrics.OwnJoins = (18, omega arith, refl)
told metrics.Removals = (19, omega arith, refl)
told metrics.Knocks = (20, omega arith, refl)
told metrics.Lives = (21, omega arith, refl)
told metrics.Entries = (22, omega arith, refl)
told metrics.EntriesLimit = (23, omega arith, refl)
told metrics.EntriesBehind = (24, omega arith, refl)
told metrics.Unsent = (25, omega arith, refl)
told metrics.Wire = (26, omega arith, refl)
told metrics.Refused = (27, omega arith, refl)
told metrics.Forged = (28, omega arith, refl)
told metrics.Fenced = (29, omega arith, refl)
told metrics.Key = (30, omega arith, refl)
told metrics.Watchers = (31, omega arith, refl)
told metrics.LostWatchers = (32, omega arith, refl)
told metrics.Unwritten = (33, omega arith, refl)
told metrics.MemberUp = (34, omega arith, refl)
told metrics.MemberHeard = (35, omega arith, refl)
told metrics.MemberAcks = (36, omega arith, refl)
told metrics.MemberVerdicts = (37, omega arith, refl)
told metrics.MemberAsked = (38, omega arith, refl)
told metrics.JournalFileOk = (39, omega arith, refl)
told metrics.JournalFilesCut = (40, omega arith, refl)

pub returns : goal.returns
returns c = told
