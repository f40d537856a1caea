-- What is reported of what a daemon counted at a moment.
use Rattle.std.specs.Prelude.{◌≡◌, ◌⊎◌, ℕ, List, codes, map, Option}
use Rattle.swim_config.specs.Fingerprints.{fingerprint_of}
use Rattle.swim_metrics.specs.declared.outside.FileFigures.{FileFigures}
use Rattle.swim_metrics.specs.declared.outside.Outside.{Outside}
use Rattle.swim_metrics.specs.Texts.{stats_text}
use Rattle.swim_reports.specs.declared.counters.Facts.{Facts}
use Rattle.swim_reports.specs.declared.counters.Figures.{Figures}

-- beside the entries each count is reported as itself: those of the configuration, of the lives, of the datagrams that
-- were thrown away, of the keys, of the metrics' file and of the journal files
pub record IsOutside (f : Figures) (out : Outside) : Type 0 where
  pub version : out.version.now ≡ codes "1.0"
  pub me : out.me ≡ f.facts.me
  pub tick_ms : out.tick_ms ≡ f.facts.tick_ms
  pub period : out.period ≡ f.facts.period
  pub journal_limit : out.journal_limit ≡ f.facts.journal
  pub behind : out.behind ≡ f.counted.behind
  pub unsent : out.unsent ≡ f.counted.totals.unsent
  pub wire : out.wire ≡ f.counted.totals.wire
  pub refused : out.refused ≡ f.counted.totals.refused
  pub forged : out.forged ≡ f.strangers.forged
  pub fenced : out.fenced ≡ f.strangers.fenced
  pub fingerprints : out.fingerprints.now ≡ f.fingerprints
  pub watchers : out.watchers ≡ f.counted.watchers
  pub lost_watchers : out.lost_watchers ≡ f.counted.totals.lost
  pub knocks : out.knocks ≡ f.counted.totals.knocks
  pub own_joins : out.own_joins ≡ f.counted.own_joins
  pub unwritten : out.unwritten ≡ f.unwritten
  pub files : out.files ≡ f.files

-- the values of all metrics and a dot, by some counts under this configuration, while journal files stand so and these
-- keys are in force; or the dot alone
abbrev pub IsStats : Facts → Option FileFigures → List (List ℕ) → List ℕ → Type 0
IsStats facts files keys text =
    (text ≡ codes ".\n")
    ⊎ ((f : Figures) × (out : Outside) × (f.facts ≡ facts) × (f.files ≡ files)
    × (f.fingerprints.items ≡ map fingerprint_of keys) × IsOutside f out
    × (text ≡ stats_text f.counted.measures out))
