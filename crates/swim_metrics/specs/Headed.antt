-- The exposition format of Prometheus, made of the values alone.
use Rattle.std.specs.Prelude.{ℕ, zero, suc, ◌==◌, Bool, false, ◌&&◌, ◌||◌, List, [], ◌∷◌, ◌++◌, drop, length, codes}
use Rattle.std.specs.Prelude.{Option, Some, None, if◌then◌else◌}
use Rattle.std.specs.List.{starts_with}
use Rattle.std.specs.Option.{option_map, unwrap_or}
use Rattle.std.specs.Str.{bytes_eq}
use Rattle.swim_text.specs.Parts.{cut}
use Rattle.swim_history.specs.Texts.{feed}
use Rattle.swim_metrics.specs.declared.heads.MetricKind.{MetricKind}
use Rattle.swim_metrics.specs.declared.heads.MetricKind.TheVariants.{Counter, Gauge, Histogram}
use Rattle.swim_metrics.specs.declared.heads.Metric.{Metric}
use Rattle.swim_metrics.specs.Families.{all}
use Rattle.swim_metrics.specs.Heads.{head_of}
use Rattle.swim_metrics.specs.Texts.{head_text}

abbrev pub begins : List ℕ → List ℕ → Bool
begins text front = starts_with (λ a b. a == b) text front

-- labels follow on the name, or what a histogram has in front of them
abbrev pub follows : MetricKind → List ℕ → Bool
follows Counter rest = begins rest (codes "{")
follows Gauge rest = begins rest (codes "{")
follows Histogram rest =
    (begins rest (codes "_bucket{") || begins rest (codes "_sum{")) || begins rest (codes "_count{")

-- a line is a value of a metric
abbrev pub is_of : Metric → List ℕ → Bool
is_of metric line =
    begins line (head_of metric).name && follows (head_of metric).kind (drop (length (head_of metric).name) line)

abbrev pub first_of : List Metric → List ℕ → Option Metric
first_of [] line = None
first_of (metric ∷ metrics) line = if is_of metric line then Some metric else first_of metrics line

-- the line before is of the same metric
abbrev pub is_named : Option Metric → Metric → Bool
is_named None metric = false
is_named (Some before) metric = bytes_eq (head_of before).name (head_of metric).name

-- in front of a line of a metric, behind one of another, stand what it tells and its type
abbrev pub head_if : Option Metric → Option Metric → List ℕ
head_if before None = []
head_if before (Some metric) =
    if is_named before metric
    then []
    else head_text (head_of metric).name (head_of metric).help (head_of metric).kind

-- of so many lines, behind one of some metric
abbrev pub headed_in : ℕ → Option Metric → List ℕ → List ℕ
headed_in zero before text = text
headed_in (suc most) before text =
    unwrap_or (option_map (λ (parts : List ℕ × List ℕ). (head_if before (first_of all parts.0) ++ (parts.0 ++ feed))
    ++ headed_in most (first_of all parts.0) parts.1) (cut 10 text)) text

abbrev pub headed : List ℕ → List ℕ
headed text = headed_in 1024 None text
