-- The texts that tell the metrics: Prometheus's exposition format, and the lines of `stats`.
use Rattle.std.specs.Prelude.{ℕ, List, [], ◌∷◌, ◌++◌, codes, decimal, if◌then◌else◌}
use Rattle.swim_history.specs.Texts.{feed}
use Rattle.swim_metrics.specs.declared.heads.MetricKind.{MetricKind}
use Rattle.swim_metrics.specs.declared.heads.MetricKind.TheVariants.{Counter, Gauge, Histogram}
use Rattle.swim_metrics.specs.declared.heads.Metric.{Metric}
use Rattle.swim_metrics.specs.declared.metric_texts.TextForm.{TextForm}
use Rattle.swim_metrics.specs.declared.metric_texts.TextForm.TheVariants.{Exposition, Stats}
use Rattle.swim_metrics.specs.declared.outside.Outside.{Outside}
use Rattle.swim_metrics.specs.Families.{Family, Sample, family_of, is_told, told}
use Rattle.swim_metrics.specs.declared.measures.Measures.{Measures}

abbrev pub kind_text : MetricKind → List ℕ
kind_text Counter = codes "counter"
kind_text Gauge = codes "gauge"
kind_text Histogram = codes "histogram"

-- what a metric tells, and its type
abbrev pub head_text : List ℕ → List ℕ → MetricKind → List ℕ
head_text name help kind =
    codes "# HELP " ++ (name ++ (codes " " ++ (help ++
    (codes "\n# TYPE " ++ (name ++ (codes " " ++ (kind_text kind ++ feed)))))))

-- a line for each sample of this member's; its first label is the member
abbrev pub sample_text : ℕ → List ℕ → Sample → List ℕ
sample_text me name sample =
    name ++ (sample.suffix ++ (codes "{member=\"" ++ (decimal me ++ (codes "\"" ++ (sample.labels ++ (codes "} " ++
    (sample.value ++ feed)))))))

abbrev pub samples_text : ℕ → List ℕ → List Sample → List ℕ
samples_text me name [] = []
samples_text me name (sample ∷ samples) = sample_text me name sample ++ samples_text me name samples

-- a metric in the exposition format, and in `stats`
abbrev pub family_text : ℕ → Family → List ℕ
family_text me f = head_text f.name f.help f.kind ++ samples_text me f.name f.samples

abbrev pub family_lines : ℕ → Family → List ℕ
family_lines me f = samples_text me f.name f.samples

-- the same of metrics
abbrev pub families_text : Measures → Outside → List Metric → List ℕ
families_text m out [] = []
families_text m out (metric ∷ others) = family_text out.me (family_of m out metric) ++ families_text m out others

abbrev pub families_lines : Measures → Outside → List Metric → List ℕ
families_lines m out [] = []
families_lines m out (metric ∷ others) = family_lines out.me (family_of m out metric) ++ families_lines m out others

-- the same in either form
abbrev pub form_text : TextForm → ℕ → Family → List ℕ
form_text Exposition me f = family_text me f
form_text Stats me f = family_lines me f

abbrev pub form_texts : TextForm → Measures → Outside → List Metric → List ℕ
form_texts Exposition m out metrics = families_text m out metrics
form_texts Stats m out metrics = families_lines m out metrics

-- that of a metric, if it is told
abbrev pub text_if_told : TextForm → Measures → Outside → Metric → List ℕ
text_if_told form m out metric = if is_told out metric then form_text form out.me (family_of m out metric) else []

-- the whole texts
abbrev pub exposition_text : Measures → Outside → List ℕ
exposition_text m out = families_text m out (told out)

abbrev pub stats_text : Measures → Outside → List ℕ
stats_text m out = families_lines m out (told out) ++ codes ".\n"
