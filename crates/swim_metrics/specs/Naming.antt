-- How metrics are named and told: each name once, and as Prometheus wants it.
use Rattle.std.specs.Prelude.{ℕ, Bool, false, not, ◌&&◌, ◌||◌, ◌==◌, List, [], ◌∷◌, map, codes}
use Rattle.std.specs.List.{ends_with, list_all, list_any, starts_with}
use Rattle.std.specs.Str.{bytes_eq}
use Rattle.swim_metrics.specs.declared.heads.MetricKind.{MetricKind}
use Rattle.swim_metrics.specs.declared.heads.MetricKind.TheVariants.{Counter, Gauge, Histogram}
use Rattle.swim_metrics.specs.declared.outside.Outside.{Outside}
use Rattle.swim_metrics.specs.Families.{Family, all, family_of}
use Rattle.swim_metrics.specs.declared.measures.Measures.{Measures}

-- one of these texts stands among those behind it
abbrev pub has_twice : List (List ℕ) → Bool
has_twice [] = false
has_twice (text ∷ texts) = list_any (bytes_eq text) texts || has_twice texts

-- all metrics, and their names
abbrev pub families : Measures → Outside → List Family
families m out = map (family_of m out) all

abbrev pub names : Measures → Outside → List (List ℕ)
names m out = map (λ f. f.name) (families m out)

-- counters end in `_total`, and they alone
abbrev pub is_total : List ℕ → Bool
is_total name = ends_with (λ a b. a == b) name (codes "_total")

abbrev pub is_ended : MetricKind → List ℕ → Bool
is_ended Counter name = is_total name
is_ended Gauge name = not (is_total name)
is_ended Histogram name = not (is_total name)

-- the name begins with the program's
abbrev pub is_well_named : Family → Bool
is_well_named f = starts_with (λ a b. a == b) f.name (codes "swimd_") && is_ended f.kind f.name

-- a text in which neither a line feed nor a backslash has to be escaped
abbrev pub is_plain : List ℕ → Bool
is_plain text = list_all (λ c. not (c == 10 || c == 92)) text
