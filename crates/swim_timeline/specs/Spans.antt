-- Which ticks of a run a picture shows.
use Rattle.std.specs.Prelude.{ℕ, ◌+◌, ◌-◌, ◌*◌, ◌==◌, ◌&&◌, Bool, nat_le, nat_lt, min, List, [], ◌∷◌, Option, Some}
use Rattle.std.specs.Prelude.{None, if◌then◌else◌}
use Rattle.std.specs.List.{list_any}
use Rattle.swim_history.specs.declared.entries.Entry.{Entry}
use Rattle.swim_history.specs.declared.journals.Judged.{Judged}
use Rattle.swim_history.specs.Setting.{Setting}
use Rattle.swim_history.specs.Clock.{period_number}
use Rattle.swim_history.specs.Judgement.{judgements}
use Rattle.swim_timeline.specs.declared.spans.Span.{Span}
use Rattle.swim_timeline.specs.declared.spans.View.{View}
use Rattle.swim_timeline.specs.declared.spans.View.TheVariants.{Start, From, Around, At}

-- how many periods a picture shows at the most; how many of them before and behind the one at whose end a member was
-- judged
abbrev pub most_periods : ℕ
most_periods = 400

abbrev pub periods_aside : ℕ
periods_aside = 5

-- so many periods from the tick `first` on
abbrev pub span_of_periods : Setting → ℕ → ℕ → Span
span_of_periods o first count = record { first = first; until = first - 1 + count * o.period }

-- the tick with which a period starts
abbrev pub first_tick : Setting → ℕ → ℕ
first_tick o number = (number - (o.last + 1)) * o.period + 1

-- a period of the history: one that started
abbrev pub has_period : Setting → List Entry → ℕ → Bool
has_period o h number = nat_lt o.last number && nat_le number (period_number o h)

-- so many periods from that one on, if it started
abbrev pub span_from : Setting → List Entry → ℕ → ℕ → Option Span
span_from o h number count =
    if has_period o h number then Some (span_of_periods o (first_tick o number) count) else None

-- the period at whose end a member was judged last among these judgements, oldest first, or what was found before them
abbrev pub judged_last : ℕ → Option ℕ → List Judged → Option ℕ
judged_last member found [] = found
judged_last member found (judged ∷ later) =
    judged_last member (if judged.member == member then Some judged.number else found) later

-- these judgements have that of the member at the end of the period with this number
abbrev pub was_judged : ℕ → ℕ → List Judged → Bool
was_judged member number all = list_any (λ judged. judged.member == member && judged.number == number) all

-- that period, if they have it
abbrev pub judged_at : ℕ → ℕ → List Judged → Option ℕ
judged_at member number all = if was_judged member number all then Some number else None

-- how many periods are shown before that one
abbrev pub periods_before : Setting → ℕ → ℕ
periods_before o number = min periods_aside (number - (o.last + 1))

-- the periods round that one, if there is one
abbrev pub span_around : Setting → List Entry → Option ℕ → Option Span
span_around o h None = None
span_around o h (Some number) =
    span_from o h (number - periods_before o number) (periods_before o number + 1 + periods_aside)

abbrev pub span_of : Setting → List Entry → View → Option Span
span_of o h Start = Some (span_of_periods o 0 most_periods)
span_of o h (From number) = span_from o h number most_periods
span_of o h (Around member) = span_around o h (judged_last member None (judgements o h))
span_of o h (At member number) = span_around o h (judged_at member number (judgements o h))
