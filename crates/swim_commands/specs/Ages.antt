-- How long ago members were judged failed, by the counts of their daemon.
use Rattle.std.specs.Prelude.{ℕ, ◌+◌, ◌*◌, ◌-◌, ◌/◌, ◌^◌, min, Bool, ◌==◌, ◌&&◌, nat_lt, nat_le, List, [], ◌∷◌, ◌++◌}
use Rattle.std.specs.Prelude.{length, slice_index, Option, Some, None, is_some, codes, decimal, option_and_then}
use Rattle.std.specs.Prelude.{option_map, if◌then◌else◌}
use Rattle.std.specs.List.{flat_map, list_all, list_any, starts_with}
use Rattle.std.specs.Option.{option_or}
use Rattle.std.specs.Str.{bytes_eq}
use Rattle.swim_text.specs.Numbers.{number_of}
use Rattle.swim_text.specs.Parts.{cut}
use Rattle.swim_text.specs.Words.{words_by, words_of}
use Rattle.swim_commands.specs.declared.ages.Periods.{Periods}

-- ---- the periods of a daemon

-- the value of a line of counts whose sample begins so
abbrev pub value_in : List ℕ → List (List ℕ) → Option (List ℕ)
value_in front (sample ∷ value ∷ rest) = if starts_with (λ a b. a == b) sample front then Some value else None
value_in front words = None

-- the first such value
abbrev pub value_of : List ℕ → List (List ℕ) → Option (List ℕ)
value_of front [] = None
value_of front (line ∷ rest) = option_or (value_in front (words_of line)) (value_of front rest)

-- the thousandths that three digits are
abbrev pub are_digits : List ℕ → Bool
are_digits text = list_all (λ byte. nat_le 48 byte && nat_le byte 57) text

abbrev pub thousandths_of : List ℕ → Option ℕ
thousandths_of text =
    if length text == 3 && are_digits text
    then Some (100 * (slice_index text 0 - 48) + 10 * (slice_index text 1 - 48) + (slice_index text 2 - 48))
    else None

-- the milliseconds of a text of seconds with three places behind the point
abbrev pub milliseconds_in : Option (List ℕ × List ℕ) → Option ℕ
milliseconds_in None = None
milliseconds_in (Some parts) =
    option_and_then (λ whole. option_map (λ places. 1000 * whole + places) (thousandths_of parts.1))
    (number_of 4294967295 parts.0)

abbrev pub milliseconds_of : List ℕ → Option ℕ
milliseconds_of seconds = milliseconds_in (cut 46 seconds)

-- the number of the period that runs and how long one lasts, where counts tell both
abbrev pub running_in : List (List ℕ) → Option ℕ
running_in lines = option_and_then (number_of (2 ^ 64 - 1)) (value_of (codes "swimd_period_number{") lines)

abbrev pub length_in : List (List ℕ) → Option ℕ
length_in lines = option_and_then milliseconds_of (value_of (codes "swimd_period_seconds{") lines)

abbrev pub periods_in : List ℕ → Option Periods
periods_in counts =
    option_and_then
    (λ running. option_map (λ milliseconds. record { running = running; milliseconds = milliseconds })
    (length_in (words_by 10 counts)))
    (running_in (words_by 10 counts))

-- ---- ages

-- the number of the period in the row of a failed member, nothing of any other line
abbrev pub failed_in : List (List ℕ) → Option ℕ
failed_in (id ∷ peer ∷ state ∷ number ∷ rest) =
    if bytes_eq state (codes "failed") then number_of (2 ^ 64 - 1) number else None
failed_in words = None

abbrev pub failed_of : List ℕ → Option ℕ
failed_of line = failed_in (words_of line)

-- a row of these lines is that of a failed member
abbrev pub has_failed : List (List ℕ) → Bool
has_failed lines = list_any (λ line. is_some (failed_of line)) lines

-- the whole seconds from the end of a period to the period that runs, and that one
abbrev pub seconds_since : Periods → ℕ → ℕ
seconds_since periods number = min ((periods.running - number) * periods.milliseconds) (2 ^ 64 - 1) / 1000

-- a time in seconds below two minutes, in minutes below two hours, in hours below two days, and then in days
abbrev pub span_of : ℕ → ℕ × List ℕ
span_of seconds =
    if nat_lt seconds 120 then (seconds, codes "s")
    else if nat_lt seconds 7200 then (seconds / 60, codes "min")
    else if nat_lt seconds 172800 then (seconds / 3600, codes "h")
    else (seconds / 86400, codes "days")

-- a line with a time behind it
abbrev pub dated : List ℕ → ℕ × List ℕ → List ℕ
dated line span =
    line ++ (codes ", about " ++ (decimal span.0 ++ (codes " " ++ (span.1 ++ codes " ago\n"))))

abbrev pub aged_row : Periods → List ℕ → Option ℕ → List ℕ
aged_row periods line None = line ++ codes "\n"
aged_row periods line (Some number) = dated line (span_of (seconds_since periods number))

-- a line, with the age of its verdict where it is the row of a failed member; nothing of what follows the last line
-- feed
abbrev pub aged_line : Periods → List ℕ → List ℕ
aged_line periods line = if length line == 0 then [] else aged_row periods line (failed_of line)

-- the rows of a member table so; where no periods are known, as they are
abbrev pub aged : Option Periods → List ℕ → List ℕ
aged None answer = answer
aged (Some periods) answer = flat_map (aged_line periods) (words_by 10 answer)
