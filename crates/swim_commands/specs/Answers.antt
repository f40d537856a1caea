-- What a daemon answers to a control line, as far as whoever asks has to know.
use Rattle.std.specs.Prelude.{◌==◌, ◌&&◌, ◌||◌, not, ℕ, Bool, true, false, List, [], ◌∷◌, codes, if◌then◌else◌, nat_le}
use Rattle.std.specs.List.{starts_with}
use Rattle.std.specs.Str.{bytes_eq}
use Rattle.swim_text.specs.Words.{words_by}

-- a row of a table begins with a digit, and one of counts with the program's name
abbrev pub begins_with_digit : List ℕ → Bool
begins_with_digit [] = false
begins_with_digit (first ∷ rest) = nat_le 48 first && nat_le first 57

abbrev pub is_row : List ℕ → Bool
is_row line = begins_with_digit line || starts_with (λ a b. a == b) line (codes "swimd_")

-- nothing follows the line feed
abbrev pub is_over : List (List ℕ) → Bool
is_over ([] ∷ []) = true
is_over lines = false

-- rows, and then one other line, the last
abbrev pub is_rows_and_line : List (List ℕ) → Bool
is_rows_and_line [] = false
is_rows_and_line (line ∷ rest) = if is_row line then is_rows_and_line rest else is_over rest

-- the text is a whole answer
abbrev pub is_answer : List ℕ → Bool
is_answer text = is_rows_and_line (words_by 10 text)

-- the answer says that what was asked was not done
abbrev pub is_refusal : List ℕ → Bool
is_refusal answer =
    starts_with (λ a b. a == b) answer (codes "refused ")
    || starts_with (λ a b. a == b) answer (codes "fault ")
    || starts_with (λ a b. a == b) answer (codes "configuration ")
    || bytes_eq answer (codes "journal full\n")
    || bytes_eq answer (codes "no memory\n")

-- the answer says that the daemon stops
abbrev pub is_stopping : List ℕ → Bool
is_stopping answer = bytes_eq answer (codes "stopping\n")

-- the line asks a daemon to stop
abbrev pub is_stop : List ℕ → Bool
is_stop line = bytes_eq line (codes "stop\n")

-- the text is a whole answer to this line: to `stop` a daemon says that it stops, or that it doesn't
abbrev pub is_answer_to : List ℕ → List ℕ → Bool
is_answer_to line answer = is_answer answer && (not (is_stop line) || is_stopping answer || is_refusal answer)
