-- Which lines of a journal file tell that a member was judged.
use Rattle.std.specs.Prelude.{ℕ, Bool, false, not, ◌&&◌, ◌==◌, if◌then◌else◌, List, Option, Some, None, codes}
use Rattle.std.specs.List.{starts_with}
use Rattle.std.specs.Str.{bytes_eq}
use Rattle.swim_text.specs.Parts.{cut}

-- it begins a period at whose start somebody was judged; nobody was where a `-` stands
abbrev pub judges : List ℕ → Bool
judges answer =
    starts_with (λ a b. a == b) answer (codes "started judged ")
    && not (starts_with (λ a b. a == b) answer (codes "started judged -"))

-- behind the number, which stands behind the sign
abbrev pub behind_sign : Bool → Option (List ℕ × List ℕ) → Option (List ℕ)
behind_sign is_answer None = None
behind_sign is_answer (Some parts) = if is_answer then Some parts.1 else None

abbrev pub behind : Option (List ℕ × List ℕ) → Option (List ℕ)
behind None = None
behind (Some parts) = behind_sign (bytes_eq parts.0 (codes "=")) (cut 32 parts.1)

-- the answer in a line `= N ANSWER`
abbrev pub answer_in : List ℕ → Option (List ℕ)
answer_in line = behind (cut 32 line)

abbrev pub judges_if : Option (List ℕ) → Bool
judges_if None = false
judges_if (Some answer) = judges answer

abbrev pub tells_verdict : List ℕ → Bool
tells_verdict line = judges_if (answer_in line)
