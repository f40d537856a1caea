-- What a daemon was asked.
use Rattle.std.specs.Prelude.{◌≡◌, ℕ, Bool, true, ◌||◌, List, ◌++◌, Option, Some, None, codes}
use Rattle.std.specs.List.{list_all}
use Rattle.std.specs.Str.{bytes_eq}
use Rattle.swim_web.specs.declared.questions.Question.{Question}
use Rattle.swim_web.specs.declared.questions.Question.TheVariants as questions
use Rattle.swim_trail.specs.Growing.{Grows}

-- a question that was asked, and what came of it
pub record Sent : Type 0 where
  pub question : Question
  pub is_answered : Bool
  pub answer : List ℕ

-- the control line that asks a question
abbrev pub line_of : Question → List ℕ
line_of questions.List = codes "list\n"
line_of questions.Stats = codes "stats\n"

-- a control line that only looks: no daemon changes or stops by it
abbrev pub is_look : List ℕ → Bool
is_look line = bytes_eq line (codes "list\n") || bytes_eq line (codes "stats\n")

-- each line that was sent in between only looks
pub record OnlyLooks (old new : Option (List Sent)) : Type 0 where
  pub sent : List Sent
  pub grows : Grows old new sent
  pub looks : list_all (λ (s : Sent). is_look (line_of s.question)) sent ≡ true
