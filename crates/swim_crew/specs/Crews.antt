-- What a crew and its keeper do, and what is compared of them.
use Rattle.std.specs.Prelude.{ℕ, List, box_value}
use Rattle.swim_history.specs.declared.rows.Change.{Change}
use Rattle.swim_history.specs.Setting.{Setting}
use Rattle.swim_node.specs.Cells.{Filing}
use Rattle.swim_node.specs.Seats.{Seated}
use Rattle.swim_work.specs.declared.workers.End.{End}
use Rattle.swim_crew.specs.declared.crews.Crew.{Crew}
use Rattle.swim_crew.specs.declared.pasts.Past.{Past}

-- what a worker does in a life, and what a recorder does
abbrev pub Works : Type 0 → Type 1
Works A = A → Setting → ℕ → Seated → List Change → End → A → Type 0

abbrev pub Records : Type 0 → Type 1
Records D = D → Setting → List Filing → D → Type 0

-- what a keeper does with a recorder before a life, and after it
abbrev pub Opens : Type 0 → Type 0 → Type 1
Opens K D = K → D → ℕ → Setting → K → D → Type 0

abbrev pub Closes : Type 0 → Type 0 → Type 1
Closes K D = K → D → ℕ → Past → K → D → Type 0

-- what each of them does
pub record Rules (A B C D K : Type 0) : Type 1 where
  pub first : Works A
  pub second : Works B
  pub third : Works C
  pub records : Records D
  pub opens : Opens K D
  pub closes : Closes K D

abbrev pub rules : {A B C D K : Type 0} → Works A → Works B → Works C → Records D → Opens K D → Closes K D →
    Rules A B C D K
rules first second third records opens closes = record {
  first = first;
  second = second;
  third = third;
  records = records;
  opens = opens;
  closes = closes;
}

-- a crew, without its boxes
pub record CrewAt (A B C D : Type 0) : Type 0 where
  pub first : A
  pub second : B
  pub third : C
  pub recorder : D

abbrev pub crew_at : {A B C D : Type 0} → Crew A B C D → CrewAt A B C D
crew_at crew = record {
  first = box_value crew.first;
  second = box_value crew.second;
  third = box_value crew.third;
  recorder = box_value crew.recorder;
}

-- a crew and its keeper, as they are between two lives
pub record Stand (A B C D K : Type 0) : Type 0 where
  pub crew : CrewAt A B C D
  pub keeper : K

abbrev pub stand_at : {A B C D K : Type 0} → Crew A B C D → K → Stand A B C D K
stand_at crew keeper = record { crew = crew_at crew; keeper = keeper }
