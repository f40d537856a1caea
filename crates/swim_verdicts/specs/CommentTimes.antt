-- The times that comments of journal files tell.
use Rattle.std.specs.Prelude.{◌≡◌, ℕ, ◌+◌, ◌/◌, ◌%◌, ◌≤◌, List, [], ◌∷◌, ◌++◌, Option, Some, None, codes, decimal}
use Rattle.swim_timeline.specs.declared.times.StartTime.{StartTime}

-- the number of three digits
pub record IsDigits (a b c number : ℕ) : Type 0 where
  pub most : number ≤ 999
  pub hundreds : a ≡ 48 + number / 100
  pub tens : b ≡ 48 + number / 10 % 10
  pub ones : c ≡ 48 + number % 10

abbrev pub digits_text : ℕ → List ℕ
digits_text number = (48 + number / 100) ∷ (48 + number / 10 % 10) ∷ (48 + number % 10) ∷ []

-- milliseconds behind a point, where there are some
abbrev pub behind_text : Option ℕ → List ℕ
behind_text None = []
behind_text (Some milliseconds) = codes "." ++ digits_text milliseconds

-- a time
abbrev pub time_text : StartTime → List ℕ
time_text time = decimal time.seconds ++ behind_text time.milliseconds
