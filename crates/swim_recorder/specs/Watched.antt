-- What becomes of those who watch a life.
use Rattle.std.specs.Prelude.{◌≡◌, ℕ, List, [], ◌∷◌, ◌++◌, map, Option}
use Rattle.swim_history.specs.declared.entries.Entry.{Entry}
use Rattle.swim_history.specs.declared.rows.Row.{Row}
use Rattle.swim_history.specs.Setting.{Setting}
use Rattle.swim_events.specs.Guests.{AreSent, AtGuest, Offering, newcomer, put_text}
use Rattle.swim_events.specs.Telling.{AreTold, life_texts}
use Rattle.swim_events.specs.Watched.{Lived}

-- a life of this number, with this history
abbrev pub lived : ℕ → Setting → List Entry → Lived
lived number o h = record { number = number; opening = o; past = h }

-- whoever had been told all until the life of this number is told that it begins, and its history; and who has come
-- since is told a beginning of it, and what followed
abbrev pub AreToldLife : ℕ → Setting → List AtGuest → List Entry → List AtGuest → Type 0
AreToldLife number o before h after =
    (older : List Lived) → AreTold older before → AreTold (lived number o h ∷ older) after

-- what happens to those who watch: a text is put for each of them; one comes, who is put these rows first; or each has
-- a turn at this time
pub data Happening : Type 0 where
  Put : List ℕ → Happening
  Comes : List Row → Option (List ℕ) → Option (List Offering) → Happening
  Turn : ℕ → Happening

abbrev pub Happens : Happening → List AtGuest → List AtGuest → Type 0
Happens (Put text) before after = after ≡ map (put_text text) before
Happens (Comes rows taken offers) before after = after ≡ before ++ newcomer rows taken offers ∷ []
Happens (Turn time) before after = AreSent time before after

-- all of this, the last of it first
abbrev pub Happened : List Happening → List AtGuest → List AtGuest → Type 0
Happened [] before after = after ≡ before
Happened (last ∷ earlier) before after =
    (mid : List AtGuest) × Happened earlier before mid × Happens last mid after

-- the texts that were put for all of them, oldest first
abbrev pub texts_put : List Happening → List (List ℕ)
texts_put [] = []
texts_put (Put text ∷ earlier) = texts_put earlier ++ text ∷ []
texts_put (Comes rows taken offers ∷ earlier) = texts_put earlier
texts_put (Turn time ∷ earlier) = texts_put earlier

-- they were put the texts of the life, each once, in order, and nothing else; and nobody left but in a turn
pub record IsCourse (life : Lived) (before after : List AtGuest) : Type 0 where
  pub all : List Happening
  pub happened : Happened all before after
  pub texts : texts_put all ≡ life_texts life
