-- What watchers are told: of one history, and over lives.
use Rattle.std.specs.Prelude.{◌≡◌, ℕ, List, [], ◌∷◌, ◌++◌, map, Option, Some, None}
use Rattle.swim_history.specs.declared.rows.Change.{Change}
use Rattle.swim_history.specs.declared.entries.Entry.{Entry}
use Rattle.swim_history.specs.Setting.{Setting}
use Rattle.swim_history.specs.Changes.{changes, table}
use Rattle.swim_events.specs.Guests.{AtGuest}
use Rattle.swim_events.specs.Texts.{change_text, life_text, table_text}
use Rattle.swim_events.specs.Watched.{Lived}
use Rattle.swim_events.specs.Watchers.{AtWatcher, IsStream}

-- a watcher who was put the table of a beginning of the history, and then the change of each entry after it, and to
-- whom
-- these bytes were sent
pub record IsTelling (o : Setting) (h : List Entry) (sent : List ℕ) (w : AtWatcher) : Type 0 where
  pub newer : List Entry
  pub before : List Entry
  pub cut : h ≡ newer ++ before
  pub later : List Change
  pub goes_on : changes o h ≡ changes o before ++ later
  pub stream : IsStream (table_text (table o before)) (map change_text later) sent w

-- the text that is told first, and those that follow, to who came in this life: the table of a beginning, and the
-- changes after
-- it
pub record AreTexts (life : Lived) (first : List ℕ) (texts : List (List ℕ)) : Type 0 where
  pub newer : List Entry
  pub before : List Entry
  pub cut : life.past ≡ newer ++ before
  pub later : List Change
  pub goes_on : changes life.opening life.past ≡ changes life.opening before ++ later
  pub first_is : first ≡ table_text (table life.opening before)
  pub texts_are : texts ≡ map change_text later

-- the texts of a whole life
abbrev pub life_texts : Lived → List (List ℕ)
life_texts life = life_text life.number ∷ map change_text (changes life.opening life.past)

-- the same over lives, the newest first, to who came in the oldest of them: of each later one its line and all its
-- changes
abbrev pub AreTextsOver : List Lived → List ℕ → List (List ℕ) → Type 0
AreTextsOver [] first texts = ⊥
AreTextsOver (life ∷ []) first texts = AreTexts life first texts
AreTextsOver (life ∷ before ∷ older) first texts =
    (earlier : List (List ℕ)) × AreTextsOver (before ∷ older) first earlier × (texts ≡ earlier ++ life_texts life)

-- a watcher who came in one of these lives, the newest first, and was put the texts from there on, and to whom these
-- bytes were
-- sent
pub record IsTellingOver (lives : List Lived) (sent : List ℕ) (w : AtWatcher) : Type 0 where
  pub since : List Lived
  pub older : List Lived
  pub cut : lives ≡ since ++ older
  pub first : List ℕ
  pub texts : List (List ℕ)
  pub are : AreTextsOver since first texts
  pub stream : IsStream first texts sent w

-- these are the bytes that an outlet took, as far as they are known
abbrev pub IsTaken : Option (List ℕ) → List ℕ → Type 0
IsTaken None sent = Unit {0}
IsTaken (Some taken) sent = sent ≡ taken

-- the same of one who watches by an outlet
abbrev pub IsGuestTold : List Lived → AtGuest → Type 0
IsGuestTold lives g = (sent : List ℕ) × IsTaken g.taken sent × IsTellingOver lives sent g.watcher

-- and of all who watch
abbrev pub AreTold : List Lived → List AtGuest → Type 0
AreTold lives [] = Unit {0}
AreTold lives (g ∷ guests) = IsGuestTold lives g × AreTold lives guests
