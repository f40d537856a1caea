-- What a watcher was told, and what it can make of it.
use Rattle.std.specs.Prelude.{◌≡◌, ℕ, not, ◌==◌, nat_lt, List, [], ◌∷◌, ◌++◌, map, filter, if◌then◌else◌}
use Rattle.swim_history.specs.declared.rows.Row.{Row}
use Rattle.swim_history.specs.declared.rows.Change.{Change}
use Rattle.swim_history.specs.declared.rows.Change.TheVariants.{Up, Failed, Gone}
use Rattle.swim_history.specs.declared.entries.Entry.{Entry}
use Rattle.swim_history.specs.Setting.{Setting}
use Rattle.swim_history.specs.Changes.{changes, table}
use Rattle.swim_events.specs.declared.watchers.WatcherStanding.{WatcherStanding}
use Rattle.swim_events.specs.declared.watchers.WatcherStanding.TheVariants.{Following, Losing, Lost}
use Rattle.swim_events.specs.Texts.{changes_text, life_text, lost_text, table_text}

-- a table, and then changes
abbrev pub watched_text : List Row → List Change → List ℕ
watched_text rows later = table_text rows ++ changes_text later

-- the table of a beginning of the history, and then exactly the changes of the entries after it, in order
pub record IsWatched (o : Setting) (h : List Entry) (text : List ℕ) : Type 0 where
  pub newer : List Entry
  pub before : List Entry
  pub cut : h ≡ newer ++ before
  pub later : List Change
  pub goes_on : changes o h ≡ changes o before ++ later
  pub text_is : text ≡ watched_text (table o before) later

-- the same of a beginning of the history: what came after it isn't told
pub record IsCutShort (o : Setting) (h : List Entry) (text : List ℕ) : Type 0 where
  pub newer : List Entry
  pub older : List Entry
  pub cut : h ≡ newer ++ older
  pub watched : IsWatched o older text

-- what a watcher was told of a history, and is to be told yet
abbrev pub IsTold : WatcherStanding → Setting → List Entry → List ℕ → Type 0
IsTold Following o h stream = IsWatched o h stream
IsTold Losing o h stream = IsCutShort o h stream
IsTold Lost o h stream = (text : List ℕ) × IsCutShort o h text × (stream ≡ text ++ lost_text)

-- a life: its number, what it started from, and its entries
pub record Lived : Type 0 where
  pub number : ℕ
  pub opening : Setting
  pub past : List Entry

-- what a watcher was told over lives, the newest first, who came in the oldest of them: there as above, and of each
-- later one
-- its line and the changes of all its entries
abbrev pub IsWatchedOver : List Lived → List ℕ → Type 0
IsWatchedOver [] text = ⊥
IsWatchedOver (life ∷ []) text = IsWatched life.opening life.past text
IsWatchedOver (life ∷ before ∷ older) text =
    (earlier : List ℕ) × IsWatchedOver (before ∷ older) earlier
    × (text ≡ earlier ++ (life_text life.number ++ changes_text (changes life.opening life.past)))

-- the life, one entry on
abbrev pub lived_on : Lived → Entry → Lived
lived_on life e = record { number = life.number; opening = life.opening; past = e ∷ life.past }

-- ---- the table that a watcher makes of its lines: of each member the last line that names it, ascending by id

abbrev pub member_of : Change → ℕ
member_of (Up id peer) = id
member_of (Failed id number) = id
member_of (Gone id) = id

-- a line among the others, or in the place of the one with its id
abbrev pub put_line : Change → List Change → List Change
put_line new [] = new ∷ []
put_line new (line ∷ lines) =
    if nat_lt (member_of new) (member_of line) then new ∷ line ∷ lines
    else (if member_of new == member_of line then new ∷ lines else line ∷ put_line new lines)

abbrev pub lines_then : Change → List Change → List Change
lines_then (Up id peer) lines = put_line (Up id peer) lines
lines_then (Failed id number) lines =
    map (λ line. if member_of line == id then Failed (member_of line) number else line) lines
lines_then (Gone id) lines = filter (λ line. not (member_of line == id)) lines

-- after changes, the first of them first
abbrev pub lines_after : List Change → List Change → List Change
lines_after lines [] = lines
lines_after lines (change ∷ changes) = lines_after (lines_then change lines) changes
