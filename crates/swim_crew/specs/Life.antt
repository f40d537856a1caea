-- A life: its journal, and what each of its crew did.
use Rattle.std.specs.Prelude.{◌≡◌, ℕ, ◌≤◌, List, [], ◌∷◌, length}
use mathlib.Core.List.{IsPrefix}
use Rattle.swim_history.specs.declared.entries.Entry.{Entry}
use Rattle.swim_history.specs.declared.rows.Change.{Change}
use Rattle.swim_history.specs.Changes.{changes}
use Rattle.swim_history.specs.Setting.{Setting}
use Rattle.swim_node.specs.Following.{filings_of}
use Rattle.swim_node.specs.OneHistory.{AreFullWhereMet, IsOneHistory}
use Rattle.swim_node.specs.Seats.{Seated, AreTheSeats}
use Rattle.swim_work.specs.declared.counts.Why.TheVariants.{JournalFull}
use Rattle.swim_work.specs.declared.workers.End.{End}
use Rattle.swim_work.specs.Callers.{fresh_seat}
use Rattle.swim_crew.specs.declared.pasts.Past.{Past}
use Rattle.swim_crew.specs.Crews.{CrewAt, Records, Works}
use Rattle.swim_crew.specs.Ends.{why_ended}

-- what a worker does it did with the calls of this seat, and by a viewer that saw a beginning of the changes of this
-- history
pub record WorkedIn {A : Type 0} (works : Works A) (o : Setting) (limit : ℕ) (h : List Entry) (old : A) (seat : Seated)
    (end : End) (new : A) : Type 0 where
  pub seen : List Change
  pub begins : IsPrefix seen (changes o h)
  pub has_worked : works old o limit seat seen end new

-- a life from this opening: its journal is one history, has at most so many entries, and no fewer if it is what ended
-- the life. Its calls are those of three seats; each worker did what it does with the calls of its own seat, and by the
-- journal's changes; and the recorder has recorded all calls
pub record IsLife {A B C D : Type 0} (a : Works A) (b : Works B) (c : Works C) (d : Records D) (from : Setting)
    (limit : ℕ) (old : CrewAt A B C D) (past : Past) (new : CrewAt A B C D) : Type 0 where
  pub opening : past.journal.opening ≡ from
  pub within : length past.journal.past ≤ limit
  pub one : Seated
  pub two : Seated
  pub three : Seated
  pub the_seats : AreTheSeats (one ∷ two ∷ three ∷ fresh_seat 3 ∷ [])
  pub history : IsOneHistory from past.journal.past (one ∷ two ∷ three ∷ fresh_seat 3 ∷ [])
      (changes from past.journal.past)
  pub met : AreFullWhereMet limit past.journal.past (one ∷ two ∷ three ∷ fresh_seat 3 ∷ [])
  pub by_first : WorkedIn a from limit past.journal.past old.first one past.ends.first new.first
  pub by_second : WorkedIn b from limit past.journal.past old.second two past.ends.second new.second
  pub by_third : WorkedIn c from limit past.journal.past old.third three past.ends.third new.third
  pub by_recorder : d old.recorder from (filings_of past.journal.past) new.recorder
  pub why : past.why ≡ why_ended past.ends
  pub full : past.why ≡ JournalFull → length past.journal.past ≡ limit
