-- The files that a folder took back.
use Rattle.std.specs.Prelude.{◌≡◌, ℕ, Bool, true, List, [], ◌∷◌, ◌++◌, map, Some}
use Rattle.swim_journal.specs.Comments.{without_comments}
use Rattle.swim_recorder.specs.Filed.{Filed, IsTakenBack}
use Rattle.swim_trail.specs.Noted.{map_more}
use Rattle.swim_writer.specs.HeldTexts.{AtText}

-- what was noted of a file: the number of its life, whether it is kept, what it took, and what its desk took of that
abbrev pub Note : Type 0
Note = (ℕ × Bool × AtText) × List ℕ

abbrev pub filed_in : Note → Filed
filed_in i = record { number = i.0.0; text = Some i.0.2.taken; bytes = Some i.0.2.handed; is_kept = i.0.1 }

-- once one more was noted, it was taken back
pub back_more : (old new : List Note) (number : ℕ) (is_kept : Bool) (file : AtText) (taken bytes : List ℕ) →
    new ≡ old ++ ((number, is_kept, file), bytes) ∷ [] → file.taken ≡ taken →
    (is_kept ≡ true → without_comments file.handed ≡ without_comments file.taken) →
    IsTakenBack number (Some taken) is_kept (Some (map filed_in old)) (Some (map filed_in new))
back_more old new number is_kept file taken bytes is same holds = record {
  bytes = Some file.handed;
  grows = rw (← same) (map_more filed_in old new ((number, is_kept, file), bytes) is);
  holds = rw (← same) holds;
}
