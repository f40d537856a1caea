-- What is known of journal files, and of which of them people are told.
use Rattle.std.specs.Prelude.{Bool, true, false, not, ◌&&◌, ◌||◌, ◌==◌, if◌then◌else◌, ℕ, ◌+◌, ◌-◌, ◌^◌, min, ◌≡◌}
use Rattle.std.specs.Prelude.{List, [], ◌∷◌, ◌++◌, length, nat_lt, Option, Some, None, is_some}
use Rattle.arrayvec.specs.ArrayString.{ArrayString}
use Rattle.swim_disk.specs.declared.backlogs.Backlog.{Backlog}
use Rattle.swim_disk.specs.declared.backlogs.Draft.{Draft}
use Rattle.swim_disk.specs.declared.backlogs.FileTask.{FileTask}
use Rattle.swim_disk.specs.declared.backlogs.FileTask.TheVariants.{Finish}
use Rattle.swim_disk.specs.declared.file_faults.FileFault.{FileFault}
use Rattle.swim_disk.specs.declared.file_sheets.FileEnd.{FileEnd}
use Rattle.swim_disk.specs.declared.file_sheets.FileEnd.TheVariants.{Whole, Lost, Told}
use Rattle.swim_disk.specs.declared.file_sheets.FileState.{FileState}
use Rattle.swim_disk.specs.declared.lost_files.LostFile.{LostFile}
use Rattle.swim_disk.specs.declared.new_files.NewFile.{NewFile}

-- ---- the newest file

-- why it isn't whole, if that is known
abbrev pub fault_of : Option FileState → Option FileFault
fault_of None = None
fault_of (Some state) = state.fault

-- whether nothing is missing of it, as far as is known; not where there is none
abbrev pub is_ok : Option FileState → Bool
is_ok None = false
is_ok (Some state) = not (is_some state.fault)

-- whether the disk has yet to make it
abbrev pub is_unmade : Option FileState → Bool
is_unmade None = false
is_unmade (Some state) = not state.is_made

-- whether the disk may yet write all that is left of it
abbrev pub is_unfinished : Option FileState → Bool
is_unfinished None = false
is_unfinished (Some state) = not (state.is_finished || is_some state.fault)

-- whether it is that of this number
abbrev pub is_of : ℕ → Option FileState → Bool
is_of number None = false
is_of number (Some state) = state.number == number

-- it was just begun
abbrev pub IsBegun : NewFile → Option FileState → Type 0
IsBegun new None = ⊥
IsBegun new (Some state) = state ≡ record {
  number = new.stamp.life;
  path = state.path;
  is_made = false;
  is_finished = false;
  is_told = false;
  fault = None;
}

-- ---- faults

-- of two faults of a file the one that was known first
abbrev pub first_of : Option FileFault → Option FileFault → Option FileFault
first_of None later = later
first_of (Some fault) later = Some fault

-- a file of which this fault became known, if one did
abbrev pub known : Option FileFault → Option FileState → Option FileState
known fault None = None
known fault (Some state) = Some (record state { fault = first_of state.fault fault })

-- one that was made, at this path, or couldn't be, or of which not all was written
abbrev pub noted : ArrayString → Option FileFault → Option FileState → Option FileState
noted path fault None = None
noted path fault (Some state) =
    Some (record state { path = path; is_made = true; fault = first_of state.fault fault })

-- one with which the disk is done
abbrev pub finished : ArrayString → Option FileFault → Option FileState → Option FileState
finished path fault None = None
finished path fault (Some state) =
    Some (record state { path = path; is_finished = true; fault = first_of state.fault fault })

-- ---- what people are told

-- one of whose fault people know, if it has one
abbrev pub told : Option FileState → Option FileState
told None = None
told (Some state) = Some (record state { is_told = is_some state.fault })

abbrev pub end_in : Option FileFault → Bool → ArrayString → FileEnd
end_in None is_told path = Whole
end_in (Some fault) true path = Told
end_in (Some fault) false path = Lost (record { path = path; fault = fault })

-- how it ended, as far as is known
abbrev pub end_of : Option FileState → FileEnd
end_of None = Whole
end_of (Some state) = end_in state.fault state.is_told state.path

abbrev pub lost_in : FileEnd → Option LostFile
lost_in Whole = None
lost_in Told = None
lost_in (Lost lost) = Some lost

-- what people are yet to be told of it
abbrev pub untold_of : Option FileState → Option LostFile
untold_of newest = lost_in (end_of newest)

-- files that people are to be told of, and one more, if there is one; of more than four nothing is told
abbrev pub with_lost : Option LostFile → List LostFile → List LostFile
with_lost None lost = lost
with_lost (Some file) lost = if nat_lt (length lost) 4 then lost ++ file ∷ [] else lost

-- they are told of the oldest of those, and then of the newest file
abbrev pub TakesLost : List LostFile → Option FileState → Option LostFile → List LostFile → Option FileState → Type 0
TakesLost [] newest result left now = (result ≡ untold_of newest) × (left ≡ []) × (now ≡ told newest)
TakesLost (file ∷ lost) newest result left now = (result ≡ Some file) × (left ≡ lost) × (now ≡ newest)

-- ---- counts

-- a count of lives without a whole file, and one more, where this is one; it stops at 2^64-1
abbrev pub counted : Bool → ℕ → ℕ
counted false n = n
counted true n = min (n + 1) (2 ^ 64 - 1)

-- ---- files that are over

-- whether that of this number is written on
abbrev pub is_current : ℕ → Option Draft → Bool
is_current number None = false
is_current number (Some draft) = draft.number == number

-- whether there is room for the one that is written on among those that are over
abbrev pub is_kept : Backlog → Bool
is_kept backlog = is_some backlog.current && nat_lt (length backlog.over.items) backlog.over.capacity

-- whether a file that is over is to be finished
abbrev pub is_finish : Option FileTask → Bool
is_finish (Some (Finish draft)) = true
is_finish task = false

-- a fault of a file that is over, if nobody knew yet that it isn't whole
abbrev pub news_of : Draft → Option FileFault → Option FileFault
news_of draft fault = if draft.is_told then None else fault

abbrev pub lost_of : ArrayString → Option FileFault → Option LostFile
lost_of path None = None
lost_of path (Some fault) = Some (record { path = path; fault = fault })

-- whether a fault of a file that is over is one more
abbrev pub is_news : Bool → Option FileState → Option FileFault → Bool
is_news true newest news = is_ok newest && is_some news
is_news false newest news = is_some news
