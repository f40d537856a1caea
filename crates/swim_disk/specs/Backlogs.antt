-- What waits for a disk.
use Rattle.std.specs.Prelude.{Bool, List, ℕ, [], ◌∷◌, ◌++◌, ◌≡◌, ◌<◌, length, take, Option, Some, None}
use Rattle.swim_disk.specs.declared.backlogs.Draft.{Draft}
use Rattle.swim_disk.specs.declared.backlogs.FileTask.{FileTask}
use Rattle.swim_disk.specs.declared.backlogs.FileTask.TheVariants.{Make, Write, Finish}
use Rattle.swim_disk.specs.declared.new_files.NewFile.{NewFile}

-- the bytes of a file that wait; none where there is no file
abbrev pub waiting : Option Draft → List ℕ
waiting None = []
waiting (Some draft) = draft.pending

-- what is to be made of a file; nothing where there is none
abbrev pub to_make : Option Draft → Option NewFile
to_make None = None
to_make (Some draft) = draft.unmade

-- a file, where there is one, of which a text more waits
abbrev pub written_on : List ℕ → Option Draft → Option Draft
written_on text None = None
written_on text (Some draft) = Some (record draft { pending = draft.pending ++ text })

-- a file, where there is one, of which a page less waits: this is what is left
abbrev pub with_left : List ℕ → Option Draft → Option Draft
with_left left None = None
with_left left (Some draft) = Some (record draft { pending = left })

-- a file, where there is one, which needn't be made any more
abbrev pub made : Option Draft → Option Draft
made None = None
made (Some draft) = Some (record draft { unmade = None })

-- a file, where there is one, that is over, and of which people were told, or weren't
abbrev pub ended : Bool → Option Draft → Option Draft
ended is_told None = None
ended is_told (Some draft) = Some (record draft { is_told = is_told })

-- what a disk does next of these files: it finishes the oldest of those that are over; where none is, it makes the one
-- that is written on, once, and then writes the first of its bytes, which lie on the page then
abbrev pub TakesNext : List Draft → Option Draft → List ℕ → Option FileTask → List Draft → Option Draft → Type 0
TakesNext over current page (Some (Finish draft)) left now = (over ≡ draft ∷ left) × (now ≡ current)
TakesNext over current page (Some (Make new)) left now =
    (over ≡ []) × (left ≡ []) × (to_make current ≡ Some new) × (now ≡ made current)
TakesNext over current page (Some (Write count)) left now =
    (over ≡ []) × (left ≡ []) × (to_make current ≡ None) × (now ≡ with_left (waiting now) current) ×
    (waiting current ≡ take count page ++ waiting now)
TakesNext over current page None left now =
    (over ≡ []) × (left ≡ []) × (to_make current ≡ None) × (0 < length page → waiting current ≡ [])
