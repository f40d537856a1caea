-- What watching writes.
use Rattle.std.specs.Prelude.{◌≡◌, ℕ, Bool, true, false, List, [], ◌∷◌, ◌++◌, Option, Some, None}
use Rattle.std.specs.Io.KnownBytes.{Appends, Keeps}
use Rattle.serde_json.specs.Written.{compact_text}
use Rattle.swim_text.specs.Streams.{PutsFront}
use Rattle.swim_trail.specs.Growing.{Grows}
use Rattle.swim_watch.specs.Hearings.{Hearing}
use Rattle.swim_watch.specs.Lines.{said_of}
use Rattle.swim_watch.specs.Objects.{shown_data}
use Rattle.swim_watch.specs.declared.watching.WatchEnd.{WatchEnd}
use Rattle.swim_watch.specs.declared.watching.WatchEnd.TheVariants as ends
use Rattle.swim_watch.specs.declared.watching.Passed.{Passed}
use Rattle.swim_watch.specs.declared.watching.Passed.TheVariants as passed

-- a line is shown so: as it came, or as an object with some time
abbrev pub IsShown : Bool → List ℕ → List ℕ → Type 0
IsShown false line text = text ≡ line
IsShown true line text = (time : List ℕ) × (text ≡ compact_text (shown_data (said_of line) time))

-- a line that was heard, and the text that shows it
pub record Shown (is_json : Bool) : Type 0 where
  pub line : List ℕ
  pub text : List ℕ
  pub is : IsShown is_json line text

-- what was heard so far, what was written, and how many bytes of that weren't handed on
pub record Watched : Type 0 where
  pub heard : Option (List Hearing)
  pub written : Option (List ℕ)
  pub held : ℕ

-- this was heard, and asked for when things stood so
abbrev pub heard_at : Watched → Option (List ℕ) → Hearing
heard_at at line = record { line = line; written = at.written; held = at.held }

-- a line was waited for and heard, and written then, with a line feed behind it, and handed on
pub record ShowsOne (is_json : Bool) (shown : Shown is_json) (old new : Watched) : Type 0 where
  pub heard : Grows old.heard new.heard (heard_at old (Some shown.line) ∷ [])
  pub wrote : Appends old.written new.written (shown.text ++ 10 ∷ [])
  pub sent : new.held ≡ 0

-- these lines were shown, the newest first: each was written and handed on before the next was waited for, and nothing
-- else was written
abbrev pub HaveShown : (is_json : Bool) → List (Shown is_json) → Watched → Watched → Type 0
HaveShown is_json [] old new = new ≡ old
HaveShown is_json (shown ∷ before) old new =
    (mid : Watched) × HaveShown is_json before old mid × ShowsOne is_json shown mid new

-- lines were shown
abbrev pub Shows : Bool → Watched → Watched → Type 0
Shows is_json old new = (lines : List (Shown is_json)) × HaveShown is_json lines old new

-- no line will come
pub record IsOver (old new : Watched) : Type 0 where
  pub heard : Grows old.heard new.heard (heard_at old None ∷ [])
  pub kept : Keeps old.written new.written

-- a line was heard, and not all of it could be written
pub record Loses (is_json : Bool) (old new : Watched) : Type 0 where
  pub last : Shown is_json
  pub heard : Grows old.heard new.heard (heard_at old (Some last.line) ∷ [])
  pub wrote : PutsFront old.written new.written (last.text ++ 10 ∷ [])

-- a line was heard, and nothing was written for want of memory
pub record Misses (old new : Watched) : Type 0 where
  pub line : List ℕ
  pub heard : Grows old.heard new.heard (heard_at old (Some line) ∷ [])
  pub kept : Keeps old.written new.written

-- what watching does, as it ends
abbrev pub Watches : Bool → Watched → Watched → WatchEnd → Type 0
Watches is_json old new ends.Over = (mid : Watched) × Shows is_json old mid × IsOver mid new
Watches is_json old new ends.Unwritten = (mid : Watched) × Shows is_json old mid × Loses is_json mid new
Watches is_json old new ends.NoMemory = (mid : Watched) × Shows is_json old mid × Misses mid new

-- what becomes of one line
abbrev pub Passes : Bool → List ℕ → Option (List ℕ) → Option (List ℕ) → Passed → Type 0
Passes is_json line old new passed.Whole =
    (text : List ℕ) × IsShown is_json line text × Appends old new (text ++ 10 ∷ [])
Passes is_json line old new passed.Unwritten =
    (text : List ℕ) × IsShown is_json line text × PutsFront old new (text ++ 10 ∷ [])
Passes is_json line old new passed.NoMemory = Keeps old new
