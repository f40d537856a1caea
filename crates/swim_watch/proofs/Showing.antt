-- From line to line: what has been shown when one more was.
use Rattle.std.proofs.Common.{◌≡◌, ℕ, Bool, List, [], ◌∷◌, Option, Some, None, refl}
use Rattle.swim_text.specs.Streams.{keeps_self}
use Rattle.swim_trail.specs.Growing.{Grows}
use Rattle.swim_watch.specs.Hearings.{Hearing}
use Rattle.swim_watch.specs.Watching.{Passes, Shows, Watched, Watches, heard_at}
use Rattle.swim_watch.specs.declared.watching.WatchEnd.TheVariants as ends
use Rattle.swim_watch.specs.declared.watching.Passed.TheVariants as passed

pub none_shown : (is_json : Bool) (o : Watched) → Shows is_json o o
none_shown is_json o = ([], refl)

-- one more line
pub one_more_shown : (is_json : Bool) (o mid new : Watched) (line : List ℕ) → Shows is_json o mid →
    Grows mid.heard new.heard (heard_at mid (Some line) ∷ []) →
    Passes is_json line mid.written new.written passed.Whole → new.held ≡ 0 → Shows is_json o new
one_more_shown is_json o mid new line (lines, has) heard (text, is, wrote) sent = (
  record { line = line; text = text; is = is } ∷ lines,
  (mid, has, record { heard = heard; wrote = wrote; sent = sent }),
)

-- no more lines
pub over_shown : (is_json : Bool) (o mid : Watched) (heard : Option (List Hearing)) → Shows is_json o mid →
    Grows mid.heard heard (heard_at mid None ∷ []) →
    Watches is_json o (record { heard = heard; written = mid.written; held = mid.held }) ends.Over
over_shown is_json o mid heard shows none = (mid, shows, record { heard = none; kept = keeps_self mid.written })

-- a line that could not be written
pub lost_shown : (is_json : Bool) (o mid new : Watched) (line : List ℕ) → Shows is_json o mid →
    Grows mid.heard new.heard (heard_at mid (Some line) ∷ []) →
    Passes is_json line mid.written new.written passed.Unwritten → Watches is_json o new ends.Unwritten
lost_shown is_json o mid new line shows heard (text, is, wrote) =
    (mid, shows, record { last = record { line = line; text = text; is = is }; heard = heard; wrote = wrote })

-- and one for which there was no memory
pub missed_shown : (is_json : Bool) (o mid new : Watched) (line : List ℕ) → Shows is_json o mid →
    Grows mid.heard new.heard (heard_at mid (Some line) ∷ []) →
    Passes is_json line mid.written new.written passed.NoMemory → Watches is_json o new ends.NoMemory
missed_shown is_json o mid new line shows heard kept =
    (mid, shows, record { line = line; heard = heard; kept = kept })
