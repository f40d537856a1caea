-- Which journal files of earlier lives go.
use Rattle.std.specs.Prelude.{ℕ, ◌+◌, ◌-◌, ◌==◌, List, [], length, min, take, if◌then◌else◌}

-- beside a new file, where so many stay: of the others, the oldest of which is the first, those that are too many, but
-- no
-- more than 64 at a time; none where all stay
abbrev pub removed : {A : Type 0} → List A → ℕ → List A
removed others keep = if keep == 0 then [] else take (min (length others + 1 - keep) 64) others
