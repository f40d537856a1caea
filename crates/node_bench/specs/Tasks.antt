-- What the arguments tell.
use Rattle.std.specs.Prelude.{◌≡◌, ℕ, ◌*◌, ◌-◌, ◌^◌, ◌<◌, min, List, ◌∷◌, Option, Some, None, if◌then◌else◌, codes}
use Rattle.std.specs.Str.{bytes_eq}
use Rattle.std.specs.Str.Parse.{IsNumeral, digits_value, without_leading_plus}
use Rattle.node_bench.specs.declared.tasks.Task.{Task}
use Rattle.node_bench.specs.declared.tasks.Mode.{Mode}
use Rattle.node_bench.specs.declared.tasks.Mode.TheVariants as modes

-- what is done, by its word
abbrev pub mode_of : List ℕ → Option Mode
mode_of word =
    if bytes_eq word (codes "open") then Some modes.Open
    else if bytes_eq word (codes "record") then Some modes.Record
    else if bytes_eq word (codes "hear") then Some modes.Hear
    else if bytes_eq word (codes "tick") then Some modes.Tick
    else if bytes_eq word (codes "change") then Some modes.Change
    else if bytes_eq word (codes "list") then Some modes.List
    else None

-- how many entries the journal may have: beside a viewer that lists so often a seat makes fewer changes than this
abbrev pub limit_of : Mode → ℕ → ℕ
limit_of modes.List calls = min (8 * calls) (2 ^ 32 - 1)
limit_of mode calls = calls

-- a number as std reads it: decimal digits, with a plus before them or none, below 2^32
abbrev pub Counts : List ℕ → ℕ → Type 0
Counts text number =
    let digits = without_leading_plus text in
    IsNumeral 10 digits × (digits_value 10 digits < 2 ^ 32) × (number ≡ digits_value 10 digits)

-- the program's name and the words after it tell this task; words after those are let pass
abbrev pub Tells : List (List ℕ) → Task → Type 0
Tells (name ∷ word ∷ calls ∷ beside ∷ others) task =
    (mode_of word ≡ Some task.mode) × Counts calls task.calls × Counts beside task.beside
    × (task.limit ≡ limit_of task.mode task.calls)
Tells words task = ⊥
