-- What making a key does.
use Rattle.std.specs.Prelude.{◌≡◌, ◌⊎◌, ℕ, List, [], ◌∷◌, ◌++◌, length, Option}
use Rattle.std.specs.Io.KnownBytes.{Consumes}
use Rattle.hex.specs.Hex.{encode_lower}
use Rattle.swim_outcomes.specs.declared.outcomes.Outcome.{Outcome}
use Rattle.swim_outcomes.specs.declared.outcomes.Outcome.TheVariants.{NoRandom}
use Rattle.swim_checks.specs.Texts.{Helps}

-- a key is 32 bytes; it is written as 64 hexadecimal digits and a line feed
abbrev pub IsKeyText : List ℕ → Type 0
IsKeyText text = (key : List ℕ) × (length key ≡ 32) × (text ≡ encode_lower key ++ 10 ∷ [])

-- it is the next 32 bytes that a source gave, all of them and in their order
abbrev pub IsKeyOf : Option (List ℕ) → Option (List ℕ) → List ℕ → Type 0
IsKeyOf left_old left_new text =
    (key : List ℕ) × (length key ≡ 32) × Consumes left_old left_new key × (text ≡ encode_lower key ++ 10 ∷ [])

-- a key was written on standard output, or a front of it; or the system had no random bytes
abbrev pub MakesKey : Option (List ℕ) → Option (List ℕ) → Outcome → Type 0
MakesKey old new outcome =
    ((outcome ≡ NoRandom) × (new ≡ old)) ⊎ ((text : List ℕ) × IsKeyText text × Helps text old new outcome)

-- the same of a source whose bytes may be known
abbrev pub MakesKeyOf : Option (List ℕ) → Option (List ℕ) → Option (List ℕ) → Option (List ℕ) → Outcome → Type 0
MakesKeyOf left_old left_new old new outcome =
    ((outcome ≡ NoRandom) × (new ≡ old))
    ⊎ ((text : List ℕ) × IsKeyOf left_old left_new text × Helps text old new outcome)
