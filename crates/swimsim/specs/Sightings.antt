-- Journal files that were examined, one after the other.
use Rattle.std.specs.Prelude.{◌≡◌, ◌≢◌, ◌↔◌, ◌⊎◌, ℕ, List, [], ◌∷◌, ◌++◌, map, reverse, Option, Some, None, IsSome}
use Rattle.std.specs.Prelude.{Result, Ok, Err}
use Rattle.std.specs.List.{AllByRecursion}
use Rattle.swim_evidence.specs.declared.sequences.Seen.{Seen}
use Rattle.swim_evidence.specs.declared.verdicts.Standing.TheVariants.{Sound, Starved}
use Rattle.swim_evidence.specs.Sequences.{AreGood}
use Rattle.swim_verdicts.specs.declared.examining.Played.{Played}
use Rattle.swimsim.specs.declared.verifying.Look.{Look}
use Rattle.swim_verdicts.specs.Examined.{IsCutFile, IsStarvedFile, IsWholeFile, header_of, left_of}
use Rattle.swimsim.specs.Sequences.{IsStatusOf}

-- a file: its path; what was played of it, where it could be read; and what was seen of it
pub record Sighting : Type 0 where
  pub path : List ℕ
  pub played : Option Played
  pub seen : Seen

abbrev pub sighting : List ℕ → Option Played → Seen → Sighting
sighting path played seen = record { path = path; played = played; seen = seen }

-- what a look at a file gave that can be read, or can't
abbrev pub played_in : {E : Type 0} → Result Played E → Option Played
played_in (Ok played) = Some played
played_in (Err error) = None

-- what was noted of a file with its path
abbrev pub sighting_in : Look × List ℕ → Sighting
sighting_in i = sighting i.1 (played_in i.0.played.value) i.0.seen.value

-- this is seen of a file that was played: nothing speaks against it exactly where it is whole or cut, that isn't known
-- exactly where the replay ended for want of memory, and what its life left is known exactly where it is whole
pub record SeesPlayed (p : Played) (seen : Seen) : Type 0 where
  pub sound : (seen.standing ≡ Sound) ↔ (IsWholeFile p ⊎ IsCutFile p)
  pub starved : (seen.standing ≡ Starved) ↔ IsStarvedFile p
  pub header : seen.header ≡ header_of p
  pub whole : IsWholeFile p → seen.left ≡ left_of p
  pub left : IsSome seen.left → IsWholeFile p

-- and of one that can't be read: that isn't sound, and tells nothing
pub record SeesNothing (seen : Seen) : Type 0 where
  pub unsound : seen.standing ≢ Sound
  pub header : seen.header ≡ None
  pub left : seen.left ≡ None

abbrev pub Sees : Option Played → Seen → Type 0
Sees (Some played) seen = SeesPlayed played seen
Sees None seen = SeesNothing seen

-- the file of a path was examined, and no other
pub record Examines (old : List Sighting) (path : List ℕ) (seen : Seen) (new : List Sighting) : Type 0 where
  pub played : Option Played
  pub more : new ≡ old ++ sighting path played seen ∷ []
  pub sees : Sees played seen

abbrev pub paths_of : List Sighting → List (List ℕ)
paths_of files = map (λ f. f.path) files

-- what was seen of these files, newest first
abbrev pub seen_in : List Sighting → List Seen
seen_in files = reverse (map (λ f. f.seen) files)

-- the files of these paths were examined, each once, in order, and no other. The status is 0 exactly where each is
-- whole or cut, and begins a new start or goes on from what the one before left, and in any case that of the worst of
-- what is found of them and of their places
pub record AreExamined (old : List Sighting) (paths : List (List ℕ)) (new : List Sighting) (status : ℕ) : Type 0 where
  pub files : List Sighting
  pub more : new ≡ old ++ files
  pub are : paths_of files ≡ paths
  pub sees : AllByRecursion (λ f. Sees f.played f.seen) files
  pub good : (status ≡ 0) ↔ AreGood (seen_in files)
  pub worst : IsStatusOf (seen_in files) status
