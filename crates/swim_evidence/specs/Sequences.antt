-- Journal files of a daemon, one after the other. A list of them is newest first.
use Rattle.std.specs.Prelude.{◌≡◌, ◌↔◌, ◌==◌, Bool, true, false, List, [], ◌∷◌, Option, Some, None}
use Rattle.swim_evidence.specs.declared.verdicts.Standing.{Standing}
use Rattle.swim_evidence.specs.declared.verdicts.Standing.TheVariants.{Sound, Starved, Accused}
use Rattle.swim_evidence.specs.declared.following.Draw.{Draw}
use Rattle.swim_evidence.specs.declared.sequences.HeaderEnd.{HeaderEnd}
use Rattle.swim_evidence.specs.declared.sequences.HeaderEnd.TheVariants.{Told, Open, Cut}
use Rattle.swim_evidence.specs.declared.sequences.Header.{Header}
use Rattle.swim_evidence.specs.declared.sequences.Left.{Left}
use Rattle.swim_evidence.specs.declared.sequences.Seen.{Seen}
use Rattle.swim_evidence.specs.declared.sequences.Link.{Link}
use Rattle.swim_evidence.specs.declared.sequences.Link.TheVariants.{First, NewStart, Follows as AsFollows, Breaks}
use Rattle.swim_evidence.specs.declared.sequences.Link.TheVariants.{Unknown, Untold}
use Rattle.swim_evidence.specs.declared.sequences.Sequence.{Sequence}
use Rattle.swim_evidence.specs.Following.{Follows}

-- the worse of two: what speaks against one counts more than want of memory
abbrev pub worse : Standing → Standing → Standing
worse Sound other = other
worse Starved Accused = Accused
worse Starved other = Starved
worse Accused other = Accused

-- what is to be said of a file's place behind another
abbrev pub standing_of : Link → Standing
standing_of First = Sound
standing_of NewStart = Sound
standing_of AsFollows = Sound
standing_of (Breaks met) = Accused
standing_of Unknown = Accused
standing_of Untold = Starved

-- the first life of a start of its daemon draws so
abbrev pub is_first_life : Option Draw → Bool
is_first_life None = false
is_first_life (Some draw) = draw.life == 0

-- the file tells that its life is the first of a start
abbrev pub begins_anew : Option Header → Bool
begins_anew None = false
begins_anew (Some header) = is_first_life header.heading.draw

abbrev pub is_told : HeaderEnd → Bool
is_told Told = true
is_told end = false

-- a header is compared with that of another file, which told this draw, unless lines of it may be missing: it tells no
-- seed, and the other does or the file ends in the midst
abbrev pub is_comparable : HeaderEnd → Option Draw → Bool
is_comparable Told before = true
is_comparable Open None = true
is_comparable Open (Some draw) = false
is_comparable Cut before = false

abbrev pub FollowsIf : Bool → Left → Header → Type 0
FollowsIf true left header = Follows left.opening left.heading header.opening header.heading
FollowsIf false left header = Unit {0}

-- a life with this header, as far as the file tells one, goes on from what is known to be left
abbrev pub GoesOn : Option Header → Option Left → Type 0
GoesOn None left = Unit {0}
GoesOn (Some header) None = is_told header.end ≡ false
GoesOn (Some header) (Some left) = FollowsIf (is_comparable header.end left.heading.draw) left header

abbrev pub StandsIf : Bool → Option Header → Option Left → Type 0
StandsIf true header left = Unit {0}
StandsIf false header left = GoesOn header left

-- a file stands behind another, if there is one: it begins a new start, or goes on from what that one left
abbrev pub StandsBehind : Option Seen → Seen → Type 0
StandsBehind None now = Unit {0}
StandsBehind (Some before) now = StandsIf (begins_anew now.header) now.header before.left

-- it isn't known whether a file stands behind another, as memory was refused for that one
abbrev pub IsUntold : Option Seen → Seen → Type 0
IsUntold None now = ⊥
IsUntold (Some before) now =
    (before.standing ≡ Starved) × (before.left ≡ None) × ¬ StandsBehind (Some before) now

-- what is found of a file's place behind another, if there is one
pub record IsPlace (before : Option Seen) (now : Seen) (place : Standing) : Type 0 where
  pub sound : (place ≡ Sound) ↔ StandsBehind before now
  pub untold : (place ≡ Starved) ↔ IsUntold before now

abbrev pub newest : List Seen → Option Seen
newest [] = None
newest (now ∷ before) = Some now

-- nothing speaks against any of these files, and each stands behind the one before it
abbrev pub AreGood : List Seen → Type 0
AreGood [] = Unit {0}
AreGood (now ∷ before) = (now.standing ≡ Sound) × StandsBehind (newest before) now × AreGood before

-- the worst of what is found of these files and of their places
abbrev pub IsWorst : List Seen → Standing → Type 0
IsWorst [] worst = worst ≡ Sound
IsWorst (now ∷ before) worst =
    (earlier : Standing) × (place : Standing) × IsWorst before earlier × IsPlace (newest before) now place
    × (worst ≡ worse (worse earlier now.standing) place)

-- what is known once these files were seen
pub record IsSequence (seen : List Seen) (s : Sequence) : Type 0 where
  pub before : s.before ≡ newest seen
  pub good : (s.standing ≡ Sound) ↔ AreGood seen
  pub worst : IsWorst seen s.standing
