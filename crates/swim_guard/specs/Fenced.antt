-- What is handed on over a fence.
use Rattle.std.specs.Prelude.{◌≡◌, ℕ, ◌+◌, ◌≤◌, Bool, true, false, ◌&&◌, List, [], ◌∷◌, ◌++◌, Option, Some, None}
use Rattle.std.specs.Prelude.{if◌then◌else◌}
use Rattle.swim_wire.specs.Address.{Address}
use Rattle.swim_trail.specs.Growing.{Grows}
use Rattle.swim_fence.specs.Fences.{Kept, Follows, TakesRate}
use Rattle.swim_fence.specs.Histories.{Event, is_same, passes}
use Rattle.swim_fence.specs.Histories.Event.{Asked, Listed}
use Rattle.swim_work.specs.declared.lines.Got.{Got}
use Rattle.swim_work.specs.declared.lines.Got.TheVariants.{Datagram, Idle}
use Rattle.swim_work.specs.Gates.{Received}
use Rattle.swim_guard.specs.declared.thrown.Thrown.{Thrown}
use Rattle.swim_guard.specs.Each.{all_by}
use Rattle.swim_guard.specs.Thrown.{one_thrown}

-- the rate that was answered, and what asked for it, as it was then
pub record AnsweredRate (B : Type 0) : Type 0 where
  pub rate : ℕ
  pub by : B

-- what a contract sees of a line over another with a fence between them: the line below, the time that it asked at
-- last, the rates that it was told so far, oldest first, the fence, what was thrown away, and what it answered so far,
-- oldest first, and of each time whether what the line below gave was handed on
pub record AtFence (L : Type 0) : Type 0 where
  pub line : L
  pub time : ℕ
  pub rates : List (AnsweredRate L)
  pub fence : Kept
  pub fenced : Thrown
  pub answered : List Received
  pub passed : List Bool

-- what is given of what was got, if its datagram is thrown away: nothing came. A fault stays one
abbrev pub without_datagram : Got → Got
without_datagram (Datagram count source) = Idle
without_datagram got = got

-- what the line below gave is handed on as it is, or without its datagram
abbrev pub let_on : Bool → Received → Received
let_on true below = below
let_on false below = record { got = without_datagram below.got; bytes = below.bytes }

-- all that is handed on of what the line below gave so far, each as is told at its place
abbrev pub heard_over : Option (List Received) → List Bool → Option (List Received)
heard_over below passed = all_by let_on below passed

-- whatever happened to the fence before, this happened to it then
pub record Happens (old new : Kept) (event : Event) : Type 0 where
  pub rate : new.rate ≡ old.rate
  pub follows : (h : List Event) → Follows old h → Follows new (event ∷ h)

-- a datagram from that address asked at that time: whether it passed is what all that happened before says
pub record IsAsked (old new : Kept) (from : Address) (now : ℕ) (passed : Bool) : Type 0 where
  pub happens : Happens old new (Asked from now)
  pub passes : (h : List Event) → Follows old h → passed ≡ passes old.rate h from now

-- where it came from, if it was thrown away
abbrev pub thrown_if : Bool → Address → Option Address
thrown_if true source = None
thrown_if false source = Some source

-- a datagram from that address asked the fence: at the rate that was told once the line below had got it, at a time
-- that isn't before the last one
pub record AsksFence {L : Type 0} (old new : AtFence L) (source : Address) (passed : Bool) : Type 0 where
  pub rate : ℕ
  pub told : new.rates ≡ old.rates ++ record { rate = rate; by = new.line } ∷ []
  pub rated : Kept
  pub takes : TakesRate old.fence rate rated
  pub later : old.time ≤ new.time
  pub asked : IsAsked rated new.fence source new.time passed

-- the line below got a datagram: it is handed on as it is where it passes at that time, and else nothing is, and it is
-- counted
pub record LetsThrough {L : Type 0} (old new : AtFence L) (below : Got) (source : Address) (got : Got) : Type 0 where
  pub passed : Bool
  pub asks : AsksFence old new source passed
  pub is : got ≡ (if passed then below else Idle)
  pub fenced : new.fenced ≡ one_thrown (thrown_if passed source) old.fenced

-- the line below got nothing: that is told as it is
pub record TellsOn {L : Type 0} (old new : AtFence L) (below got : Got) : Type 0 where
  pub time : new.time ≡ old.time
  pub rates : new.rates ≡ old.rates
  pub fence : new.fence ≡ old.fence
  pub is : got ≡ below
  pub fenced : new.fenced ≡ old.fenced

abbrev pub LetsIn : {L : Type 0} → AtFence L → AtFence L → Got → Got → Type 0
LetsIn old new (Datagram count source) got = LetsThrough old new (Datagram count source) source got
LetsIn old new below got = TellsOn old new below got

-- the line below was asked once: each datagram of it asks the fence, and what passes is handed on, as is noted
pub record LetsOn {L : Type 0} (received : L → Option (List Received)) (old new : AtFence L) (got : Got)
    (bytes : List ℕ)
    : Type 0 where
  pub below : Got
  pub grows : Grows (received old.line) (received new.line) (record { got = below; bytes = bytes } ∷ [])
  pub lets_in : LetsIn old new below got
  pub passed : Bool
  pub noted : new.passed ≡ old.passed ++ passed ∷ []
  pub is : record { got = got; bytes = bytes } ≡ let_on passed (record { got = below; bytes = bytes })

-- the line was shown the members, and so was the fence
pub record IsShown {L : Type 0} (old new : AtFence L) (members : List Address) : Type 0 where
  pub happens : Happens old.fence new.fence (Listed members)
  pub time : new.time ≡ old.time
  pub rates : new.rates ≡ old.rates
  pub fenced : new.fenced ≡ old.fenced

-- what happened at a fenced line: a datagram came from that address at that time, and passed or didn't; or it was shown
-- members
pub data Step : Type 0 where
  Came : (from : Address) → (now : ℕ) → (passed : Bool) → Step
  Shown : (members : List Address) → Step

abbrev pub event_of : Step → Event
event_of (Came from now passed) = Asked from now
event_of (Shown members) = Listed members

abbrev pub IsStep : Kept → Step → Kept → Type 0
IsStep old (Came from now passed) new = IsAsked old new from now passed
IsStep old (Shown members) new = Happens old new (Listed members)

-- the fence went from the one state to the other by these steps, the newest first
abbrev pub AreSteps : Kept → List Step → Kept → Type 0
AreSteps old [] new = new ≡ old
AreSteps old (step ∷ before) new = (mid : Kept) × AreSteps old before mid × IsStep mid step new

-- how many datagrams passed that came from an address
abbrev pub passed_from : Address → List Step → ℕ
passed_from a [] = 0
passed_from a (Came from now passed ∷ before) = (if is_same a from && passed then 1 else 0) + passed_from a before
passed_from a (Shown members ∷ before) = passed_from a before
