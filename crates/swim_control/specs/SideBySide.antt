-- Connections that are served side by side, over all their turns: the answers to each are those to its whole lines, in
-- their order, each of which tells what the desk told in its own call; and the desk was called by all of them, call
-- after
-- call. Lists of calls are newest first.
use Rattle.std.specs.Prelude.{◌≡◌, ◌≢◌, ◌==◌, ℕ, ◌<◌, List, [], ◌∷◌, ◌++◌, Option, None, if◌then◌else◌, map}
use Rattle.std.specs.List.{AllByRecursion}
use Rattle.swim_text.specs.ShortLines.{IsTakenKnown}
use Rattle.swim_control.specs.declared.desks.DeskCommand.{DeskCommand}
use Rattle.swim_control.specs.declared.connections.Stand.{Stand}
use Rattle.swim_control.specs.declared.connections.Stand.TheVariants.{Ended}
use Rattle.swim_control.specs.Desks.{Told}
use Rattle.swim_control.specs.Serving.{CourseKnown, IsServedKnown, Tells}
use Rattle.swim_control.specs.Talks.{Talk, Talks}

-- a call of the desk: the number of the connection that made it, the command, and what was told
pub record Called : Type 0 where
  pub by : ℕ
  pub command : DeskCommand
  pub told : Told

-- these calls, one after the other, led a desk from one state to another
abbrev pub Leads : {S : Type 0} → (S → DeskCommand → Told → S → Type 0) → S → List Called → S → Type 0
Leads asks first log last = Tells asks first (map (λ c. c.command) log) (map (λ c. c.told) log) last

-- the calls of one connection
abbrev pub calls_by : ℕ → List Called → List Called
calls_by id [] = []
calls_by id (c ∷ log) = if c.by == id then c ∷ calls_by id log else calls_by id log

-- what a connection asks and is told joins its calls
abbrev pub Joins : ℕ → List Called → DeskCommand → Told → List Called → Type 0
Joins id calls command told after = after ≡ record { by = id; command = command; told = told } ∷ calls

-- what connections bring, and what was written for them before they came, by their numbers; `None` where it isn't known
pub record Brought : Type 0 where
  pub text : ℕ → Option (List ℕ)
  pub old : ℕ → Option (List ℕ)

-- a connection that is served: its whole lines so far were answered by its calls, and a part of the next was read
abbrev pub IsHeard : Brought → List Called → Talk → Type 0
IsHeard b log t =
    t.end ≡ None → (start : Option (List ℕ)) × (reads : ℕ)
    × CourseKnown (Joins t.id) (b.text t.id) start [] (calls_by t.id log) (b.old t.id) t.written reads
    × IsTakenKnown start t.left t.part 128 reads t.reads

-- no two connections have one number
abbrev pub AreApart : List Talk → Type 0
AreApart [] = Unit {0}
AreApart (t ∷ talks) = AllByRecursion (λ u. u.id ≢ t.id) talks × AreApart talks

-- all connections that are served were heard, by calls of connections that have come so far
pub record AreHeard (b : Brought) (log : List Called) (all : Talks) : Type 0 where
  pub heard : AllByRecursion (IsHeard b log) all.talks
  pub apart : AreApart all.talks
  pub came : AllByRecursion (λ t. t.id < all.count) all.talks
  pub called : AllByRecursion (λ c. c.by < all.count) log

-- the connection that has just ended, which is the last, was served to this end
abbrev pub IsServedTo : Brought → List Called → Stand → List Talk → Type 0
IsServedTo b log (Ended end) talks =
    (others : List Talk) × (t : Talk) × (talks ≡ others ++ t ∷ [])
    × IsServedKnown (Joins t.id) (b.text t.id) t.left [] (calls_by t.id log) (b.old t.id) t.written end
IsServedTo b log stand talks = Unit {0}

-- with a turn the desk gets a call, or none, and all stay heard
abbrev pub HearsOn : {S : Type 0} → (S → DeskCommand → Told → S → Type 0) → Stand → Talks → Talks → S → S → Type 0
HearsOn {S = S} asks stand old new desk after =
    (b : Brought) (first : S) (log : List Called) → Leads asks first log desk → AreHeard b log old →
    (more : List Called)
    × Leads asks first (more ++ log) after × AreHeard b (more ++ log) new × IsServedTo b (more ++ log) stand new.talks

-- all stay heard with one that comes
abbrev pub HearsNewcomer : Talks → Option (List ℕ) → Option (List ℕ) → Talks → Type 0
HearsNewcomer old left written new =
    (b : Brought) (log : List Called) → b.text old.count ≡ left → b.old old.count ≡ written → AreHeard b log old →
    AreHeard b log new
