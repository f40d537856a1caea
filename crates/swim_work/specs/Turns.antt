-- The turns of a worker, one for each answer of its gate.
use Rattle.std.specs.Prelude.{◌≡◌, ℕ, List, [], ◌∷◌, ◌++◌, Option, Some, None}
use Rattle.swim_history.specs.Setting.{Setting}
use Rattle.swim_trail.specs.Growing.{Grows}
use Rattle.swim_work.specs.declared.counts.Why.{Why}
use Rattle.swim_work.specs.declared.counts.Why.TheVariants.{Stopped}
use Rattle.swim_work.specs.declared.paces.Beat.{Beat}
use Rattle.swim_work.specs.declared.paces.Beat.TheVariants as beats
use Rattle.swim_work.specs.Calling.{Ticks}
use Rattle.swim_work.specs.Posts.{AtSender}

-- the gate gave one answer, and this is what came of it
pub record IsTurn {A S : Type 0} (turn : A → S → Option Why → S → Type 0) (before after : Option (List A)) (old : S)
    (end : Option Why) (new : S) : Type 0 where
  pub given : A
  pub grown : Grows before after (given ∷ [])
  pub turned : turn given old end new

-- turns for these answers, oldest first, none of which ended the worker
abbrev pub Turns : {A S : Type 0} → (A → S → Option Why → S → Type 0) → List A → S → S → Type 0
Turns {A} {S} turn [] old new = new ≡ old
Turns {A} {S} turn (given ∷ rest) old new = (mid : S) × turn given old None mid × Turns turn rest mid new

-- turns for these answers, of which the last one ended the worker so; or none did, as its life was over
abbrev pub EndsSo : {A S : Type 0} → (A → S → Option Why → S → Type 0) → List A → S → Option Why → S → Type 0
EndsSo {A} {S} turn given old None new = Turns turn given old new
EndsSo {A} {S} turn given old (Some why) new =
    (front : List A) × (last : A) × (mid : S) × (given ≡ front ++ last ∷ []) × Turns turn front old mid ×
    turn last mid (Some why) new

-- a worker's whole work: a turn for each answer of its gate
pub record HasWorked {A S : Type 0} (turn : A → S → Option Why → S → Type 0) (before after : Option (List A)) (old : S)
    (end : Option Why) (new : S) : Type 0 where
  pub given : List A
  pub grown : Grows before after given
  pub ends : EndsSo turn given old end new

-- a turn of the ticker: a tick is given
abbrev pub TicksNext : {O : Type 0} → Setting → ℕ → Beat → AtSender O → Option Why → AtSender O → Type 0
TicksNext o limit beats.Tick old end new = Ticks o limit old end new
TicksNext o limit beats.Idle old end new = (new ≡ old) × (end ≡ None)
TicksNext o limit beats.Stop old end new = (new ≡ old) × (end ≡ Some Stopped)

-- the ticker's
abbrev pub HasTicked : {O : Type 0} → Setting → ℕ → Option (List Beat) → Option (List Beat) → AtSender O → Option Why →
    AtSender O → Type 0
HasTicked o limit before after old end new = HasWorked (TicksNext o limit) before after old end new
