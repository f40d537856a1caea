-- That what a node draws is drawn from the chooser that it was opened with.
use Rattle.std.specs.Prelude.{ℕ, List}
use Rattle.swim_history.specs.declared.entries.Entry.{Entry}
use Rattle.swim_history.specs.Setting.{Setting}
use Rattle.swim_history.specs.Drawn.{IsDrawn}

-- every history that is drawn from this chooser is such a one
abbrev pub DrawsAll : {S : Type 0} → (S → List ℕ → List ℕ → S → Type 0) → (S → ℕ → ℕ → S → Type 0) → Setting →
    S → (List Entry → Type 0) → Type 0
DrawsAll {S} orders places o start drawn =
    (h : List Entry) (now : S) → IsDrawn orders places o start h now → drawn h

-- the history was drawn, and the chooser is now this one
pub record IsDrawnSo {S : Type 0} (orders : S → List ℕ → List ℕ → S → Type 0) (places : S → ℕ → ℕ → S → Type 0)
    (o : Setting) (drawn : List Entry → Type 0) (h : List Entry) (now : S) : Type 0 where
  pub start : S
  pub is : IsDrawn orders places o start h now
  pub all : DrawsAll orders places o start drawn
