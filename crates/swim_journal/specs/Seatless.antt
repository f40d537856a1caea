-- Histories that differ in who called alone.
use Rattle.std.specs.Prelude.{◌≡◌, ℕ, ◌==◌, Bool, true, List, [], ◌∷◌, length, map}
use Rattle.std.specs.List.{list_all}
use Rattle.swim_history.specs.declared.entries.Entry.{Entry}
use Rattle.swim_history.specs.Setting.{Setting}
use Rattle.swim_history.specs.Run.{IsRun}
use Rattle.swim_history.specs.Drawn.{IsDrawn}

-- the entries have the same call, choice and reply
pub record IsLike (e e' : Entry) : Type 0 where
  pub call : e.call ≡ e'.call
  pub choice : e.choice ≡ e'.choice
  pub reply : e.reply ≡ e'.reply

abbrev pub Alike : List Entry → List Entry → Type 0
Alike [] [] = Unit {0}
Alike (e ∷ h) (e' ∷ h') = IsLike e e' × Alike h h'
Alike h h' = ⊥

-- the same history, with all calls made by seat 0
abbrev pub reseated : List Entry → List Entry
reseated [] = []
reseated (e ∷ before) =
    record { seat = 0; number = length before; call = e.call; choice = e.choice; reply = e.reply } ∷ reseated before

-- all calls were made by seat 0
abbrev pub has_one_seat : List Entry → Bool
has_one_seat h = list_all (λ e. e.seat == 0) h

-- a run of the same calls that seat 0 made, drawn by the same chooser, is the same run but for who called
abbrev pub IsReplayed : {S : Type 0} → (S → List ℕ → List ℕ → S → Type 0) → (S → ℕ → ℕ → S → Type 0) →
    (S → S → Type 0) → Setting → Type 0
IsReplayed {S} orders places same o =
    (start start' now now' : S) (h replay : List Entry) → same start' start → IsRun o h →
    IsDrawn orders places o start h now → IsRun o replay → IsDrawn orders places o start' replay now' →
    has_one_seat replay ≡ true → map (λ e. e.call) replay ≡ map (λ e. e.call) h → replay ≡ reseated h
