-- What is seen of lives that were lived, life by life.
use Rattle.std.proofs.Common.{◌≡◌, ℕ, List, [], ◌∷◌, ap, subst, sym, inl, inr}
use Rattle.swim_history.specs.Setting.{Setting}
use Rattle.swim_crew.specs.declared.pasts.LivesEnd.{LivesEnd}
use Rattle.swim_crew.specs.declared.pasts.Past.{Past}
use Rattle.swim_crew.specs.Crews.{Rules, Stand}
use Rattle.swim_crew.specs.Lives.{AreEnded, AreLived, AreLives, HasOpened, IsKeptLife}
use Rattle.swim_crew.specs.Views.{MovedBy, Moves}

module _ {A B C D K X : Type 0} (r : Rules A B C D K) (view : Stand A B C D K → X) (moves : Moves X)
    (opens : (from : Setting) (number : ℕ) (old new : Stand A B C D K) → HasOpened r from number old new →
    view new ≡ view old)
    (lives : (from : Setting) (limit : ℕ) (seed : List ℕ) (number : ℕ) (old : Stand A B C D K) (past : Past)
    (new : Stand A B C D K) → IsKeptLife r from limit seed number old past new →
    moves number past (view old) (view new)) where
  each_moved : (first : Setting) (limit : ℕ) (seed : List ℕ) (old : Stand A B C D K) (all : List Past)
      (new : Stand A B C D K) → AreLives r first limit seed old all new → MovedBy moves (view old) all (view new)
  each_moved first limit seed old [] new is = ap view is
  each_moved first limit seed old (past ∷ before) new is = (
    view is.0,
    each_moved first limit seed old before is.0 is.1,
    lives _ limit seed _ is.0 past new is.2,
  )

  still_seen : (first : Setting) (all : List Past) (mid new : Stand A B C D K) (end : LivesEnd) →
      AreEnded r first all mid new end → view new ≡ view mid
  still_seen first all mid new end (inl last) = ap view last.0
  still_seen first all mid new end (inr opened) = opens _ _ mid new opened.2

  pub all_moved : (opening : Setting) (limit : ℕ) (seed : List ℕ) (old new : Stand A B C D K) (end : LivesEnd) →
      (are : AreLived r opening limit seed old new end) → MovedBy moves (view old) are.lives (view new)
  all_moved opening limit seed old new end are =
      subst (λ x. MovedBy moves (view old) are.lives x)
      (sym (still_seen opening are.lives are.after_lives new end are.ended))
      (each_moved opening limit seed old are.lives are.after_lives are.lived)
