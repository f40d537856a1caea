-- The exchange that adds a change to the list keeps its rule.
use Rattle.std.proofs.Common.{◌≡◌, ℕ, ◌+◌, ◌<◌, ◌==◌, Bool, true, false, List, [], ◌∷◌, ◌++◌, length, refl, ap, sym}
use Rattle.std.proofs.Common.{subst, arith, inl, length-append, None}
use Rattle.std.proofs.lemmas.List.{append-nil}
use Rattle.std.proofs.lemmas.Bool.Decides.{nat_tests}
use mathlib.Core.List.{IsPrefix}
use prog.Atomic.{either}
use Rattle.logbook.specs.Pages.{Cell, cell, keeps, no_nib, step, Moves, Goes}
use Rattle.swim_history.specs.declared.rows.Change.{Change}
use Rattle.swim_node.specs.ChangeLog.{IsCounted, Adds}
use Rattle.swim_node.proofs.Prefixes.{prefix_whole}

-- clients are shown nothing of the list, and nothing moves for them
abbrev pub shown : List Change → List Change
shown log = []

abbrev pub moved : List Change → List Change → ℕ → Type 0
moved xs ys n = Unit {0}

adds_goes : (log v : List Change) (change : Change) (old : ℕ) → length v ≡ old → IsPrefix v log → (b : Bool) →
    (length log == old) ≡ b
    → Goes IsCounted shown moved 0 (v, (no_nib, None)) (λ n. either (n == old) (old + 1) n)
    (Adds (step 0 old (old + 1) change) (v, (no_nib, None))) ((length log, true) ∷ (0, true) ∷ []) log
adds_goes log v change old len begins true is =
    let here : length log ≡ old = grind (arith, nat_tests) in
    let same : v ≡ log = prefix_whole v log begins (omega arith) in
    let n : either (length log == old) (old + 1) (length log) ≡ length (log ++ change ∷ []) =
    rw is (omega (arith, length-append log (change ∷ []))) in (
      keeps,
      change ∷ [],
      None,
      tt,
      ap (λ (k : ℕ). (k, true) ∷ (0, true) ∷ []) n,
      inl (refl, refl),
      rw is (ap (λ w. w ++ change ∷ []) (sym same)),
    )
adds_goes log v change old len begins false is =
    let all : log ++ [] ≡ log = append-nil log in
    let n : either (length log == old) (old + 1) (length log) ≡ length (log ++ []) = rw is (ap length (sym all)) in (
      keeps,
      [],
      None,
      tt,
      ap (λ (k : ℕ). (k, true) ∷ (0, true) ∷ []) n,
      inl (refl, refl),
      rw is (ap length all),
    )

-- whatever the list is, the exchange adds the change to all that was seen, or finds that the list is longer
pub adds_moves : (v : List Change) (change : Change) (old : ℕ) → length v ≡ old
    → Moves IsCounted shown moved 0 (v, (no_nib, None)) (λ n. either (n == old) (old + 1) n)
    (Adds (step 0 old (old + 1) change) (v, (no_nib, None)))
adds_moves v change old len cs log counted begins away =
    let P : List Cell → Type 0 = λ c. (0 < length c) × ((cell c 0).1 ≡ true) ×
    Goes IsCounted shown moved 0 (v, (no_nib, None)) (λ n. either (n == old) (old + 1) n)
    (Adds (step 0 old (old + 1) change) (v, (no_nib, None))) c log in
    subst P (sym counted) (omega arith, refl, adds_goes log v change old len begins (length log == old) refl)
