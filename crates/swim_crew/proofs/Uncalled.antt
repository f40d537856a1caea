-- A seat that nobody has called with.
use Rattle.std.proofs.Common.{◌≡◌, ℕ, List, [], ap, ◌∙◌}
use Rattle.swim_history.specs.declared.seats.Kept.{Kept}
use Rattle.swim_node.specs.Seats.{Seated}
use Rattle.swim_work.specs.Callers.{fresh_seat}
use Rattle.swim_crew.specs.Working.{IsUncalled}

abbrev seated : ℕ → List Kept → ℕ → Seated
seated n calls full = record { number = n; calls = calls; full = full }

pub uncalled : (seat : Seated) (n : ℕ) → IsUncalled n seat → seat ≡ fresh_seat n
uncalled seat n is =
    ap (λ (m : ℕ). seated m seat.calls seat.full) is.0
    ∙ (ap (λ (c : List Kept). seated n c seat.full) is.1 ∙ ap (λ (f : ℕ). seated n [] f) is.2)
