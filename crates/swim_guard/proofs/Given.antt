-- What a line gave so far is what the line below gave so far, as each was handed on.
use Rattle.std.proofs.Common.{ℕ, List, [], ◌∷◌, Option, sym, subst}
use Rattle.swim_trail.specs.Growing.{Grows}
use Rattle.swim_trail.specs.Noted.{map_more}
use Rattle.swim_work.specs.declared.lines.Got.{Got}
use Rattle.swim_work.specs.Gates.{Received}
use Rattle.swim_guard.specs.Fenced.{AtFence, LetsOn, heard_over, let_on}
use Rattle.swim_guard.specs.Guarded.{AtLine, HandsOn, Judged, handed_on, heard_by, keys_in}
use Rattle.swim_guard.proofs.Each.{one_more_by}

-- once the line below was asked, what it gave is handed on
pub heard_over_more : {L : Type 0} (received : L → Option (List Received)) (old new : AtFence L) (got : Got)
    (bytes : List ℕ) → LetsOn received old new got bytes →
    Grows (heard_over (received old.line) old.passed) (heard_over (received new.line) new.passed)
    (record { got = got; bytes = bytes } ∷ [])
heard_over_more received old new got bytes is =
    let last : Received = record { got = is.below; bytes = bytes } in
    subst (λ (r : Received). Grows (heard_over (received old.line) old.passed)
    (heard_over (received new.line) new.passed) (r ∷ [])) (sym is.is)
    (one_more_by let_on (received old.line) (received new.line) old.passed new.passed is.passed last is.grows is.noted)

-- once the line below was asked, what it gave is judged, and handed on
pub heard_by_more : {L : Type 0} (received : L → Option (List Received)) (old new : AtLine L) (got : Got)
    (bytes : List ℕ) → HandsOn received old new got bytes →
    Grows (heard_by (received old.line) (keys_in old.judged)) (heard_by (received new.line) (keys_in new.judged))
    (record { got = got; bytes = bytes } ∷ [])
heard_by_more received old new got bytes is =
    let last : Received = record { got = is.below; bytes = bytes } in
    subst (λ (g : Got). Grows (heard_by (received old.line) (keys_in old.judged))
    (heard_by (received new.line) (keys_in new.judged)) (record { got = g; bytes = bytes } ∷ [])) (sym is.is)
    (one_more_by handed_on (received old.line) (received new.line) (keys_in old.judged) (keys_in new.judged) is.keys
    last is.grows (map_more (λ (j : Judged). j.keys) old.judged new.judged _ is.judged))
