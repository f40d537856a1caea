-- The line that tells what came of a reload.
use Rattle.std.proofs.Common.{◌≡◌, ℕ, Bool, true, false, List, [], ◌∷◌, ◌++◌, Some, append-nil, sym, subst, ◌∙◌, ap}
use Rattle.swim_text.specs.Streams.{Puts}
use Rattle.swimd.specs.Reloading.{IsTextOrFront}

-- what a sink has that was given a text alone is the text, or a front of it
pub text_or_front : (text old line : List ℕ) (done : Bool) → old ≡ [] → Puts (Some old) (Some line) text done →
    IsTextOrFront text line
text_or_front text old line true none puts = ([], sym (append-nil line ∙ puts ∙ ap (λ o. o ++ text) none))
text_or_front text old line false none puts =
    (puts.unput, puts.cut ∙ ap (λ f. f ++ puts.unput) (sym (puts.grows ∙ ap (λ o. o ++ puts.front) none)))
