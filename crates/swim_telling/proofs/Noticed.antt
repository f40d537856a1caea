-- What is told in lines for people.
use Rattle.std.proofs.Common.{◌≡◌, ℕ, false, List, [], ◌∷◌, refl}
use Rattle.swim_text.specs.Lines.{has_feed}
use Rattle.swim_telling.specs.Notices.{Notices, line_text}
use Rattle.swim_telling.specs.Telling.{TellsText, Written}

pub one_noticed : (old new : Written) (line : List ℕ) → has_feed line ≡ false → TellsText (line_text line) old new →
    Notices old new
one_noticed old new line one told = (line ∷ [], (old, refl, one, told))
