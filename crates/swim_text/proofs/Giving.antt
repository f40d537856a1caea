-- What a step of a line takes is what the source gave.
use Rattle.std.proofs.Common.{◌≡◌, ℕ, List, [], Option, Some, sym, ◌∙◌, append-nil}
use Rattle.std.specs.Io.KnownBytes.{append_known}
use Rattle.swim_text.specs.declared.short_lines.LineEnd.{LineEnd}
use Rattle.swim_text.specs.Polled.{GivesOn}
use Rattle.swim_text.specs.ShortLines.{Advances, AdvancesBy}
use Rattle.swim_text.specs.Streams.{append_none}

-- nothing was given
pub gives_none : (old new : Option (List ℕ)) (met : Option LineEnd) (line longer : List ℕ) (limit now after : ℕ) →
    new ≡ old → Advances met (Some []) (Some []) line longer limit now after →
    GivesOn old new met line longer limit now after
gives_none old new met line longer limit now after same step = ([], same ∙ append_none old, step)

-- some bytes were
pub gives_these : (old new : Option (List ℕ)) (met : Option LineEnd) (line longer : List ℕ) (limit now after : ℕ) →
    (bytes : List ℕ) × (new ≡ append_known old bytes) × AdvancesBy met bytes line longer limit now after →
    GivesOn old new met line longer limit now after
gives_these old new met line longer limit now after given =
    (given.0, given.1, given.2 (Some given.0) (Some []) (sym (append-nil given.0)))
