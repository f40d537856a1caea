-- Where bytes have a line feed.
use Rattle.std.proofs.Common.{◌≡◌, ℕ, suc, ◌==◌, ◌||◌, Bool, true, false, List, [], ◌∷◌, ◌++◌, length, Option, Some}
use Rattle.std.proofs.Common.{None, refl, sym, ap, ◌∙◌, append_assoc, arith}
use Rattle.memchr.specs.Find.{Nowhere, Passes, is_byte}
use Rattle.swim_text.specs.Lines.{has_feed}
use Rattle.swim_text.specs.Cutting.{has_feed_then}
use Rattle.swim_text.specs.declared.short_lines.LineEnd.{LineEnd}
use Rattle.swim_text.specs.declared.short_lines.LineEnd.TheVariants.{Feed}
use Rattle.swim_verdicts.specs.WholeLines.{EndsIfMet}

-- where no byte is a line feed
pub no_feed : (bytes : List ℕ) → Nowhere (Passes (is_byte 10) bytes) 0 (length bytes) → has_feed bytes ≡ false
no_feed [] none = refl
no_feed (b ∷ bytes) none =
    by (b == 10) refl (no_feed bytes (λ k low high. none (suc k) (omega arith) (omega arith))) where
      by : (c : Bool) → (b == 10) ≡ c → has_feed bytes ≡ false → (c || has_feed bytes) ≡ false
      by true is rest = absurd (none 0 (omega arith) (omega arith) is)
      by false is rest = rest

-- what ended the last of some lines, behind bytes of it
pub ends_joined : (met : Option LineEnd) (held part : List ℕ) → has_feed held ≡ false → EndsIfMet met part →
    EndsIfMet met (held ++ part)
ends_joined None held part unended ends = has_feed_then held part unended ends
ends_joined (Some Feed) held part unended ends =
    (held ++ ends.0, ap (λ l. held ++ l) ends.1 ∙ sym (append_assoc held ends.0 (10 ∷ [])))
ends_joined (Some end) held part unended ends = has_feed_then held part unended ends
