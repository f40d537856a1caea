-- A text that prints has no line feed.
use Rattle.std.proofs.Common.{◌≡◌, ℕ, ◌==◌, ◌&&◌, Bool, true, false, List, [], ◌∷◌, refl, arith}
use Rattle.std.specs.List.{list_all}
use Rattle.std.proofs.lemmas.Bool.{leb-true, ne_eqb, or_from}
use Rattle.swim_text.specs.Lines.{has_feed}
use Rattle.swim_config.specs.Configuration.{is_printing}

and_first : (a b : Bool) → (a && b) ≡ true → a ≡ true
and_first true b e = refl
and_first false b e = e

and_second : (a b : Bool) → (a && b) ≡ true → b ≡ true
and_second true b e = e
and_second false b e = absurd cc

no_feed : (byte : ℕ) → is_printing byte ≡ true → (byte == 10) ≡ false
no_feed byte prints = ne_eqb byte 10 (λ e. omega (arith, leb-true 32 byte (and_first _ _ prints)))

pub printing_free : (text : List ℕ) → list_all is_printing text ≡ true → has_feed text ≡ false
printing_free [] all = refl
printing_free (byte ∷ text) all =
    or_from _ _ (no_feed byte (and_first _ _ all)) (printing_free text (and_second _ _ all))
