use Rattle.std.proofs.Common.{◌≡◌, ℕ, Bool, true, false, not, List, length, sym, ap, ◌∙◌, refl}
use Rattle.std.specs.Prelude.{◌==◌, Option, Some, None}
use Rattle.std.specs.Option.{is_some, option_copied}
use Rattle.std.specs.Borrow.{Bor}
use Rattle.swim_text.specs.Words.{words_left, words_some}
use Rattle.swim_text.proofs.words.Words.is_empty.Goals as goal

-- words are left exactly where a text is
left_some : (separator : ℕ) (left : Option (Bor (List ℕ))) (none : Bool) → is_some left ≡ not none →
    none ≡ (length (words_left separator (option_copied left)) == 0)
left_some separator None true e = refl
left_some separator None false e = absurd cc
left_some separator (Some text) true e = absurd cc
left_some separator (Some text) false e = sym (words_some separator text.now)

pub returns : goal.returns
returns c =
    left_some c.self.inside.separator c.self.inside.left _ c.is_none.ensures ∙
    ap (λ words. length words == 0) c.self.view_is
