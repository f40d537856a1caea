-- The laws of words that were put one after another, with a space between them: they are read again.
use Rattle.std.specs.Prelude.{◌≡◌, ℕ, false, List, [], ◌∷◌, ◌++◌, refl}
use Rattle.std.proofs.Common.{◌∙◌}
use Rattle.swim_text.specs.Parts.{has, cut_at, cut_none}
use Rattle.swim_text.specs.Words.{words_of, words_cut}

pub words_at : (word rest : List ℕ) → has 32 word ≡ false → words_of (word ++ 32 ∷ rest) ≡ word ∷ words_of rest
words_at word rest none = words_cut 32 (word ++ 32 ∷ rest) ∙ rw (cut_at 32 word rest none) refl

pub words_last : (word : List ℕ) → has 32 word ≡ false → words_of word ≡ word ∷ []
words_last word none = words_cut 32 word ∙ rw (cut_none 32 word none) refl
