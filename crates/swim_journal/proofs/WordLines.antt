-- Lines of words with a space between them.
use Rattle.std.proofs.Common.{◌≡◌, ℕ, false, List, [], ◌∷◌, ◌++◌, refl, sym, ap, ◌∙◌, append_assoc}
use Rattle.std.specs.List.{join_with_byte}
use Rattle.swim_text.specs.Cutting.{pieces_at, bare_at}
use Rattle.swim_text.specs.Lines.{pieces, bare, has_feed}
use Rattle.swim_text.specs.Parts.{has}
use Rattle.swim_text.specs.Without.{both_without}
use Rattle.swim_text.specs.Words.{words_of}
use Rattle.swim_text.specs.WordLaws.{words_at, words_last}
use Rattle.swim_history.specs.Texts.{feed}

-- no word has a space or a line feed
abbrev pub ArePlain : List (List ℕ) → Type 0
ArePlain [] = Unit {0}
ArePlain (word ∷ words) = (has 32 word ≡ false) × (has 10 word ≡ false) × ArePlain words

-- the words before a text
abbrev pub words_onto : List (List ℕ) → List ℕ → List ℕ
words_onto [] after = after
words_onto (word ∷ []) after = word ++ after
words_onto (word ∷ next ∷ words) after = word ++ (32 ∷ words_onto (next ∷ words) after)

onto_is : (words : List (List ℕ)) (after : List ℕ) → join_with_byte 32 words ++ after ≡ words_onto words after
onto_is [] after = refl
onto_is (word ∷ []) after = refl
onto_is (word ∷ next ∷ words) after =
    append_assoc word (32 ∷ join_with_byte 32 (next ∷ words)) after ∙
    ap (λ l. word ++ (32 ∷ l)) (onto_is (next ∷ words) after)

pub words_again : (word : List ℕ) (words : List (List ℕ)) → ArePlain (word ∷ words) →
    words_of (join_with_byte 32 (word ∷ words)) ≡ word ∷ words
words_again word [] plain = words_last word plain.0
words_again word (next ∷ words) plain =
    words_at word (join_with_byte 32 (next ∷ words)) plain.0 ∙ ap (λ l. word ∷ l) (words_again next words plain.2)

no_feed : (words : List (List ℕ)) → ArePlain words → has_feed (join_with_byte 32 words) ≡ false
no_feed [] plain = refl
no_feed (word ∷ []) plain = plain.1
no_feed (word ∷ next ∷ words) plain =
    both_without 10 word (32 ∷ join_with_byte 32 (next ∷ words)) plain.1 (no_feed (next ∷ words) plain.2)

pub line_piece : (words : List (List ℕ)) (rest : List ℕ) → ArePlain words →
    pieces (words_onto words feed ++ rest) ≡ words_onto words feed ∷ pieces rest
line_piece words rest plain =
    ap (λ l. pieces (l ++ rest)) (sym (onto_is words feed))
    ∙ ap (λ l. pieces l) (append_assoc (join_with_byte 32 words) feed rest)
    ∙ pieces_at (join_with_byte 32 words) rest (no_feed words plain)
    ∙ ap (λ l. l ∷ pieces rest) (onto_is words feed)

pub line_bare : (words : List (List ℕ)) → ArePlain words → bare (words_onto words feed) ≡ join_with_byte 32 words
line_bare words plain = ap (λ l. bare l) (sym (onto_is words feed)) ∙
    bare_at (join_with_byte 32 words) (no_feed words plain)
