-- Lists of words and of lines, one after another.
use Rattle.std.proofs.Common.{◌≡◌, ℕ, suc, ◌<◌, ◌+◌, ◌==◌, ◌&&◌, Bor, true, false, List, [], ◌∷◌, ◌++◌, length, map}
use Rattle.std.proofs.Common.{take}
use Rattle.std.proofs.Common.{slice_index_or, take-suc, refl, sym, ap, ◌∙◌, arith}
use Rattle.std.proofs.lemmas.Bool.{ne_eqb, or_from}
use Rattle.std.proofs.lemmas.List.{map-append}
use Rattle.std.proofs.lemmas.List.Folds.{list_any-append, list_any_at}
use Rattle.std.specs.List.{list_any}
use Rattle.clap.proofs.WalkLemmas.{list_any-map}
use Rattle.swim_text.specs.Lines.{has_feed}
use Rattle.swim_commands.specs.Answers.{is_over}

-- a list that begins with something isn't empty
not_empty : {A : Type 0} (x : A) (xs : List A) → (length (x ∷ xs) == 0) ≡ false
not_empty x xs = ne_eqb (length (x ∷ xs)) 0 (λ e. omega (arith, e))

pub over_is : (rest : List ℕ) (lines : List (List ℕ)) →
    is_over (rest ∷ lines) ≡ ((length rest == 0) && (length lines == 0))
over_is [] [] = refl
over_is [] (line ∷ lines) = rw (not_empty line lines) refl
over_is (byte ∷ rest) lines = rw (not_empty byte rest) refl

-- ---- words

abbrev pub texts_of : List (Bor (List ℕ)) → List (List ℕ)
texts_of words = map (λ (word : Bor (List ℕ)). word.now) words

-- the words up to the next one
pub next_word : (words : List (Bor (List ℕ))) (index : ℕ) (default : Bor (List ℕ)) (text : List ℕ) →
    index < length words →
    text ≡ (slice_index_or words index default).now →
    texts_of (take (index + 1) words) ≡ texts_of (take index words) ++ text ∷ []
next_word words index default text within at =
    let next : index + 1 ≡ suc index = omega arith in
    ap texts_of (ap (λ k. take k words) next ∙ take-suc words index default within)
    ∙ map-append (λ (word : Bor (List ℕ)). word.now) (take index words) (slice_index_or words index default ∷ [])
    ∙ ap (λ t. texts_of (take index words) ++ t ∷ []) (sym at)

-- no line feed is in one word more
pub none_more : (words : List (Bor (List ℕ))) (index : ℕ) (default : Bor (List ℕ)) (text : List ℕ) →
    index < length words →
    text ≡ (slice_index_or words index default).now → list_any has_feed (texts_of (take index words)) ≡ false →
    has_feed text ≡ false → list_any has_feed (texts_of (take (index + 1) words)) ≡ false
none_more words index default text within at none free =
    ap (list_any has_feed) (next_word words index default text within at)
    ∙ list_any-append has_feed (texts_of (take index words)) (text ∷ []) ∙ or_from _ _ none (or_from _ _ free refl)

-- one is in this word
pub one_found : (words : List (Bor (List ℕ))) (index : ℕ) (default : Bor (List ℕ)) (text : List ℕ) →
    index < length words →
    text ≡ (slice_index_or words index default).now → has_feed text ≡ true → list_any has_feed (texts_of words) ≡ true
one_found words index default text within at has =
    sym (list_any-map has_feed (λ (word : Bor (List ℕ)). word.now) words)
    ∙ list_any_at (λ (word : Bor (List ℕ)). has_feed word.now) words index default within (ap has_feed (sym at) ∙ has)
