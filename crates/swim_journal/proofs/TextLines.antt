-- A text without its comments has the lines that are left.
use Rattle.std.proofs.Common.{◌≡◌, ℕ, Bool, true, false, cond, List, [], ◌∷◌, ◌++◌, refl, sym, ap, ◌∙◌, append-nil}
use mathlib.Core.List.{reverse_aux}
use Rattle.std.specs.Prelude.{◌==◌, reverse, flat_map}
use Rattle.std.specs.List.{onto_first}
use Rattle.std.proofs.lemmas.List.{reverse-reverse}
use Rattle.swim_text.specs.Lines.{pieces}
use Rattle.swim_journal.specs.Comments.{is_comment, uncommented, without_comments}
use Rattle.swim_journal.specs.Replays.{lines_in}

-- a line with its line feed
abbrev pub IsWhole : List ℕ → Type 0
IsWhole line = (rest : List ℕ) → pieces (line ++ rest) ≡ line ∷ pieces rest

abbrev pub AreWhole : List (List ℕ) → Type 0
AreWhole [] = Unit {0}
AreWhole (line ∷ lines) = IsWhole line × AreWhole lines

abbrev IsOne : List ℕ → Type 0
IsOne line = pieces line ≡ line ∷ []

one_whole : (line : List ℕ) → IsWhole line → IsOne line
one_whole line whole = ap pieces (sym (append-nil line)) ∙ whole []

-- ---- the lines of a text, oldest first

-- each but the last has its line feed
abbrev AreInText : List (List ℕ) → Type 0
AreInText [] = Unit {0}
AreInText (line ∷ []) = IsOne line
AreInText (line ∷ next ∷ more) = IsWhole line × AreInText (next ∷ more)

in_text : (text : List ℕ) → AreInText (pieces text)
in_text [] = tt
in_text (b ∷ text) = by (b == 10) (pieces text) (λ xs. refl) (in_text text)
  where
    by : (c : Bool) (lines : List (List ℕ)) →
        ((xs : List ℕ) → pieces (b ∷ xs) ≡ cond c ((b ∷ []) ∷ pieces xs) (onto_first b (pieces xs))) →
        AreInText lines → AreInText (cond c ((b ∷ []) ∷ lines) (onto_first b lines))
    by true [] cut all = cut []
    by true (line ∷ lines) cut all = (cut, all)
    by false [] cut all = cut []
    by false (line ∷ []) cut all = cut line ∙ ap (onto_first b) all
    by false (line ∷ next ∷ lines) cut all = (λ rest. cut (line ++ rest) ∙ ap (onto_first b) (all.0 rest), all.1)

-- ---- newest first

-- the newest may have no line feed
abbrev AreLines : List (List ℕ) → Type 0
AreLines [] = Unit {0}
AreLines (last ∷ before) = IsOne last × AreWhole before

whole_are : (lines : List (List ℕ)) → AreWhole lines → AreLines lines
whole_are [] all = tt
whole_are (last ∷ before) all = (one_whole last all.0, all.1)

onto : (lines before : List (List ℕ)) → AreInText lines → AreWhole before → AreLines (reverse_aux lines before)
onto [] before all whole = whole_are before whole
onto (line ∷ []) before all whole = (all, whole)
onto (line ∷ next ∷ more) before all whole = onto (next ∷ more) (line ∷ before) all.1 (all.0, whole)

-- without comments they are still such lines
whole_still : (lines : List (List ℕ)) → AreWhole lines → AreWhole (uncommented lines)
whole_still [] all = tt
whole_still (line ∷ before) all = by (is_comment before line) (whole_still before all.1)
  where
    by : (c : Bool) → AreWhole (uncommented before) → AreWhole (cond c (uncommented before) (line ∷ uncommented before))
    by true older = older
    by false older = (all.0, older)

are_still : (lines : List (List ℕ)) → AreLines lines → AreLines (uncommented lines)
are_still [] all = tt
are_still (line ∷ before) all = by (is_comment before line) (whole_still before all.1)
  where
    by : (c : Bool) → AreWhole (uncommented before) → AreLines (cond c (uncommented before) (line ∷ uncommented before))
    by true older = whole_are (uncommented before) older
    by false older = (all.0, older)

-- lines, one after another, have the lines that they are
joined : (before more : List (List ℕ)) → AreWhole before → pieces (flat_map (λ (l : List ℕ). l) more) ≡ more →
    pieces (flat_map (λ (l : List ℕ). l) (reverse_aux before more)) ≡ reverse_aux before more
joined [] more all e = e
joined (line ∷ before) more all e =
    joined before (line ∷ more) all.1 (all.0 (flat_map (λ (l : List ℕ). l) more) ∙ ap (λ l. line ∷ l) e)

again : (lines : List (List ℕ)) → AreLines lines →
    pieces (flat_map (λ (l : List ℕ). l) (reverse lines)) ≡ reverse lines
again [] all = refl
again (last ∷ before) all = joined before (last ∷ []) all.1 (ap pieces (append-nil last) ∙ all.0)

pub lines_without : (text : List ℕ) → lines_in (without_comments text) ≡ uncommented (lines_in text)
lines_without text =
    ap reverse
    (again (uncommented (lines_in text)) (are_still (lines_in text) (onto (pieces text) [] (in_text text) tt)))
    ∙ reverse-reverse (uncommented (lines_in text))

-- texts that are the same but for comments have the same lines but for comments
pub same_lines : (text file : List ℕ) → without_comments text ≡ without_comments file →
    uncommented (lines_in text) ≡ uncommented (lines_in file)
same_lines text file e = sym (lines_without text) ∙ ap lines_in e ∙ lines_without file
