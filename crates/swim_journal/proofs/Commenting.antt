-- Comments are put between whole lines.
use Rattle.std.proofs.Common.{◌≡◌, inl, inr, ℕ, Bool, true, false, cond, List, [], ◌∷◌, ◌++◌, refl, sym, ap, ◌∙◌}
use Rattle.std.proofs.Common.{subst, append_assoc, append-nil}
use mathlib.Core.List.{reverse_aux}
use Rattle.std.specs.Prelude.{◌==◌, reverse, flat_map}
use Rattle.std.specs.List.{onto_first}
use Rattle.std.proofs.lemmas.List.{reverse-append}
use Rattle.std.proofs.lemmas.Grind.{reverse_onto}
use Rattle.swim_text.specs.Cutting.{pieces_at}
use Rattle.swim_text.specs.Lines.{pieces}
use Rattle.swim_journal.specs.Comments.{is_comment, uncommented, without_comments, IsCommentLine, MayComment, EndsLine}
use Rattle.swim_journal.specs.Comments.{IsCommented}

-- ---- a text that ends with a line feed

-- its lines, whatever follows
record IsCut (text : List ℕ) : Type 0 where
  pub first : List ℕ
  pub others : List (List ℕ)
  pub are : (rest : List ℕ) → pieces (text ++ rest) ≡ (first ∷ others) ++ pieces rest

cut_at_end : (front : List ℕ) → IsCut (front ++ 10 ∷ [])
cut_at_end [] = record { first = 10 ∷ []; others = []; are = λ rest. refl }
cut_at_end (b ∷ front) = by (b == 10) (λ xs. refl) (cut_at_end front)
  where
    by : (c : Bool) → ((xs : List ℕ) → pieces (b ∷ xs) ≡ cond c ((b ∷ []) ∷ pieces xs) (onto_first b (pieces xs))) →
        IsCut (front ++ 10 ∷ []) → IsCut (b ∷ (front ++ 10 ∷ []))
    by true cut again = record {
      first = b ∷ [];
      others = again.first ∷ again.others;
      are = λ rest. cut ((front ++ 10 ∷ []) ++ rest) ∙ ap (λ l. (b ∷ []) ∷ l) (again.are rest);
    }
    by false cut again = record {
      first = b ∷ again.first;
      others = again.others;
      are = λ rest. cut ((front ++ 10 ∷ []) ++ rest) ∙ ap (onto_first b) (again.are rest);
    }

-- the same, newest first
record IsBehind (text : List ℕ) : Type 0 where
  pub last : List ℕ
  pub before : List (List ℕ)
  pub are : (rest : List ℕ) → reverse (pieces (text ++ rest)) ≡ reverse (pieces rest) ++ last ∷ before

record IsFilled (lines : List (List ℕ)) : Type 0 where
  pub last : List ℕ
  pub before : List (List ℕ)
  pub is : lines ≡ last ∷ before

filled : (lines : List (List ℕ)) (newest : List ℕ) (before : List (List ℕ)) →
    IsFilled (reverse_aux lines (newest ∷ before))
filled [] newest before = record { last = newest; before = before; is = refl }
filled (line ∷ lines) newest before = filled lines line (newest ∷ before)

behind : (text : List ℕ) → IsCut text → IsBehind text
behind text cut =
    let some = filled cut.others cut.first [] in
    record {
      last = some.last;
      before = some.before;
      are = λ rest. ap reverse (cut.are rest) ∙ reverse-append (cut.first ∷ cut.others) (pieces rest) ∙
          ap (λ l. reverse (pieces rest) ++ l) some.is;
    }

-- ---- a comment behind it

-- whether a line is a comment is the same behind any other
behind_any : (front : List (List ℕ)) (last : List ℕ) (before : List (List ℕ)) (line : List ℕ) →
    is_comment (front ++ last ∷ before) line ≡ is_comment ([] ∷ []) line
behind_any [] last before [] = refl
behind_any [] last before (first ∷ others) = refl
behind_any (newest ∷ front) last before [] = refl
behind_any (newest ∷ front) last before (first ∷ others) = refl

skip : (front : List (List ℕ)) (comment last : List ℕ) (before : List (List ℕ)) →
    is_comment (last ∷ before) comment ≡ true →
    uncommented (front ++ comment ∷ last ∷ before) ≡ uncommented (front ++ last ∷ before)
skip [] comment last before is =
    ap (λ (c : Bool). cond c (uncommented (last ∷ before)) (comment ∷ uncommented (last ∷ before))) is
skip (line ∷ front) comment last before is =
    let older = uncommented (front ++ comment ∷ last ∷ before) in
    let same : is_comment (front ++ comment ∷ last ∷ before) line ≡ is_comment (front ++ last ∷ before) line =
    behind_any front comment (last ∷ before) line ∙ sym (behind_any front last before line) in
    ap (λ (c : Bool). cond c older (line ∷ older)) same
    ∙ ap (λ (l : List (List ℕ)). cond (is_comment (front ++ last ∷ before) line) l (line ∷ l))
    (skip front comment last before is)

comment_piece : (comment rest : List ℕ) → IsCommentLine comment → pieces (comment ++ rest) ≡ comment ∷ pieces rest
comment_piece comment rest c =
    ap (λ (t : List ℕ). pieces (t ++ rest)) c.is
    ∙ ap (λ (t : List ℕ). pieces (35 ∷ t)) (append_assoc c.words (10 ∷ []) rest)
    ∙ pieces_at (35 ∷ c.words) rest c.unfed
    ∙ ap (λ (t : List ℕ). t ∷ pieces rest) (sym c.is)

begins_so : (last : List ℕ) (before : List (List ℕ)) (comment : List ℕ) → IsCommentLine comment →
    is_comment (last ∷ before) comment ≡ true
begins_so last before comment c = ap (is_comment (last ∷ before)) c.is

skipped : (text comment rest : List ℕ) → IsBehind text → IsCommentLine comment →
    without_comments (text ++ (comment ++ rest)) ≡ without_comments (text ++ rest)
skipped text comment rest b c =
    let newest : reverse (pieces (comment ++ rest)) ≡ reverse (pieces rest) ++ comment ∷ [] =
    ap reverse (comment_piece comment rest c) ∙ reverse_onto (pieces rest) comment [] in
    let all : reverse (pieces (text ++ (comment ++ rest))) ≡ reverse (pieces rest) ++ comment ∷ b.last ∷ b.before =
    b.are (comment ++ rest) ∙ ap (λ l. l ++ b.last ∷ b.before) newest ∙
    append_assoc (reverse (pieces rest)) (comment ∷ []) (b.last ∷ b.before) in
    ap (λ (l : List (List ℕ)). flat_map (λ (line : List ℕ). line) (reverse l))
    (ap uncommented all
    ∙ skip (reverse (pieces rest)) comment b.last b.before (begins_so b.last b.before comment c)
    ∙ ap uncommented (sym (b.are rest)))

-- ---- a text that grows

pub none_yet : IsCommented [] []
none_yet = record { same = λ rest. refl }

pub both_grow : (text plain more : List ℕ) → IsCommented text plain → IsCommented (text ++ more) (plain ++ more)
both_grow text plain more is = record {
  same = λ rest. ap without_comments (append_assoc text more rest) ∙ is.same (more ++ rest) ∙
      ap without_comments (sym (append_assoc plain more rest));
}

pub comment_grows : (text plain comment : List ℕ) → IsCommented text plain → EndsLine text → MayComment comment →
    IsCommented (text ++ comment) plain
comment_grows text plain comment is ends (inl none) = record {
  same = λ rest. ap (λ (t : List ℕ). without_comments ((text ++ t) ++ rest)) none
      ∙ ap (λ (t : List ℕ). without_comments (t ++ rest)) (append-nil text) ∙ is.same rest;
}
comment_grows text plain comment is ends (inr c) =
    let cut : IsCut text = subst IsCut (sym ends.is) (cut_at_end ends.front) in
    record {
      same = λ rest. ap without_comments (append_assoc text comment rest)
          ∙ skipped text comment rest (behind text cut) c ∙ is.same rest;
    }

-- where nothing follows
pub same_without : (text plain : List ℕ) → IsCommented text plain → without_comments text ≡ without_comments plain
same_without text plain is =
    ap without_comments (sym (append-nil text)) ∙ is.same [] ∙ ap without_comments (append-nil plain)
