-- Rows that are the same, one after the other.
use Rattle.std.proofs.Common.{◌≡◌, ℕ, suc, ◌+◌, ◌<◌, List, [], ◌∷◌, ◌++◌, length, take, sym, ap, ◌∙◌, arith}
use Rattle.std.specs.List.{slice_index_or}
use Rattle.std.proofs.Math.Seq.{take-suc}
use Rattle.swim_history.specs.declared.rows.Row.{Row}

pub one_row_more : (xs ys : List Row) (i : ℕ) (x y : Row) → i < length xs → i < length ys → x ≡ slice_index_or xs i x →
    y ≡ slice_index_or ys i y → x ≡ y → take i xs ≡ take i ys → take (i + 1) xs ≡ take (i + 1) ys
one_row_more xs ys i x y in_xs in_ys at_xs at_ys same so =
    let e : i + 1 ≡ suc i = omega arith in
    ap (λ n. take n xs) e ∙ take-suc xs i x in_xs ∙ ap (λ z. take i xs ++ z ∷ []) (sym at_xs)
    ∙ (ap (λ l. l ++ x ∷ []) so ∙ ap (λ z. take i ys ++ z ∷ []) same)
    ∙ sym (ap (λ n. take n ys) e ∙ take-suc ys i y in_ys ∙ ap (λ z. take i ys ++ z ∷ []) (sym at_ys))
