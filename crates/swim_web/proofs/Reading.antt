-- Rows that are read back.
use Rattle.std.proofs.Common.{◌≡◌, ℕ, List, [], ◌∷◌, ◌++◌, Some, codes, sym, ap, ◌∙◌, append_assoc}
use Rattle.std.proofs.Common.{append-nil}
use Rattle.std.specs.Prelude.{decimal}
use Rattle.swim_text.specs.Parts.{cut, cut_joined}
use Rattle.swim_wire.specs.Address.{Address, address_text}
use Rattle.swim_history.specs.Texts.{feed, row_text, rows_text, state_text}
use Rattle.swim_history.specs.declared.rows.Row.{Row}
use Rattle.swim_history.specs.declared.rows.RowState.{RowState}

-- the line of a failed member's state
pub failed_is : (text word number : List ℕ) (n : ℕ) → cut 32 text ≡ Some (word, number) → word ≡ codes "failed" →
    number ≡ decimal n → 32 ∷ text ≡ codes " failed " ++ decimal n
failed_is text word number n parts is value =
    ap (λ t. 32 ∷ t)
    (cut_joined 32 text (word, number) parts
    ∙ ap (λ w. w ++ 32 ∷ number) is ∙ ap (λ d. codes "failed" ++ 32 ∷ d) value)

-- the line of a row
pub row_is : (line id rest peer state : List ℕ) (i : ℕ) (p : Address) (s : RowState) → cut 32 line ≡ Some (id, rest) →
    cut 32 rest ≡ Some (peer, state) → id ≡ decimal i → peer ≡ address_text p → 32 ∷ state ≡ state_text s →
    line ++ feed ≡ row_text (record { id = i; peer = p; state = s })
row_is line id rest peer state i p s first second id_is peer_is state_is =
    let whole : line ≡ decimal i ++ 32 ∷ (address_text p ++ state_text s) =
    cut_joined 32 line (id, rest) first ∙ ap (λ t. t ++ 32 ∷ rest) id_is
    ∙ ap (λ r. decimal i ++ 32 ∷ r)
    (cut_joined 32 rest (peer, state) second ∙ ap (λ t. t ++ 32 ∷ state) peer_is
    ∙ ap (λ t. address_text p ++ t) state_is) in
    ap (λ t. t ++ feed) whole
    ∙ append_assoc (decimal i) (32 ∷ (address_text p ++ state_text s)) feed
    ∙ ap (λ t. decimal i ++ 32 ∷ t) (append_assoc (address_text p) (state_text s) feed)

rows_more : (rows : List Row) (r : Row) → rows_text (rows ++ r ∷ []) ≡ rows_text rows ++ row_text r
rows_more [] r = append-nil (row_text r)
rows_more (x ∷ rows) r =
    ap (λ t. row_text x ++ t) (rows_more rows r) ∙ sym (append_assoc (row_text x) (rows_text rows) (row_text r))

-- one row more of an answer
pub one_more_row : (answer rest line after : List ℕ) (rows : List Row) (r : Row) → answer ≡ rows_text rows ++ rest →
    cut 10 rest ≡ Some (line, after) → line ++ feed ≡ row_text r → answer ≡ rows_text (rows ++ r ∷ []) ++ after
one_more_row answer rest line after rows r taken parts is =
    taken
    ∙ ap (λ t. rows_text rows ++ t)
    (cut_joined 10 rest (line, after) parts ∙ sym (append_assoc line feed after) ∙ ap (λ t. t ++ after) is)
    ∙ sym (append_assoc (rows_text rows) (row_text r) after) ∙ ap (λ t. t ++ after) (sym (rows_more rows r))
