-- What is written of a node's life has no comments.
use Rattle.std.proofs.Common.{◌≡◌, ℕ, Bool, true, false, cond, List, [], ◌∷◌, refl, sym, ap, ◌∙◌}
use Rattle.std.specs.Prelude.{reverse, flat_map}
use Rattle.std.proofs.lemmas.List.{reverse-reverse}
use Rattle.swim_text.specs.Cutting.{lines_join}
use Rattle.swim_text.specs.Lines.{pieces}
use Rattle.swim_history.specs.declared.entries.Entry.{Entry}
use Rattle.swim_history.specs.declared.rows.Row.{Row}
use Rattle.swim_history.specs.Setting.{Setting}
use Rattle.swim_wire.specs.declared.messages.Version.{Version}
use Rattle.swim_wire.specs.declared.messages.Version.TheVariants.{One, Two}
use Rattle.swim_node.specs.Following.{filings_of}
use Rattle.swim_journal.specs.Comments.{is_comment, uncommented, without_comments}
use Rattle.swim_journal.specs.Headings.{mark_line, open_line, row_line, seed_line, header_text, IsTellable}
use Rattle.swim_journal.specs.Journals.{AreReadBack}
use Rattle.swim_journal.specs.Replays.{lines_in, file_text}
use Rattle.swim_journal.proofs.Commented.{kept, onto_plain}
use Rattle.swim_journal.proofs.FileText.{calls_back, file_lines}
use Rattle.swim_journal.proofs.Headed.{wire_onto, wire_line, rows_onto, newest_lines, newest_are, header_is}
use Rattle.swim_journal.proofs.Tellings.{lines_onto}
use Rattle.swim_journal.proofs.TextLines.{lines_without}
use Rattle.swim_journal.proofs.Uncommented.{uncommented_alike, is_comment_alike}

-- there are no comments among lines
abbrev ArePlain : List (List ℕ) → Type 0
ArePlain lines = uncommented lines ≡ lines

one_more : (before : List (List ℕ)) (line : List ℕ) → ArePlain before → is_comment before line ≡ false →
    ArePlain (line ∷ before)
one_more before line plain not = kept before line not ∙ ap (λ l. line ∷ l) plain

row_plain : (before : List (List ℕ)) (row : Row) → is_comment before (row_line row) ≡ false
row_plain [] row = refl
row_plain (last ∷ before) row = refl

seed_plain : (before : List (List ℕ)) (seed : List ℕ) (life : ℕ) → is_comment before (seed_line seed life) ≡ false
seed_plain [] seed life = refl
seed_plain (last ∷ before) seed life = refl

wire_plain : (before : List (List ℕ)) (version : Version) → ArePlain before → ArePlain (wire_onto version before)
wire_plain before One plain = plain
wire_plain [] Two plain = refl
wire_plain (last ∷ before) Two plain = one_more (last ∷ before) wire_line plain refl

rows_plain : (rows : List Row) (before : List (List ℕ)) → ArePlain before → ArePlain (rows_onto rows before)
rows_plain [] before plain = plain
rows_plain (row ∷ rows) before plain =
    rows_plain rows (row_line row ∷ before) (one_more before (row_line row) plain (row_plain before row))

newest_plain : (o : Setting) (limit : ℕ) (seed : List ℕ) (life : ℕ) → ArePlain (newest_lines o limit seed life)
newest_plain o limit seed life =
    let second = open_line o limit ∷ mark_line ∷ [] in
    let third = wire_onto o.version second in
    let rows = rows_onto o.rows third in
    one_more rows (seed_line seed life) (rows_plain o.rows third (wire_plain second o.version refl))
    (seed_plain rows seed life)

plain_text : (text : List ℕ) → ArePlain (lines_in text) → without_comments text ≡ text
plain_text text plain =
    ap (λ (l : List (List ℕ)). flat_map (λ (line : List ℕ). line) (reverse l)) plain
    ∙ ap (flat_map (λ (line : List ℕ). line)) (reverse-reverse (pieces text))
    ∙ lines_join text

pub file_plain : (o : Setting) (limit : ℕ) (seed : List ℕ) (life : ℕ) (h : List Entry) → IsTellable o limit seed life →
    AreReadBack (filings_of h) →
    without_comments (file_text (header_text o limit seed life) h) ≡ file_text (header_text o limit seed life) h
file_plain o limit seed life h t back =
    let header = header_text o limit seed life in
    let head = header_is o limit seed life t in
    let lines = file_lines header h head.lines (calls_back h back) in
    let plain : ArePlain (lines_in header) =
    ap uncommented (newest_are o limit seed life t) ∙ newest_plain o limit seed life
    ∙ sym (newest_are o limit seed life t) in
    plain_text (file_text header h)
    (ap uncommented lines ∙ onto_plain h (lines_in header) ∙ ap (lines_onto h) plain ∙
    sym lines)

-- ---- nor has a text without them

still_plain : (lines : List (List ℕ)) → ArePlain (uncommented lines)
still_plain [] = refl
still_plain (line ∷ before) = by (is_comment before line) refl (still_plain before)
  where
    by : (c : Bool) → is_comment before line ≡ c → ArePlain (uncommented before) →
        ArePlain (cond c (uncommented before) (line ∷ uncommented before))
    by true is older = older
    by false is older =
        let first = (uncommented_alike before).first in
        one_more (uncommented before) line older
        (sym (is_comment_alike before (uncommented before) line first) ∙ is)

pub plain_again : (text : List ℕ) → without_comments (without_comments text) ≡ without_comments text
plain_again text =
    ap (λ (l : List (List ℕ)). flat_map (λ (line : List ℕ). line) (reverse (uncommented l))) (lines_without text)
    ∙ ap (λ (l : List (List ℕ)). flat_map (λ (line : List ℕ). line) (reverse l)) (still_plain (lines_in text))
