-- The lines of a journal file are those of its header, and two of each call.
use Rattle.std.proofs.Common.{◌≡◌, ℕ, List, [], ◌∷◌, ◌++◌, length, refl, sym, ap, ◌∙◌, append_assoc, append-nil}
use Rattle.std.specs.Prelude.{reverse}
use Rattle.std.proofs.lemmas.List.{reverse-append, reverse-reverse}
use Rattle.std.proofs.lemmas.Grind.{reverse_onto}
use Rattle.swim_text.specs.Lines.{pieces}
use Rattle.swim_history.specs.declared.entries.Entry.{Entry}
use Rattle.swim_node.specs.Cells.{Filing}
use Rattle.swim_node.specs.Following.{filing_of, filings_of}
use Rattle.swim_journal.specs.Lines.{call_line, answer_line}
use Rattle.swim_journal.specs.Journals.{kept_text, calls_text, AreReadBack}
use Rattle.swim_journal.specs.Replays.{lines_in, file_text}
use Rattle.swim_journal.proofs.FileLines.{answer_piece}
use Rattle.swim_journal.proofs.More.{calls_more, back_parts}
use Rattle.swim_journal.proofs.Tellings.{lines_onto, CallsReadBack}

pub calls_back : (h : List Entry) → AreReadBack (filings_of h) → CallsReadBack h
calls_back [] back = tt
calls_back (x ∷ h) back = let parts = back_parts (filings_of h) (filing_of h x ∷ []) back in
    (parts.1.0, calls_back h parts.0)

text_lines : (h : List Entry) (rest : List ℕ) → CallsReadBack h →
    pieces (calls_text (filings_of h) ++ rest) ≡ reverse (lines_onto h []) ++ pieces rest
text_lines [] rest back = refl
text_lines (x ∷ h) rest back =
    let f : Filing = filing_of h x in
    let older = reverse (lines_onto h []) in
    let call = call_line x.call in
    let answer = answer_line (length h) x.reply in
    let newest : pieces (kept_text f.kept ++ rest) ≡ call ∷ answer ∷ pieces rest =
    ap pieces (append_assoc call answer rest) ∙ back.0.line (answer ++ rest) ∙
    ap (λ l. call ∷ l) (answer_piece (length h) x.reply rest) in
    ap (λ t. pieces (t ++ rest)) (calls_more (filings_of h) f)
    ∙ ap pieces (append_assoc (calls_text (filings_of h)) (kept_text f.kept) rest)
    ∙ text_lines h (kept_text f.kept ++ rest) back.1
    ∙ ap (λ l. older ++ l) newest
    ∙ sym (append_assoc older (call ∷ answer ∷ []) (pieces rest))
    ∙ ap (λ l. l ++ pieces rest) (sym (reverse_onto (lines_onto h []) call (answer ∷ [])))

onto_none : (h : List Entry) (before : List (List ℕ)) → lines_onto h [] ++ before ≡ lines_onto h before
onto_none [] before = refl
onto_none (x ∷ h) before = ap (λ l. answer_line (length h) x.reply ∷ call_line x.call ∷ l) (onto_none h before)

pub file_lines : (header : List ℕ) (h : List Entry) →
    ((rest : List ℕ) → pieces (header ++ rest) ≡ pieces header ++ pieces rest) → CallsReadBack h →
    lines_in (file_text header h) ≡ lines_onto h (lines_in header)
file_lines header h lines back =
    let text = calls_text (filings_of h) in
    let all : pieces text ≡ reverse (lines_onto h []) = ap pieces (sym (append-nil text)) ∙ text_lines h [] back ∙
    append-nil (reverse (lines_onto h [])) in
    ap reverse (lines text ∙ ap (λ l. pieces header ++ l) all)
    ∙ reverse-append (pieces header) (reverse (lines_onto h []))
    ∙ ap (λ l. l ++ lines_in header) (reverse-reverse (lines_onto h []))
    ∙ onto_none h (lines_in header)
