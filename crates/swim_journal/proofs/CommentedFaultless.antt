-- A journal file with comments has no fault, if its header has none and they aren't too long.
use Rattle.std.proofs.Common.{◌≡◌, ℕ, ◌≤◌, List, [], length, None, sym, ap, subst, ◌∙◌, arith}
use Rattle.swim_history.specs.declared.entries.Entry.{Entry}
use Rattle.swim_script.specs.declared.forms.Form.TheVariants.{Journal}
use Rattle.swim_script.specs.Forms.{form_of}
use Rattle.swim_script.specs.Headers.{head_of}
use Rattle.swim_script.specs.Script.{bytes_of, fault_at_end, fault_of, fault_of_header, fault_of_opening}
use Rattle.swim_text.specs.Lines.{pieces}
use Rattle.swim_journal.specs.Comments.{uncommented, AreShort}
use Rattle.swim_journal.specs.Replays.{lines_in, told_by, IsJournalFile, IsFileText}
use Rattle.swim_journal.proofs.Commented.{plain_lines, plain_told, plain_file, text_lines}
use Rattle.swim_journal.proofs.Faultless.{AreFaultless, after_all, none_from, bytes_in, onto_faultless, opening_none}
use Rattle.swim_journal.proofs.Faultless.{end_none}
use Rattle.swim_journal.proofs.FileLines.{IsAt}
use Rattle.swim_journal.proofs.Tellings.{lines_onto, is_some, onto_at}
use Rattle.swim_journal.proofs.Uncommented.{uncommented_alike}
use Rattle.swim_journal.proofs.UncommentedFaults.{header_alike, uncommented_faultless, all_faultless, alike_back}
use Rattle.swim_journal.proofs.UncommentedFaults.{end_alike, fewer_bytes}

pub file_faultless : (header : List ℕ) (h : List Entry) (text : List ℕ) → IsJournalFile header h →
    IsFileText header h text → fault_of header ≡ None → AreShort (lines_in text) → length text ≤ 1073741824 →
    fault_of text ≡ None
file_faultless header h text j same e short fits =
    let f = plain_file header h j in
    let told = plain_told header in
    let lines : uncommented (lines_in text) ≡ lines_onto h (plain_lines header) = text_lines header h text j same in
    let first = after_all (pieces header) [] e tt in
    let head_first : fault_of_header (told_by header) ≡ None = rw j.head.begun at first.1 in
    let head_none : fault_of_header told ≡ None =
    header_alike (told_by header) told (uncommented_alike (lines_in header)).told head_first in
    let opens : fault_of_opening told ≡ None = opening_none told.opened (fault_of_opening told) head_none in
    let bytes : bytes_of (lines_onto h (plain_lines header)) ≤ 1073741824 =
    omega (arith, fits, bytes_in text, fewer_bytes (lines_in text), ap bytes_of lines) in
    let plain = onto_faultless (plain_lines header) told j.start h f opens
    (uncommented_faultless (lines_in header) first.0) bytes in
    let last : IsAt (lines_onto h (plain_lines header)) told (is_some h) =
    onto_at (plain_lines header) told h f.seeded f.at f.back in
    let form : form_of (lines_in text) ≡ Journal =
    (uncommented_alike (lines_in text)).form ∙ ap form_of lines ∙ last.form in
    let all : AreFaultless (lines_in text) =
    all_faultless (lines_in text) form (omega (arith, fits, bytes_in text)) short
    (subst AreFaultless (sym lines) plain) in
    let end : fault_at_end (head_of (uncommented (lines_in text))) ≡ None =
    ap (λ (l : List (List ℕ)). fault_at_end (head_of l)) lines ∙ ap fault_at_end last.head ∙
    end_none told (is_some h) head_none in
    none_from (pieces text) [] all
    (end_alike (uncommented (lines_in text)) (lines_in text) (alike_back (lines_in text)) end)
