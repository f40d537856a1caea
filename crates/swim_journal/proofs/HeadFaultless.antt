-- The header that is written for an opening has no fault.
use Rattle.std.proofs.Common.{◌≡◌, ℕ, ◌+◌, ◌*◌, ◌≤◌, Bool, false, List, [], ◌∷◌, ◌++◌, length, Option, None, refl, sym}
use Rattle.std.proofs.Common.{ap, subst, ◌∙◌, arith, length-append}
use Rattle.std.specs.List.{join_with_byte}
use Rattle.hex.specs.Hex.{lower_digits, IsBytes}
use Rattle.hex.proofs.HexLemmas.{length-encode_with}
use Rattle.swim_wire.specs.Address.{IsAddress}
use Rattle.swim_text.specs.Lines.{pieces, bare}
use Rattle.swim_history.specs.Laws.Check.{no_fault as no_opening_fault}
use Rattle.swim_wire.specs.declared.messages.Version.{Version}
use Rattle.swim_wire.specs.declared.messages.Version.TheVariants.{One, Two}
use Rattle.swim_history.specs.Setting.{Setting}
use Rattle.swim_history.specs.Texts.{feed}
use Rattle.swim_history.specs.declared.rows.Row.{Row}
use Rattle.swim_history.specs.declared.rows.RowState.{RowState}
use Rattle.swim_history.specs.declared.rows.RowState.TheVariants.{Up, Failed}
use Rattle.swim_history.specs.declared.openings.OpeningFault.{OpeningFault}
use Rattle.swim_history.specs.declared.entries.Entry.{Entry}
use Rattle.swim_node.specs.Following.{filings_of}
use Rattle.swim_targets.specs.Draws.{of_seed}
use Rattle.swim_script.specs.declared.arguments.Opened.{Opened}
use Rattle.swim_script.specs.declared.commands.Command.TheVariants.{Open, Row as RowLine, Seed, Wire}
use Rattle.swim_script.specs.Headers.{Head, head_of}
use Rattle.swim_script.specs.Script.{bytes_of, fault_at, fault_at_end, fault_of, fault_of_command, are_past, kind_with}
use Rattle.swim_script.specs.Script.{opening_at}
use Rattle.swim_journal.specs.Headings.{mark_line, open_line, row_line, seed_line, header_text, AreTellable, IsTellable}
use Rattle.swim_journal.specs.Journals.{AreReadBack}
use Rattle.swim_journal.specs.Replays.{IsDrawnRun, IsJournalFile}
use Rattle.swim_journal.proofs.Faultless.{AreFaultless, none_from, no_fault}
use Rattle.swim_journal.proofs.FileLines.{IsAt}
use Rattle.swim_journal.proofs.Headed.{open_words, open_plain, state_words, row_words, row_plain, row_is, seed_words}
use Rattle.swim_journal.proofs.Headed.{seed_plain, opened_by, told_with, wire_line, wire_told, wire_onto, wire_said}
use Rattle.swim_journal.proofs.Headed.{wire_at, rows_onto, open_said, open_at, row_said, row_at, rows_at, seed_said}
use Rattle.swim_journal.proofs.Headed.{newest_lines, newest_are, header_at, header_is}
use Rattle.swim_journal.proofs.Short.{number_short, address_short}
use Rattle.swim_journal.proofs.WordLines.{ArePlain, words_onto, line_bare}

-- ---- how long lines are

abbrev total : List (List ℕ) → ℕ
total [] = 0
total (word ∷ words) = length word + 1 + total words

onto_short : (words : List (List ℕ)) (after : List ℕ) → length (words_onto words after) ≤ total words + length after
onto_short [] after = omega arith
onto_short (word ∷ []) after = omega (arith, length-append word after)
onto_short (word ∷ next ∷ words) after =
    omega (arith, length-append word (32 ∷ words_onto (next ∷ words) after), onto_short (next ∷ words) after)

joined_short : (words : List (List ℕ)) → length (join_with_byte 32 words) ≤ total words
joined_short [] = omega arith
joined_short (word ∷ []) = omega arith
joined_short (word ∷ next ∷ words) =
    omega (arith, length-append word (32 ∷ join_with_byte 32 (next ∷ words)), joined_short (next ∷ words))

-- a line of words within so many bytes
record IsShort (line : List ℕ) : Type 0 where
  pub whole : length line ≤ 600
  pub bare : length (bare line) ≤ 2048

words_short : (words : List (List ℕ)) → ArePlain words → total words ≤ 599 → IsShort (words_onto words feed)
words_short words plain few = record {
  whole = omega (arith, onto_short words feed, few);
  bare = omega (arith, ap length (line_bare words plain), joined_short words, few);
}

open_short : (o : Setting) (limit : ℕ) → IsShort (open_line o limit)
open_short o limit =
    words_short (open_words o limit) (open_plain o limit)
    (omega (
      arith,
      number_short o.me,
      number_short o.k,
      number_short o.rtt,
      number_short o.period,
      number_short o.last,
      number_short limit,
    ))

state_short : (state : RowState) → total (state_words state) ≤ 100
state_short Up = omega arith
state_short (Failed number) = omega (arith, number_short number)

row_short : (row : Row) → IsAddress row.peer → IsShort (row_line row)
row_short row is =
    subst IsShort (sym (row_is row))
    (words_short (row_words row) (row_plain row)
    (omega (arith, number_short row.id, address_short row.peer is, state_short row.state)))

seed_short : (seed : List ℕ) (life : ℕ) → length seed ≡ 32 → IsBytes seed → IsShort (seed_line seed life)
seed_short seed life long bytes =
    words_short (seed_words seed life) (seed_plain seed life bytes)
    (omega (arith, number_short life, length-encode_with lower_digits seed, long))

rows_bytes : (rows : List Row) (before : List (List ℕ)) → AreTellable rows →
    bytes_of (rows_onto rows before) ≤ 600 * length rows + bytes_of before
rows_bytes [] before all = omega arith
rows_bytes (row ∷ rows) before all =
    let short = row_short row all.1 in omega (arith, rows_bytes rows (row_line row ∷ before) all.3, short.whole)

-- ---- the lines

rows_faultless : (before : List (List ℕ)) (opened : Opened) (wire : Option Version) (known : List Row)
    (rows : List Row) → IsAt before (told_with opened wire known None) false → AreTellable rows → AreFaultless before →
    600 * length rows + bytes_of before ≤ 1000000 → AreFaultless (rows_onto rows before)
rows_faultless before opened wire known [] at all before-is fits = before-is
rows_faultless before opened wire known (row ∷ rows) at all before-is fits =
    let short = row_short row all.1 in
    let here : fault_at before (row_line row) ≡ None =
    no_fault before (row_line row) (RowLine row) at.form (omega (arith, short.whole, fits)) short.bare
    (row_said before opened wire known row at (all.0, all.1, all.2))
    (ap (λ (head : Head). fault_of_command head (RowLine row)) at.head) in
    rows_faultless (row_line row ∷ before) opened wire (known ++ row ∷ []) rows
    (row_at before opened wire known row at (all.0, all.1, all.2)) all.3 (here, before-is)
    (omega (arith, short.whole, fits))

-- the line of a version has no fault, and few bytes
wire_faultless : (before : List (List ℕ)) (opened : Opened) (version : Version) →
    IsAt before (told_with opened None [] None) false → AreFaultless before → bytes_of before ≤ 1000 →
    AreFaultless (wire_onto version before) × (bytes_of (wire_onto version before) ≤ 7 + bytes_of before)
wire_faultless before opened One at before-is few = (before-is, omega arith)
wire_faultless before opened Two at before-is few =
    let here : fault_at before wire_line ≡ None =
    no_fault before wire_line (Wire Two) at.form (omega (arith, few)) (omega arith) (wire_said before opened at)
    (ap (λ (head : Head). fault_of_command head (Wire Two)) at.head) in
    ((here, before-is), omega arith)

pub header_faultless : (o : Setting) (limit : ℕ) (seed : List ℕ) (life : ℕ) → IsTellable o limit seed life →
    fault_of (header_text o limit seed life) ≡ None
header_faultless o limit seed life t =
    let opened : Opened = record { line = 2; arguments = opened_by o limit } in
    let first = mark_line ∷ [] in
    let second = open_line o limit ∷ mark_line ∷ [] in
    let opening_short = open_short o limit in
    let last_short = seed_short seed life t.key.0 t.key.1 in
    let open_none : fault_at first (open_line o limit) ≡ None =
    no_fault first (open_line o limit) (Open (opened_by o limit)) refl (omega (arith, opening_short.whole))
    opening_short.bare (open_said o limit seed life t) refl in
    let opens = open_at o limit seed life t in
    let wire = wire_told o.version in
    let third = wire_onto o.version second in
    let wired = wire_at second opened o.version opens in
    let version = wire_faultless second opened o.version opens (open_none, (refl, tt))
    (omega (arith, opening_short.whole)) in
    let few : 600 * length o.rows + bytes_of third ≤ 1000000 =
    omega (arith, version.1, opening_short.whole, t.setting.rows) in
    let rows = rows_faultless third opened wire [] o.rows wired t.rows version.0 few in
    let at = rows_at third opened wire [] o.rows wired t.rows in
    let seed_none : fault_at (rows_onto o.rows third) (seed_line seed life) ≡ None =
    no_fault (rows_onto o.rows third) (seed_line seed life) (Seed seed life) at.form
    (omega (arith, last_short.whole, rows_bytes o.rows third t.rows, few)) last_short.bare
    (seed_said (rows_onto o.rows third) opened wire o.rows seed life at t.key.0 t.key.1 t.numbers.1)
    (ap (λ (head : Head). fault_of_command head (Seed seed life)) at.head) in
    let newest = newest_are o limit seed life t in
    let last = header_at o limit seed life t in
    let ending : fault_at_end (head_of (newest_lines o limit seed life)) ≡ None =
    ap fault_at_end last.head ∙
    ap (λ (first : Option OpeningFault). opening_at 2 (kind_with first (are_past o.last o.rows)))
    (no_opening_fault o t.setting)
    ∙ ap (λ (past : Bool). opening_at 2 (kind_with None past)) t.setting.states in
    none_from (pieces (header_text o limit seed life)) [] (subst AreFaultless (sym newest) (seed_none, rows))
    (ap (λ (l : List (List ℕ)). fault_at_end (head_of l)) newest ∙ ending)

-- behind it the text of a drawn run makes a journal file
pub header_file : (o : Setting) (limit : ℕ) (seed : List ℕ) (life : ℕ) (h : List Entry) → IsTellable o limit seed life →
    IsDrawnRun o (record (of_seed seed) { stream = life }) h → length h ≤ limit → AreReadBack (filings_of h) →
    IsJournalFile (header_text o limit seed life) h
header_file o limit seed life h t run within back = record {
  opening = o;
  limit = limit;
  start = record (of_seed seed) { stream = life };
  head = header_is o limit seed life t;
  run = run;
  within = (within, t.numbers.0);
  back = back;
}
