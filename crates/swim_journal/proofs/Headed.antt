-- The header that is written for an opening is the header of a journal file.
use Rattle.std.proofs.Common.{◌≡◌, ℕ, ◌<◌, ◌^◌, Bool, false, List, [], ◌∷◌, ◌++◌, length, map, Option, Some, None}
use Rattle.std.proofs.Common.{codes, decimal, refl, sym, ap, subst, ◌∙◌, arith, append_assoc, append-nil}
use mathlib.Core.List.{reverse_aux}
use Rattle.std.specs.Prelude.{reverse, is_some}
use Rattle.std.proofs.lemmas.Fmt.{decimal_digit}
use Rattle.hex.specs.Hex.{encode_lower, IsBytes}
use Rattle.hex.proofs.HexLemmas.{decode_sized-encode_lower}
use Rattle.swim_targets.specs.Draws.{of_seed}
use Rattle.swim_wire.specs.Address.{Address, IsAddress, address_text}
use Rattle.swim_wire.specs.AddressLaws.{address_read}
use Rattle.swim_wire.specs.AddressWithout.{address_without}
use Rattle.swim_text.specs.Cutting.{pieces_at}
use Rattle.swim_text.specs.Lines.{pieces, bare}
use Rattle.swim_text.specs.Numbers.{number_of, number_read, positive_read}
use Rattle.swim_text.specs.Without.{number_without}
use Rattle.swim_wire.specs.declared.messages.Version.{Version}
use Rattle.swim_wire.specs.declared.messages.Version.TheVariants.{One, Two}
use Rattle.swim_history.specs.Setting.{Setting}
use Rattle.swim_history.specs.Texts.{feed}
use Rattle.swim_history.specs.declared.rows.Row.{Row}
use Rattle.swim_history.specs.declared.rows.RowState.{RowState}
use Rattle.swim_history.specs.declared.rows.RowState.TheVariants.{Up, Failed}
use Rattle.swim_script.specs.declared.arguments.OpenArguments.{OpenArguments}
use Rattle.swim_script.specs.declared.arguments.Opened.{Opened}
use Rattle.swim_script.specs.declared.commands.Command.{Command}
use Rattle.swim_script.specs.declared.commands.Command.TheVariants.{Open, Row as RowLine, Seed, Wire}
use Rattle.swim_script.specs.declared.commands.Draws.TheVariants.{Unsaid, Seeded}
use Rattle.swim_script.specs.declared.commands.Stage.{Stage}
use Rattle.swim_script.specs.declared.commands.Stage.TheVariants.{Blank, Header}
use Rattle.swim_script.specs.declared.forms.Form.TheVariants.{Journal}
use Rattle.swim_script.specs.Arguments.{open_arguments, seed_of}
use Rattle.swim_script.specs.Commands.{line_read, words_read, said_by, command_after}
use Rattle.swim_script.specs.Forms.{form_of}
use Rattle.swim_script.specs.Headers.{Told, Head, head_of, stage_of, command_in, said, setting_in, limit_in, chooser_in}
use Rattle.swim_script.specs.Headers.{version_with}
use Rattle.swim_journal.specs.Headings.{mark_line, open_line, wire_text, row_line, row_lines, seed_line, header_text}
use Rattle.swim_journal.specs.Headings.{IsState, AreTellable, IsTellable}
use Rattle.swim_journal.specs.Lines.{IsId}
use Rattle.swim_journal.specs.Replays.{lines_in, IsHeader}
use Rattle.swim_journal.proofs.FileLines.{IsAt, said_in, still_journal}
use Rattle.swim_journal.proofs.Without.{hex_without}
use Rattle.swim_journal.proofs.WordLines.{ArePlain, words_onto, words_again, line_piece, line_bare}

-- ---- the words of lines

abbrev pub open_words : Setting → ℕ → List (List ℕ)
open_words o limit =
    codes "open" ∷ decimal o.me ∷ decimal o.k ∷ decimal o.rtt ∷ decimal o.period ∷ decimal o.last ∷ decimal limit ∷ []

number_then : (n : ℕ) (words : List (List ℕ)) → ArePlain words → ArePlain (decimal n ∷ words)
number_then n words plain = (number_without 32 n (omega arith), number_without 10 n (omega arith), plain)

pub open_plain : (o : Setting) (limit : ℕ) → ArePlain (open_words o limit)
open_plain o limit = (
  refl,
  refl,
  number_then o.me (decimal o.k ∷ decimal o.rtt ∷ decimal o.period ∷ decimal o.last ∷ decimal limit ∷ [])
      (number_then o.k (decimal o.rtt ∷ decimal o.period ∷ decimal o.last ∷ decimal limit ∷ [])
      (number_then o.rtt (decimal o.period ∷ decimal o.last ∷ decimal limit ∷ [])
      (number_then o.period (decimal o.last ∷ decimal limit ∷ [])
      (number_then o.last (decimal limit ∷ []) (number_then limit [] tt))))),
)

abbrev pub state_words : RowState → List (List ℕ)
state_words Up = []
state_words (Failed number) = codes "failed" ∷ decimal number ∷ []

state_plain : (state : RowState) → ArePlain (state_words state)
state_plain Up = tt
state_plain (Failed number) = (refl, refl, number_then number [] tt)

abbrev pub row_words : Row → List (List ℕ)
row_words row = codes "row" ∷ decimal row.id ∷ address_text row.peer ∷ state_words row.state

pub row_plain : (row : Row) → ArePlain (row_words row)
row_plain row = (
  refl,
  refl,
  number_then row.id (address_text row.peer ∷ state_words row.state)
      (address_without 32 row.peer (omega arith), address_without 10 row.peer (omega arith), state_plain row.state),
)

abbrev pub seed_words : List ℕ → ℕ → List (List ℕ)
seed_words seed life = codes "seed" ∷ encode_lower seed ∷ decimal life ∷ []

pub seed_plain : (seed : List ℕ) (life : ℕ) → IsBytes seed → ArePlain (seed_words seed life)
seed_plain seed life bytes = (
  refl,
  refl,
  (
    hex_without 32 seed (omega arith) bytes,
    hex_without 10 seed (omega arith) bytes,
    number_then life [] tt,
  ),
)

-- ---- what they say

-- what the words of a line say at a stage of a journal file
abbrev said_words : Stage → List (List ℕ) → Option Command
said_words stage words = command_in (said_by (words_read Journal stage words))

abbrev pub opened_by : Setting → ℕ → OpenArguments
opened_by o limit = record { me = o.me; k = o.k; rtt = o.rtt; period = o.period; last = o.last; limit = limit }

open_says : (o : Setting) (limit : ℕ) (seed : List ℕ) (life : ℕ) → IsTellable o limit seed life →
    said_words Blank (open_words o limit) ≡ Some (Open (opened_by o limit))
unfolding command_after open_arguments
open_says o limit seed life t =
    rw (
      positive_read 4294967295 o.me t.me.0 (omega (arith, t.me.1)) (omega (arith, t.me.1)),
      number_read 4294967295 o.k (omega (arith, t.setting.relays)) (omega (arith, t.setting.relays)),
      number_read 4294967295 o.rtt (omega (arith, t.setting.timing)) (omega (arith, t.setting.timing)),
      number_read 4294967295 o.period (omega (arith, t.setting.timing)) (omega (arith, t.setting.timing)),
      number_read 18446744073709551615 o.last (omega (arith, t.setting.last)) (omega (arith, t.setting.last)),
      number_read 4294967295 limit (omega (arith, t.numbers.0)) (omega (arith, t.numbers.0)),
    ) refl

row_says : (wired : Bool) (id : ℕ) (peer : Address) (state : RowState) → IsId id → IsAddress peer → IsState state →
    said_words (Header Unsaid wired) (row_words (record { id = id; peer = peer; state = state })) ≡
    Some (RowLine (record { id = id; peer = peer; state = state }))
unfolding command_after
row_says wired id peer Up is address past =
    rw (positive_read 4294967295 id is.0 (omega (arith, is.1)) (omega (arith, is.1)), address_read peer address) refl
row_says wired id peer (Failed number) is address small =
    rw (
      positive_read 4294967295 id is.0 (omega (arith, is.1)) (omega (arith, is.1)),
      address_read peer address,
      number_read 18446744073709551615 number (omega (arith, small)) small,
    ) refl

seed_says : (wired : Bool) (seed : List ℕ) (life : ℕ) → length seed ≡ 32 → IsBytes seed → life < 2 ^ 64 →
    said_words (Header Unsaid wired) (seed_words seed life) ≡ Some (Seed seed life)
unfolding command_after
seed_says wired seed life long bytes small =
    let read : seed_of (encode_lower seed) ≡ Some seed = rw (decode_sized-encode_lower seed 32 long bytes) refl in
    rw (read, number_read 18446744073709551615 life (omega (arith, small)) small) refl

-- ---- how far a header has come

-- what is told, with perhaps a version, these members and perhaps a seed
abbrev pub told_with : Opened → Option Version → List Row → Option (List ℕ × ℕ) → Told
told_with opened wire rows seed =
    record { opened = Some opened; rows = rows; orders = []; places = []; seed = seed; wire = wire }

pub open_said : (o : Setting) (limit : ℕ) (seed : List ℕ) (life : ℕ) → IsTellable o limit seed life →
    said (mark_line ∷ []) (open_line o limit) ≡ Some (Open (opened_by o limit))
open_said o limit seed life t =
    said_in (mark_line ∷ []) (open_line o limit) refl
    ∙ ap (λ (l : List ℕ). command_in (line_read Journal Blank l)) (line_bare (open_words o limit) (open_plain o limit))
    ∙ ap (said_words Blank)
    (words_again (codes "open")
    (decimal o.me ∷ decimal o.k ∷ decimal o.rtt ∷ decimal o.period ∷ decimal o.last ∷ decimal limit ∷ [])
    (open_plain o limit))
    ∙ open_says o limit seed life t

pub open_at : (o : Setting) (limit : ℕ) (seed : List ℕ) (life : ℕ) → IsTellable o limit seed life →
    IsAt (open_line o limit ∷ mark_line ∷ [])
    (told_with (record { line = 2; arguments = opened_by o limit }) None [] None) false
open_at o limit seed life t =
    record {
      form = still_journal (mark_line ∷ []) (open_line o limit) refl;
      head = rw (open_said o limit seed life t) refl;
    }

-- the version, if it isn't the first
abbrev pub wire_line : List ℕ
wire_line = codes "wire 2\n"

abbrev pub wire_told : Version → Option Version
wire_told One = None
wire_told Two = Some Two

told_again : (version : Version) → version_with (wire_told version) ≡ version
told_again One = refl
told_again Two = refl

abbrev pub wire_onto : Version → List (List ℕ) → List (List ℕ)
wire_onto One before = before
wire_onto Two before = wire_line ∷ before

wire_says : command_in (line_read Journal (Header Unsaid false) (bare wire_line)) ≡ Some (Wire Two)
unfolding command_after
wire_says =
    let read : number_of 2 (50 ∷ []) ≡ Some 2 = ap (number_of 2) (sym (decimal_digit 2 (omega arith))) ∙
    number_read 2 2 (omega arith) (omega arith) in
    rw read refl

pub wire_said : (before : List (List ℕ)) (opened : Opened) → IsAt before (told_with opened None [] None) false →
    said before wire_line ≡ Some (Wire Two)
wire_said before opened at =
    said_in before wire_line at.form
    ∙ ap (λ (head : Head). command_in (line_read Journal (stage_of head) (bare wire_line))) at.head
    ∙ wire_says

pub wire_at : (before : List (List ℕ)) (opened : Opened) (version : Version) →
    IsAt before (told_with opened None [] None) false →
    IsAt (wire_onto version before) (told_with opened (wire_told version) [] None) false
wire_at before opened One at = at
wire_at before opened Two at =
    record { form = still_journal before wire_line at.form; head = rw (wire_said before opened at, at.head) refl }

abbrev pub rows_onto : List Row → List (List ℕ) → List (List ℕ)
rows_onto [] before = before
rows_onto (row ∷ rows) before = rows_onto rows (row_line row ∷ before)

pub row_is : (row : Row) → row_line row ≡ words_onto (row_words row) feed
row_is row = by row.state
  where
    by : (state : RowState) →
        row_line (record { id = row.id; peer = row.peer; state = state }) ≡
        words_onto (row_words (record { id = row.id; peer = row.peer; state = state })) feed
    by Up = refl
    by (Failed number) = refl

-- a member that can be told
abbrev pub IsRowTellable : Row → Type 0
IsRowTellable row = IsId row.id × IsAddress row.peer × IsState row.state

pub row_said : (before : List (List ℕ)) (opened : Opened) (wire : Option Version) (known : List Row) (row : Row) →
    IsAt before (told_with opened wire known None) false → IsRowTellable row →
    said before (row_line row) ≡ Some (RowLine row)
row_said before opened wire known row at is =
    said_in before (row_line row) at.form
    ∙ ap (λ (head : Head). command_in (line_read Journal (stage_of head) (bare (row_line row)))) at.head
    ∙ ap (λ (l : List ℕ). command_in (line_read Journal (Header Unsaid (is_some wire)) (bare l))) (row_is row)
    ∙ ap (λ (l : List ℕ). command_in (line_read Journal (Header Unsaid (is_some wire)) l))
    (line_bare (row_words row) (row_plain row))
    ∙ ap (said_words (Header Unsaid (is_some wire)))
    (words_again (codes "row") (decimal row.id ∷ address_text row.peer ∷ state_words row.state) (row_plain row))
    ∙ row_says (is_some wire) row.id row.peer row.state is.0 is.1 is.2

pub row_at : (before : List (List ℕ)) (opened : Opened) (wire : Option Version) (known : List Row) (row : Row) →
    IsAt before (told_with opened wire known None) false → IsRowTellable row →
    IsAt (row_line row ∷ before) (told_with opened wire (known ++ row ∷ []) None) false
row_at before opened wire known row at is =
    record {
      form = still_journal before (row_line row) at.form;
      head = rw (row_said before opened wire known row at is, at.head) refl;
    }

pub rows_at : (before : List (List ℕ)) (opened : Opened) (wire : Option Version) (known : List Row) (rows : List Row) →
    IsAt before (told_with opened wire known None) false → AreTellable rows →
    IsAt (rows_onto rows before) (told_with opened wire (known ++ rows) None) false
rows_at before opened wire known [] at all =
    subst (λ (l : List Row). IsAt before (told_with opened wire l None) false) (sym (append-nil known)) at
rows_at before opened wire known (row ∷ rows) at all =
    subst (λ (l : List Row). IsAt (rows_onto rows (row_line row ∷ before)) (told_with opened wire l None) false)
    (append_assoc known (row ∷ []) rows)
    (rows_at (row_line row ∷ before) opened wire (known ++ row ∷ []) rows
    (row_at before opened wire known row at (all.0, all.1, all.2)) all.3)

pub seed_said : (before : List (List ℕ)) (opened : Opened) (wire : Option Version) (known : List Row) (seed : List ℕ)
    (life : ℕ) → IsAt before (told_with opened wire known None) false → length seed ≡ 32 → IsBytes seed →
    life < 2 ^ 64 → said before (seed_line seed life) ≡ Some (Seed seed life)
seed_said before opened wire known seed life at long bytes small =
    said_in before (seed_line seed life) at.form
    ∙ ap (λ (head : Head). command_in (line_read Journal (stage_of head) (bare (seed_line seed life)))) at.head
    ∙ ap (λ (l : List ℕ). command_in (line_read Journal (Header Unsaid (is_some wire)) l))
    (line_bare (seed_words seed life) (seed_plain seed life bytes))
    ∙ ap (said_words (Header Unsaid (is_some wire)))
    (words_again (codes "seed") (encode_lower seed ∷ decimal life ∷ []) (seed_plain seed life bytes))
    ∙ seed_says (is_some wire) seed life long bytes small

seed_at : (before : List (List ℕ)) (opened : Opened) (wire : Option Version) (known : List Row) (seed : List ℕ)
    (life : ℕ) → IsAt before (told_with opened wire known None) false → length seed ≡ 32 → IsBytes seed →
    life < 2 ^ 64 →
    IsAt (seed_line seed life ∷ before) (told_with opened wire known (Some (seed, life))) false
seed_at before opened wire known seed life at long bytes small =
    record {
      form = still_journal before (seed_line seed life) at.form;
      head = rw (seed_said before opened wire known seed life at long bytes small, at.head) refl;
    }

-- ---- its lines

-- oldest first
abbrev wire_lines : Version → List (List ℕ)
wire_lines One = []
wire_lines Two = wire_line ∷ []

abbrev head_lines : Setting → ℕ → List ℕ → ℕ → List (List ℕ)
head_lines o limit seed life =
    mark_line ∷ open_line o limit ∷ (wire_lines o.version ++ (map row_line o.rows ++ seed_line seed life ∷ []))

rows_pieces : (rows : List Row) (rest : List ℕ) → pieces (row_lines rows ++ rest) ≡ map row_line rows ++ pieces rest
rows_pieces [] rest = refl
rows_pieces (row ∷ rows) rest =
    ap (λ l. pieces l) (append_assoc (row_line row) (row_lines rows) rest)
    ∙ ap (λ l. pieces (l ++ (row_lines rows ++ rest))) (row_is row)
    ∙ line_piece (row_words row) (row_lines rows ++ rest) (row_plain row)
    ∙ ap (λ l. l ∷ pieces (row_lines rows ++ rest)) (sym (row_is row))
    ∙ ap (λ l. row_line row ∷ l) (rows_pieces rows rest)

wire_pieces : (version : Version) (text : List ℕ) →
    pieces (wire_text version ++ text) ≡ wire_lines version ++ pieces text
wire_pieces One text = refl
wire_pieces Two text = pieces_at (codes "wire 2") text refl

header_pieces : (o : Setting) (limit : ℕ) (seed : List ℕ) (life : ℕ) (rest : List ℕ) → IsBytes seed →
    pieces (header_text o limit seed life ++ rest) ≡ head_lines o limit seed life ++ pieces rest
header_pieces o limit seed life rest bytes =
    let opening = open_line o limit in
    let wire = wire_text o.version in
    let rows = row_lines o.rows in
    let last = seed_line seed life in
    let known : pieces ((rows ++ last) ++ rest) ≡ map row_line o.rows ++ last ∷ pieces rest =
    ap (λ l. pieces l) (append_assoc rows last rest) ∙ rows_pieces o.rows (last ++ rest)
    ∙ ap (λ l. map row_line o.rows ++ l) (line_piece (seed_words seed life) rest (seed_plain seed life bytes)) in
    let behind : pieces ((wire ++ (rows ++ last)) ++ rest) ≡
    wire_lines o.version ++ (map row_line o.rows ++ last ∷ pieces rest) =
    ap (λ l. pieces l) (append_assoc wire (rows ++ last) rest) ∙ wire_pieces o.version ((rows ++ last) ++ rest) ∙
    ap (λ l. wire_lines o.version ++ l) known in
    let ended : wire_lines o.version ++ (map row_line o.rows ++ last ∷ pieces rest) ≡
    (wire_lines o.version ++ (map row_line o.rows ++ last ∷ [])) ++ pieces rest =
    ap (λ l. wire_lines o.version ++ l) (sym (append_assoc (map row_line o.rows) (last ∷ []) (pieces rest)))
    ∙ sym (append_assoc (wire_lines o.version) (map row_line o.rows ++ last ∷ []) (pieces rest)) in
    pieces_at (codes "journal 1") ((opening ++ (wire ++ (rows ++ last))) ++ rest) refl
    ∙ ap (λ l. mark_line ∷ l)
    (ap (λ l. pieces l) (append_assoc opening (wire ++ (rows ++ last)) rest)
    ∙ line_piece (open_words o limit) ((wire ++ (rows ++ last)) ++ rest) (open_plain o limit)
    ∙ ap (λ l. opening ∷ l) (behind ∙ ended))

rows_back : (rows : List Row) (before : List (List ℕ)) (last : List ℕ) →
    reverse_aux (map row_line rows ++ last ∷ []) before ≡ last ∷ rows_onto rows before
rows_back [] before last = refl
rows_back (row ∷ rows) before last = rows_back rows (row_line row ∷ before) last

wire_back : (version : Version) (lines before : List (List ℕ)) →
    reverse_aux (wire_lines version ++ lines) before ≡ reverse_aux lines (wire_onto version before)
wire_back One lines before = refl
wire_back Two lines before = refl

-- newest first, behind the opening
abbrev pub newest_lines : Setting → ℕ → List ℕ → ℕ → List (List ℕ)
newest_lines o limit seed life =
    seed_line seed life ∷ rows_onto o.rows (wire_onto o.version (open_line o limit ∷ mark_line ∷ []))

alone : (o : Setting) (limit : ℕ) (seed : List ℕ) (life : ℕ) → IsTellable o limit seed life →
    pieces (header_text o limit seed life) ≡ head_lines o limit seed life
alone o limit seed life t =
    ap (λ l. pieces l) (sym (append-nil (header_text o limit seed life))) ∙ header_pieces o limit seed life [] t.key.1 ∙
    append-nil (head_lines o limit seed life)

pub newest_are : (o : Setting) (limit : ℕ) (seed : List ℕ) (life : ℕ) → IsTellable o limit seed life →
    lines_in (header_text o limit seed life) ≡ newest_lines o limit seed life
newest_are o limit seed life t =
    let second = open_line o limit ∷ mark_line ∷ [] in
    ap reverse (alone o limit seed life t) ∙
    wire_back o.version (map row_line o.rows ++ seed_line seed life ∷ []) second
    ∙ rows_back o.rows (wire_onto o.version second) (seed_line seed life)

pub header_at : (o : Setting) (limit : ℕ) (seed : List ℕ) (life : ℕ) → IsTellable o limit seed life →
    IsAt (newest_lines o limit seed life)
    (told_with (record { line = 2; arguments = opened_by o limit }) (wire_told o.version) o.rows
    (Some (seed, life))) false
header_at o limit seed life t =
    let opened : Opened = record { line = 2; arguments = opened_by o limit } in
    let second = open_line o limit ∷ mark_line ∷ [] in
    let wire = wire_told o.version in
    let third = wire_onto o.version second in
    let rows = rows_at third opened wire [] o.rows (wire_at second opened o.version (open_at o limit seed life t))
    t.rows in
    seed_at (rows_onto o.rows third) opened wire o.rows seed life rows t.key.0 t.key.1 t.numbers.1

pub header_is : (o : Setting) (limit : ℕ) (seed : List ℕ) (life : ℕ) → IsTellable o limit seed life →
    IsHeader (header_text o limit seed life) o limit (record (of_seed seed) { stream = life })
header_is o limit seed life t =
    let newest = newest_are o limit seed life t in
    let at = header_at o limit seed life t in
    let head = ap head_of newest ∙ at.head in
    record {
      lines = λ rest. header_pieces o limit seed life rest t.key.1 ∙
          ap (λ l. l ++ pieces rest) (sym (alone o limit seed life t));
      form = ap form_of newest ∙ at.form;
      begun = ap (λ (head : Head). head.begun) head;
      stage = ap stage_of head ∙ sym (ap (λ (head : Head). Header Seeded (is_some head.told.wire)) head);
      opening = ap (λ (head : Head). setting_in head.told) head ∙
          ap (λ (version : Version). record o { version = version }) (told_again o.version);
      limit_is = ap (λ (head : Head). limit_in head.told) head;
      chooser = ap (λ (head : Head). chooser_in head.told) head;
    }
