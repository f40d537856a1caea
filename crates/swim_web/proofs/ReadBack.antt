-- The text of a table is read back.
use Rattle.std.proofs.Common.{◌≡◌, ℕ, ◌<◌, ◌≤◌, ◌^◌, ◌-◌, ◌+◌, false, List, [], ◌∷◌, ◌++◌, length, Some, None}
use Rattle.std.proofs.Common.{codes, decimal}
use Rattle.std.specs.List.{AllByRecursion}
use Rattle.std.proofs.lemmas.Option.{some_pair_parts}
use Rattle.std.proofs.Common.{length-append, suc, true, refl, sym, ap, ◌∙◌, arith, append_assoc}
use Rattle.swim_text.specs.Numbers.{number_read, positive_read}
use Rattle.std.specs.Str.{bytes_eq}
use Rattle.swim_text.specs.Parts.{has, cut, cut_at, cut_joined}
use Rattle.swim_text.specs.Without.{both_without, number_without}
use Rattle.swim_wire.specs.Address.{address_text}
use Rattle.swim_wire.specs.AddressLaws.{address_read}
use Rattle.swim_wire.specs.AddressWithout.{address_without}
use Rattle.swim_wire.specs.Ids.{most_members}
use Rattle.swim_history.specs.Texts.{feed, row_text, rows_text, state_text, table_text}
use Rattle.swim_history.specs.declared.rows.Row.{Row}
use Rattle.swim_history.specs.declared.rows.RowState.{RowState}
use Rattle.swim_history.specs.declared.rows.RowState.TheVariants.{Up, Failed}
use Rattle.swim_web.proofs.Reading.{one_more_row}
use Rattle.swim_web.specs.Tables.{IsRow, IsState, IsTable, IsNoTable, row_of, state_of}

-- ---- a row

-- a state's text without the space in front
abbrev state_word : RowState → List ℕ
state_word Up = codes "up"
state_word (Failed number) = codes "failed" ++ 32 ∷ decimal number

state_is : (s : RowState) → state_text s ≡ 32 ∷ state_word s
state_is Up = refl
state_is (Failed number) = refl

state_read : (s : RowState) → IsState s → state_of (state_word s) ≡ Some s
state_read Up is = refl
state_read (Failed number) small = rw (number_read (2 ^ 64 - 1) number (omega (arith, small)) small) refl

state_without : (s : RowState) → has 10 (state_text s) ≡ false
state_without Up = refl
state_without (Failed number) =
    both_without 10 (codes " failed ") (decimal number) refl (number_without 10 number (omega arith))

-- a row's line without its line feed
abbrev pub line_of : Row → List ℕ
line_of row = decimal row.id ++ 32 ∷ (address_text row.peer ++ state_text row.state)

pub line_is : (row : Row) (more : List ℕ) → row_text row ++ more ≡ line_of row ++ 10 ∷ more
line_is row more =
    append_assoc (decimal row.id) (32 ∷ (address_text row.peer ++ (state_text row.state ++ feed))) more
    ∙ ap (λ t. decimal row.id ++ 32 ∷ t)
    (append_assoc (address_text row.peer) (state_text row.state ++ feed) more
    ∙ ap (λ t. address_text row.peer ++ t) (append_assoc (state_text row.state) feed more)
    ∙ sym (append_assoc (address_text row.peer) (state_text row.state) (10 ∷ more)))
    ∙ sym (append_assoc (decimal row.id) (32 ∷ (address_text row.peer ++ state_text row.state)) (10 ∷ more))

line_without : (row : Row) → has 10 (line_of row) ≡ false
line_without row =
    both_without 10 (decimal row.id) (32 ∷ (address_text row.peer ++ state_text row.state))
    (number_without 10 row.id (omega arith))
    (both_without 10 (address_text row.peer) (state_text row.state) (address_without 10 row.peer (omega arith))
    (state_without row.state))

pub row_cut : (row : Row) (more : List ℕ) → cut 10 (row_text row ++ more) ≡ Some (line_of row, more)
row_cut row more = ap (cut 10) (line_is row more) ∙ cut_at 10 (line_of row) more (line_without row)

pub row_read : (row : Row) → IsRow row → row_of (line_of row) ≡ Some row
row_read row is =
    rw (
      cut_at 32 (decimal row.id) (address_text row.peer ++ state_text row.state)
          (number_without 32 row.id (omega arith)),
      state_is row.state,
      cut_at 32 (address_text row.peer) (state_word row.state) (address_without 32 row.peer (omega arith)),
      positive_read 4294967295 row.id is.id.0 (omega (arith, is.id.1)) (omega (arith, is.id.1)),
      address_read row.peer is.peer,
      state_read row.state is.state,
    ) refl

-- ---- rows

-- what was read of an answer, and what is left of it: of each table whose text it is, these rows and the later ones
pub record AreRead (answer : List ℕ) (rows : List Row) (rest : List ℕ) : Type 0 where
  pub found : answer ≡ rows_text rows ++ rest
  pub only : (all : List Row) → IsTable all → answer ≡ table_text all → (later : List Row) × (all ≡ rows ++ later)
      × AllByRecursion IsRow later × (rest ≡ table_text later)

pub none_read : (answer : List ℕ) → AreRead answer [] answer
none_read answer = record { found = refl; only = λ all is text. (all, refl, is.each, text) }

-- the first of the later rows, and those behind it
record IsNext (rest : List ℕ) (later : List Row) : Type 0 where
  row : Row
  more : List Row
  those : later ≡ row ∷ more
  is : IsRow row
  are : AllByRecursion IsRow more
  parts : cut 10 rest ≡ Some (line_of row, table_text more)

next : (rest : List ℕ) (later : List Row) → (rest ≡ codes ".\n" → ⊥) → rest ≡ table_text later →
    AllByRecursion IsRow later → IsNext rest later
next rest [] goes_on text are = absurd (goes_on text)
next rest (row ∷ more) goes_on text are = record {
  row = row;
  more = more;
  those = refl;
  is = are.0;
  are = are.1;
  parts =
      ap (cut 10) (text ∙ append_assoc (row_text row) (rows_text more) (codes ".\n")) ∙ row_cut row (table_text more);
}

-- what is no dot is gone on with
pub goes_on : (rest : List ℕ) → bytes_eq rest (codes ".\n") ≡ false → rest ≡ codes ".\n" → ⊥
goes_on rest other is =
    let bad : true ≡ false = sym (ap (λ t. bytes_eq t (codes ".\n")) is) ∙ other in
    absurd (cc bad)

pub shorter : (rest line after : List ℕ) → cut 10 rest ≡ Some (line, after) → length after < length rest
shorter rest line after parts =
    let count : length rest ≡ length line + suc (length after) =
    ap length (cut_joined 10 rest (line, after) parts) ∙ length-append line (10 ∷ after) in
    omega (arith, count)

pub all_read : (answer : List ℕ) (rows : List Row) (rest : List ℕ) → AreRead answer rows rest → rest ≡ codes ".\n" →
    answer ≡ table_text rows
all_read answer rows rest read is = read.found ∙ ap (λ t. rows_text rows ++ t) is

-- a line that can't be cut off is in no table, and neither is one that is no row, nor one behind as many as fit
pub no_line : (answer : List ℕ) (rows : List Row) (rest : List ℕ) → AreRead answer rows rest →
    (rest ≡ codes ".\n" → ⊥) → cut 10 rest ≡ None → IsNoTable answer
no_line answer rows rest read goes_on none all is text =
    let left = read.only all is text in
    let n = next rest left.0 goes_on left.3 left.2 in
    let bad : None ≡ Some (line_of n.row, table_text n.more) = sym none ∙ n.parts in
    absurd (cc bad)

pub no_row : (answer : List ℕ) (rows : List Row) (rest line after : List ℕ) → AreRead answer rows rest →
    (rest ≡ codes ".\n" → ⊥) → cut 10 rest ≡ Some (line, after) → row_of line ≡ None → IsNoTable answer
no_row answer rows rest line after read goes_on parts none all is text =
    let left = read.only all is text in
    let n = next rest left.0 goes_on left.3 left.2 in
    let same = some_pair_parts line (line_of n.row) after (table_text n.more) (sym parts ∙ n.parts) in
    let bad : None ≡ Some n.row = sym none ∙ ap row_of same.0 ∙ row_read n.row n.is in
    absurd (cc bad)

pub no_room : (answer : List ℕ) (rows : List Row) (rest : List ℕ) → AreRead answer rows rest →
    (rest ≡ codes ".\n" → ⊥) → most_members ≤ length rows → IsNoTable answer
no_room answer rows rest read goes_on full all is text =
    let left = read.only all is text in
    let n = next rest left.0 goes_on left.3 left.2 in
    let count : length all ≡ length rows + suc (length n.more) =
    ap length (left.1 ∙ ap (λ later. rows ++ later) n.those) ∙ length-append rows (n.row ∷ n.more) in
    omega (arith, count, full, is.fits)

-- one row more
pub one_read : (answer : List ℕ) (rows : List Row) (rest line after : List ℕ) (row : Row) → AreRead answer rows rest →
    (rest ≡ codes ".\n" → ⊥) → cut 10 rest ≡ Some (line, after) → row_of line ≡ Some row →
    line ++ feed ≡ row_text row → AreRead answer (rows ++ row ∷ []) after
one_read answer rows rest line after row read goes_on parts reads is = record {
  found = one_more_row answer rest line after rows row read.found parts is;
  only = λ all table text.
      let left = read.only all table text in
      let n = next rest left.0 goes_on left.3 left.2 in
      let same = some_pair_parts line (line_of n.row) after (table_text n.more) (sym parts ∙ n.parts) in
      let the : row ≡ n.row = (let both : Some row ≡ Some n.row = sym reads ∙ ap row_of same.0 ∙ row_read n.row n.is in
      cc both) in (
        n.more,
        left.1 ∙ ap (λ later. rows ++ later) (n.those ∙ ap (λ r. r ∷ n.more) (sym the))
            ∙ sym (append_assoc rows (row ∷ []) n.more),
        n.are,
        same.1,
      );
}
