-- The JSON of a table says its rows.
use Rattle.std.proofs.Common.{◌≡◌, ℕ, ◌^◌, ◌-◌, eqb, false, List, [], ◌∷◌, ◌++◌, Option, Some, codes}
use Rattle.std.proofs.Common.{decimal, drop, get_or, refl, sym, ap, ◌∙◌, arith, append_assoc, if◌then◌else◌}
use Rattle.std.specs.Int.{IsInRange}
use Rattle.std.specs.List.{AllByRecursion}
use Rattle.std.specs.Str.{bytes_eq}
use Rattle.std.specs.Str.Parse.{AllDigits}
use Rattle.std.proofs.lemmas.Bool.{or_from, ne_eqb}
use Rattle.std.proofs.lemmas.Fmt.{decimal_is_IsNumeral}
use Rattle.std.proofs.lemmas.Option.{some_pair_parts}
use Rattle.std.proofs.lemmas.Str.Parse.{digit_from_value}
use Rattle.swim_text.specs.Numbers.{number_of, number_read, positive_read}
use Rattle.swim_text.specs.Parts.{has, cut, cut_at}
use Rattle.swim_text.specs.Without.{both_without, number_without}
use Rattle.swim_wire.specs.Address.{address_of, address_text, ◌>>=◌}
use Rattle.swim_wire.specs.AddressLaws.{address_read}
use Rattle.swim_wire.specs.AddressWithout.{address_without}
use Rattle.swim_wire.specs.Ids.{id_of}
use Rattle.swim_history.specs.declared.rows.Row.{Row}
use Rattle.swim_history.specs.declared.rows.RowState.{RowState}
use Rattle.swim_history.specs.declared.rows.RowState.TheVariants.{Up, Failed}
use Rattle.swim_web.specs.Objects.{members_text, more_objects, row_object, rows_objects, state_members}
use Rattle.swim_web.specs.Tables.{IsRow, IsState}

-- ---- a state

-- what stands between the quote behind an address and the brace that ends the object
abbrev state_front : RowState → List ℕ
state_front Up = codes ",\"state\":\"up\""
state_front (Failed number) = codes ",\"state\":\"failed\",\"period\":" ++ decimal number

-- the state that it says
abbrev state_in : List ℕ → Option RowState
state_in front = if bytes_eq front (codes ",\"state\":\"up\"") then Some Up else (do
  number ← number_of (2 ^ 64 - 1) (drop 27 front)
  Some (Failed number))

state_is : (s : RowState) (more : List ℕ) → state_members s ++ more ≡ 34 ∷ (state_front s ++ 125 ∷ more)
state_is Up more = refl
state_is (Failed number) more =
    ap (λ t. 34 ∷ (codes ",\"state\":\"failed\",\"period\":" ++ t)) (append_assoc (decimal number) (codes "}") more)

state_read : (s : RowState) → IsState s → state_in (state_front s) ≡ Some s
state_read Up is = refl
state_read (Failed number) small = rw (number_read (2 ^ 64 - 1) number (omega (arith, small)) small) refl

-- no digit is a brace, and none is in it
no_brace : (c : ℕ) → IsInRange 48 57 c → eqb c 125 ≡ false
no_brace c digit = ne_eqb c 125 (λ e. omega arith)

digits_free : (text : List ℕ) → AllDigits 10 text → has 125 text ≡ false
digits_free [] digits = refl
digits_free (d ∷ text) digits = or_from _ _ (no_brace d (digit_from_value d digits.0)) (digits_free text digits.1)

state_free : (s : RowState) → IsState s → has 125 (state_front s) ≡ false
state_free Up is = refl
state_free (Failed number) small =
    both_without 125 (codes ",\"state\":\"failed\",\"period\":") (decimal number) refl
    (digits_free (decimal number) (decimal_is_IsNumeral number small).0.1)

-- ---- a row

-- the row that an object says, and what stands behind it
abbrev row_in : List ℕ → Option (Row × List ℕ)
row_in text = do
  first ← cut 44 (drop 6 text)
  second ← cut 34 (drop 8 first.1)
  third ← cut 125 second.1
  id ← id_of first.0
  peer ← address_of second.0
  state ← state_in third.0
  Some (record { id = id; peer = peer; state = state }, third.1)

-- an object by its parts
abbrev parts_of : Row → List ℕ → List ℕ
parts_of row more =
    codes "{\"id\":" ++ (decimal row.id ++ 44 ∷ (codes "\"peer\":\"" ++ (address_text row.peer ++ 34 ∷ (
    state_front row.state ++ 125 ∷ more
    ))))

parts_are : (row : Row) (more : List ℕ) → row_object row ++ more ≡ parts_of row more
parts_are row more =
    ap (λ t. codes "{\"id\":" ++ t)
    (append_assoc (decimal row.id) (codes ",\"peer\":\"" ++ (address_text row.peer ++ state_members row.state)) more
    ∙ ap (λ t. decimal row.id ++ (codes ",\"peer\":\"" ++ t))
    (append_assoc (address_text row.peer) (state_members row.state) more
    ∙ ap (λ t. address_text row.peer ++ t) (state_is row.state more)))

parts_read : (row : Row) (more : List ℕ) → IsRow row → row_in (parts_of row more) ≡ Some (row, more)
parts_read row more is =
    rw (
      cut_at 44 (decimal row.id) (codes "\"peer\":\"" ++ (address_text row.peer ++ 34 ∷ (
          state_front row.state ++ 125 ∷ more
          ))) (number_without 44 row.id (omega arith)),
      cut_at 34 (address_text row.peer) (state_front row.state ++ 125 ∷ more)
          (address_without 34 row.peer (omega arith)),
      cut_at 125 (state_front row.state) more (state_free row.state is.state),
      positive_read 4294967295 row.id is.id.0 (omega (arith, is.id.1)) (omega (arith, is.id.1)),
      address_read row.peer is.peer,
      state_read row.state is.state,
    ) refl

row_read : (row : Row) (more : List ℕ) → IsRow row → row_in (row_object row ++ more) ≡ Some (row, more)
row_read row more is = ap row_in (parts_are row more) ∙ parts_read row more is

-- ---- rows

-- the first of two lists of objects says the same row, and what stands behind it is the same
first_told : (x y : Row) (more others : List ℕ) → IsRow x → IsRow y → row_object x ++ more ≡ row_object y ++ others →
    (x ≡ y) × (more ≡ others)
first_told x y more others p q same =
    some_pair_parts x y more others (sym (row_read x more p) ∙ ap row_in same ∙ row_read y others q)

-- what stands behind the last object is the beginning of none
no_object : (row : Row) (more : List ℕ) → codes "]}\n" ≡ row_object row ++ more → ⊥
no_object row more same = absurd cc

-- objects as any texts, a comma before each; and the first without it
more_by : (Row → List ℕ) → List Row → List ℕ
more_by text [] = []
more_by text (row ∷ rows) = (44 ∷ text row) ++ more_by text rows

rows_by : (Row → List ℕ) → List Row → List ℕ
rows_by text [] = []
rows_by text (row ∷ rows) = text row ++ more_by text rows

-- of two texts the first says the same row, and what stands behind it is the same
Tells : (Row → List ℕ) → Type 0
Tells text =
    (x y : Row) (more others : List ℕ) → IsRow x → IsRow y → text x ++ more ≡ text y ++ others →
    (x ≡ y) × (more ≡ others)

more_told : (text : Row → List ℕ) (closing : List ℕ) → ((t : List ℕ) → closing ≡ 44 ∷ t → ⊥) → Tells text →
    (a b : List Row) → AllByRecursion IsRow a → AllByRecursion IsRow b →
    more_by text a ++ closing ≡ more_by text b ++ closing → a ≡ b
unfolding more_by Tells
more_told text closing other tells [] [] p q same = refl
more_told text closing other tells [] (y ∷ b) p q same = absurd (other _ same)
more_told text closing other tells (x ∷ a) [] p q same = absurd (other _ (sym same))
more_told text closing other tells (x ∷ a) (y ∷ b) p q same =
    let first = tells x y (more_by text a ++ closing) (more_by text b ++ closing) p.0 q.0
    (sym (append_assoc (text x) (more_by text a) closing) ∙ ap (drop 1) same
    ∙ append_assoc (text y) (more_by text b) closing) in
    ap (λ r. r ∷ a) first.0 ∙ ap (λ rows. y ∷ rows) (more_told text closing other tells a b p.1 q.1 first.1)

rows_told : (text : Row → List ℕ) (closing : List ℕ) → ((t : List ℕ) → closing ≡ 44 ∷ t → ⊥) →
    ((row : Row) (more : List ℕ) → closing ≡ text row ++ more → ⊥) → Tells text →
    (a b : List Row) → AllByRecursion IsRow a → AllByRecursion IsRow b →
    rows_by text a ++ closing ≡ rows_by text b ++ closing → a ≡ b
unfolding rows_by Tells
rows_told text closing other none tells [] [] p q same = refl
rows_told text closing other none tells [] (y ∷ b) p q same =
    absurd (none y _ (same ∙ append_assoc (text y) (more_by text b) closing))
rows_told text closing other none tells (x ∷ a) [] p q same =
    absurd (none x _ (sym same ∙ append_assoc (text x) (more_by text a) closing))
rows_told text closing other none tells (x ∷ a) (y ∷ b) p q same =
    let first = tells x y (more_by text a ++ closing) (more_by text b ++ closing) p.0 q.0
    (sym (append_assoc (text x) (more_by text a) closing) ∙ same
    ∙ append_assoc (text y) (more_by text b) closing) in
    ap (λ r. r ∷ a) first.0 ∙ ap (λ rows. y ∷ rows) (more_told text closing other tells a b p.1 q.1 first.1)

-- the objects of a table are such
more_are : (rows : List Row) → more_objects rows ≡ more_by row_object rows
unfolding more_by
more_are [] = refl
more_are (row ∷ rows) = ap (λ t. (44 ∷ row_object row) ++ t) (more_are rows)

rows_are : (rows : List Row) → rows_objects rows ≡ rows_by row_object rows
unfolding rows_by
rows_are [] = refl
rows_are (row ∷ rows) = ap (λ t. row_object row ++ t) (more_are rows)

object_tells : Tells row_object
unfolding Tells
object_tells = first_told

no_comma : (t : List ℕ) → codes "]}\n" ≡ 44 ∷ t → ⊥
no_comma t same =
    let bad : ◌≡◌ {A = ℕ} 93 44 = ap (λ (t : List ℕ). get_or t 0 0) same in
    absurd (cc bad)

pub members_told : (a b : List Row) → AllByRecursion IsRow a → AllByRecursion IsRow b →
    members_text a ≡ members_text b → a ≡ b
members_told a b p q same =
    rows_told row_object (codes "]}\n") no_comma no_object object_tells a b p q
    (ap (λ t. t ++ codes "]}\n") (sym (rows_are a)) ∙ ap (drop 12) same ∙ ap (λ t. t ++ codes "]}\n") (rows_are b))
