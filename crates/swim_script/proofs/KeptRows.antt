-- The rows that are kept of a header: one more than an opening may have.
use Rattle.std.proofs.Common.{◌≡◌, ◌<◌, ◌*◌, ◌==◌, ◌||◌, nat_lt, cond, Bool, true, false, List, [], ◌∷◌, ◌++◌, length}
use Rattle.std.proofs.Common.{take, Option, Some, None, refl, sym, ap, ◌∙◌, arith, inl, inr}
use Rattle.std.proofs.lemmas.Bool.{lt-ltb, cases_lt}
use Rattle.std.proofs.lemmas.List.{take_all, take_at, length-take, length-append, take-append-le}
use Rattle.swim_wire.specs.declared.messages.Version.{Version}
use Rattle.swim_history.specs.declared.rows.Row.{Row}
use Rattle.swim_history.specs.declared.openings.OpeningFault.{OpeningFault}
use Rattle.swim_history.specs.declared.openings.OpeningFault.TheVariants.{Relays, Timing, TooManyRows}
use Rattle.swim_script.specs.declared.arguments.Opened.{Opened}
use Rattle.swim_script.specs.declared.faults.FaultKind.TheVariants.{Opening}
use Rattle.swim_script.specs.Headers.{Told, setting_with, version_with}
use Rattle.swim_script.specs.Script.{at_line, fault_of_setting, fault_with, fault_of_header}
use Rattle.swim_script.specs.Holds.{first_rows, kept}

-- the first fault of an opening with too many rows, by whether it has too many relays or a wrong timing
abbrev pub first_with_many : Bool → Bool → OpeningFault
first_with_many true timing = Relays
first_with_many false true = Timing
first_with_many false false = TooManyRows

first_is : (relays timing : Bool) → cond relays (Some Relays) (cond timing (Some Timing) (Some TooManyRows)) ≡
    Some (first_with_many relays timing)
first_is true timing = refl
first_is false true = refl
first_is false false = refl

-- more rows than an opening may have are told as that, whichever they are
many_rows : (opened : Opened) (rows : List Row) (version : Version) → 128 < length rows →
    fault_of_setting (Some opened) (setting_with (Some opened) rows version) ≡
    Some (at_line opened.line
    (Opening (first_with_many (nat_lt 8 opened.arguments.k)
    (opened.arguments.rtt ==
    0 || nat_lt opened.arguments.period (3 * opened.arguments.rtt) || nat_lt 65535 opened.arguments.period))))
many_rows opened rows version many =
    let test = lt-ltb 128 (length rows) many in
    rw (
      test,
      first_is (nat_lt 8 opened.arguments.k)
          (opened.arguments.rtt ==
          0 || nat_lt opened.arguments.period (3 * opened.arguments.rtt) || nat_lt 65535 opened.arguments.period),
    ) refl

-- the rows that are kept tell the fault
fault_of_first_rows : (opened : Option Opened) (rows : List Row) (version : Version) →
    fault_of_setting opened (setting_with opened (first_rows rows) version) ≡
    fault_of_setting opened (setting_with opened rows version)
fault_of_first_rows None rows version = refl
fault_of_first_rows (Some opened) rows version =
    elim (cases_lt 128 (length rows)) [
      | inl many ↦ many_rows opened (first_rows rows) version (omega (arith, length-take 129 rows)) ∙
          sym (many_rows opened rows version many)
      | inr few ↦ ap (λ r. fault_of_setting (Some opened) (setting_with (Some opened) r version))
          (take_all 129 rows (omega arith))
    ]

pub fault_of_kept : (told : Told) → fault_of_header (kept told) ≡ fault_of_header told
fault_of_kept told = ap (fault_with told.opened) (fault_of_first_rows told.opened told.rows (version_with told.wire))

-- where there is no fault all rows are kept
first_are_all : (opened : Option Opened) (rows : List Row) (version : Version) →
    fault_with opened (fault_of_setting opened (setting_with opened (first_rows rows) version)) ≡ None →
    first_rows rows ≡ rows
first_are_all None rows version none = absurd cc
first_are_all (Some opened) rows version none =
    elim (cases_lt 128 (length rows)) [
      | inl many ↦ absurd (cc
          (sym (many_rows opened (first_rows rows) version (omega (arith, length-take 129 rows))) ∙ none))
      | inr few ↦ take_all 129 rows (omega arith)
    ]

pub all_kept : (told : Told) → fault_of_header (kept told) ≡ None → kept told ≡ told
all_kept told none = ap (λ (rows : List Row). record told { rows = rows })
    (first_are_all told.opened told.rows (version_with told.wire) none)

-- a row more, where more are kept
pub row_kept : {A : Type 0} (rows : List A) (row : A) → length rows < 129 →
    rows ++ row ∷ [] ≡ take 129 (rows ++ row ∷ [])
row_kept rows row few = sym (take_all 129 (rows ++ row ∷ []) (omega (arith, length-append rows (row ∷ []))))

-- and where none are
pub row_left_out : {A : Type 0} (rows : List A) (row : A) → length rows ≡ 129 → rows ≡ take 129 (rows ++ row ∷ [])
row_left_out rows row full = sym (take_at rows (row ∷ []) 129 full)

-- a row more of the first rows
first_rows_more : {A : Type 0} (rows : List A) (row : A) →
    take 129 (take 129 rows ++ row ∷ []) ≡ take 129 (rows ++ row ∷ [])
first_rows_more rows row =
    elim (cases_lt 129 (length rows)) [
      | inl many ↦
          take_at (take 129 rows) (row ∷ []) 129 (omega (arith, length-take 129 rows)) ∙
          sym (take-append-le 129 rows (row ∷ []) (omega arith))
      | inr few ↦ ap (λ xs. take 129 (xs ++ row ∷ [])) (take_all 129 rows few)
    ]

pub kept_more : (told : Told) (row : Row) →
    kept (record told { rows = first_rows told.rows ++ row ∷ [] }) ≡ kept (record told { rows = told.rows ++ row ∷ [] })
kept_more told row = ap (λ (rows : List Row). record told { rows = rows }) (first_rows_more told.rows row)
