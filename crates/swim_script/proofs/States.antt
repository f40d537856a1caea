-- The states of rows, which are told of an opening whose members are up.
use Rattle.std.proofs.Common.{◌≡◌, ℕ, suc, ◌<◌, eqb, Bool, true, false, cond, ◌&&◌, nat_eq, List, [], ◌∷◌, length, drop}
use Rattle.std.proofs.Common.{get_or, Option, Some, None, option_map, refl, sym, ap, ◌∙◌}
use Rattle.std.proofs.lemmas.Bool.{eq-eqb, eqb-false, ne_eqb, or_parts}
use Rattle.std.proofs.Math.Seq.{drop-cons}
use Rattle.std.specs.Option.{option_and_then}
use Rattle.swim_wire.specs.Address.{Address}
use Rattle.swim_wire.specs.Ids.{has, has_twice}
use Rattle.swim_history.specs.Changes.{after_change}
use Rattle.swim_history.specs.Check.{rows_up, setting_failed, first_fault}
use Rattle.swim_history.specs.Rows.{up}
use Rattle.swim_history.specs.Setting.{Setting, ids_of, is_state_past}
use Rattle.swim_history.specs.declared.rows.Change.TheVariants as changes
use Rattle.swim_history.specs.declared.rows.Row.{Row}
use Rattle.swim_history.specs.declared.rows.RowState.{RowState}
use Rattle.swim_history.specs.declared.rows.RowState.TheVariants.{Up, Failed}
use Rattle.swim_script.specs.Script.{are_past, members_of}

-- ---- one after the other

-- the setting with the state of a member; none where it failed in a period that wasn't used
abbrev pub with_state : RowState → ℕ → Setting → Option Setting
with_state Up id o = Some o
with_state (Failed number) id o =
    cond (has (ids_of o.rows) id && is_state_past o.last (Failed number)) (Some (setting_failed id number o)) None

abbrev pub with_all : List Row → Setting → Option Setting
with_all [] o = Some o
with_all (row ∷ rows) o = option_and_then (with_all rows) (with_state row.state row.id o)

-- ---- rows of others

-- the setting with one row more, before its own
abbrev behind : Row → Setting → Setting
behind first o = record o { rows = first ∷ o.rows }

other_is : (a b : ℕ) → nat_eq a b ≡ false → eqb b a ≡ false
other_is a b e = ne_eqb b a (λ same. eqb-false a b e (sym same))

-- what is told of another member leaves it
past_other : (first : Row) (id : ℕ) (state : RowState) (o : Setting) → nat_eq first.id id ≡ false →
    with_state state id (behind first o) ≡ option_map (behind first) (with_state state id o)
past_other first id Up o other = refl
past_other first id (Failed number) o other =
    rw (other, other_is first.id id other) (by (has (ids_of o.rows) id && is_state_past o.last (Failed number)))
  where
    by : (told : Bool) → cond told (Some (behind first (setting_failed id number o))) None ≡
        option_map (behind first) (cond told (Some (setting_failed id number o)) None)
    by true = refl
    by false = refl

past_others : (first : Row) (rows : List Row) (o : Setting) → has (ids_of rows) first.id ≡ false →
    with_all rows (behind first o) ≡ option_map (behind first) (with_all rows o)
past_others first [] o others = refl
past_others first (row ∷ rows) o others =
    let parts = or_parts (nat_eq first.id row.id) (has (ids_of rows) first.id) others in
    ap (option_and_then (with_all rows)) (past_other first row.id row.state o parts.0) ∙
    by (with_state row.state row.id o) (λ next. past_others first rows next parts.1)
  where
    by : (next : Option Setting) →
        ((o : Setting) → with_all rows (behind first o) ≡ option_map (behind first) (with_all rows o)) →
        option_and_then (with_all rows) (option_map (behind first) next) ≡
        option_map (behind first) (option_and_then (with_all rows) next)
    by None each = refl
    by (Some next) each = each next

-- ---- all rows

pub same_ids : (rows : List Row) → ids_of (rows_up (members_of rows)) ≡ ids_of rows
same_ids [] = refl
same_ids (row ∷ rows) = ap (λ ids. row.id ∷ ids) (same_ids rows)

pub same_length : (rows : List Row) → length (rows_up (members_of rows)) ≡ length rows
same_length [] = refl
same_length (row ∷ rows) = ap suc (same_length rows)

-- where no row is the member's, nothing changes as it fails
no_change : (id number : ℕ) (rows : List Row) → has (ids_of rows) id ≡ false →
    after_change (changes.Failed id number) rows ≡ rows
no_change id number [] none = refl
no_change id number (row ∷ rows) none =
    let parts = or_parts (nat_eq id row.id) (has (ids_of rows) id) none in
    rw (other_is id row.id parts.0) (ap (λ r. row ∷ r) (no_change id number rows parts.1))

-- the first row's state is told
first_told : (id : ℕ) (peer : Address) (state : RowState) (rows : List Row) (o : Setting) → o.rows ≡ rows →
    has (ids_of rows) id ≡ false →
    with_state state id (behind (up id peer) o) ≡
    cond (is_state_past o.last state) (Some (behind (record { id = id; peer = peer; state = state }) o)) None
first_told id peer Up rows o are none = refl
first_told id peer (Failed number) rows o are none =
    rw (eq-eqb id id refl, no_change id number o.rows (rw are none)) refl

told_all : (o : Setting) (rows : List Row) → has_twice (ids_of rows) ≡ false →
    with_all rows (record o { rows = rows_up (members_of rows) }) ≡
    cond (are_past o.last rows) (Some (record o { rows = rows })) None
told_all o [] once = refl
told_all o (row ∷ rows) once =
    let parts = or_parts (has (ids_of rows) row.id) (has_twice (ids_of rows)) once in
    let ups : Setting = record o { rows = rows_up (members_of rows) } in
    ap (option_and_then (with_all rows))
    (first_told row.id row.peer row.state (rows_up (members_of rows)) ups refl (rw (same_ids rows) parts.0))
    ∙ by (is_state_past o.last row.state)
    (past_others row rows ups parts.0 ∙ ap (option_map (behind row)) (told_all o rows parts.1))
  where
    others : (past : Bool) → option_map (behind row) (cond past (Some (record o { rows = rows })) None) ≡
        cond past (Some (record o { rows = row ∷ rows })) None
    others true = refl
    others false = refl

    by : (past : Bool) → with_all rows (behind row (record o { rows = rows_up (members_of rows) })) ≡
        option_map (behind row) (cond (are_past o.last rows) (Some (record o { rows = rows })) None) →
        option_and_then (with_all rows)
        (cond past (Some (behind row (record o { rows = rows_up (members_of rows) }))) None) ≡
        cond (past && are_past o.last rows) (Some (record o { rows = row ∷ rows })) None
    by true is = is ∙ others (are_past o.last rows)
    by false is = refl

-- ---- an opening of members that are up

-- with the states of these rows, where they are told one after the other
pub states_are : (o : Setting) (rows : List Row) → o.rows ≡ rows_up (members_of rows) →
    has_twice (ids_of rows) ≡ false →
    with_all rows o ≡ cond (are_past o.last rows) (Some (record o { rows = rows })) None
states_are o rows are once =
    ap (λ (r : List Row). with_all rows (record o { rows = r })) are ∙ told_all o rows once

-- a fault that it has without them
pub same_fault : (o : Setting) (rows : List Row) → o.rows ≡ rows →
    first_fault (record o { rows = rows_up (members_of rows) }) ≡ first_fault o
same_fault o rows are = rw (are, same_ids rows, same_length rows) refl

-- ---- row by row

-- the next of the rows that are left
pub next_told : (rows : List Row) (place : ℕ) (d : Row) (o : Setting) → place < length rows →
    with_all (drop place rows) o ≡
    option_and_then (with_all (drop (suc place) rows))
    (with_state (get_or rows place d).state (get_or rows place d).id o)
next_told rows place d o within = ap (λ (l : List Row). with_all l o) (drop-cons rows place d within)

-- where nothing is told of an opening, a row isn't past
pub not_past : (past : Bool) (o : Setting) → cond past (Some o) None ≡ None → past ≡ false
not_past true o e = absurd (cc e)
not_past false o e = refl
