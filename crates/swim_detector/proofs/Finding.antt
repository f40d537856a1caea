-- What rows tell of members, and the lists before the first call.
use Rattle.std.proofs.Common.{◌≡◌, ℕ, ◌≤◌, false, List, [], length, Some, refl, sym, ap, subst, ◌∙◌, arith, append-nil}
use Rattle.std.specs.Prelude.{filter}
use Rattle.std.proofs.lemmas.Option.{same_Some}
use Rattle.swim_wire.specs.Ids.{has_twice}
use Rattle.swim_history.specs.declared.rows.Row.{Row}
use Rattle.swim_history.specs.declared.rows.RowState.TheVariants.{Up, Failed}
use Rattle.swim_history.specs.declared.entries.Entry.{Entry}
use Rattle.swim_history.specs.Setting.{Setting, IsSetting, ids_of, is_state_up}
use Rattle.swim_history.specs.Rows.{up, row_of, is_listed}
use Rattle.swim_history.specs.Laws.Table.{listed_row, table_bound}
use Rattle.swim_history.specs.Laws.Listed.{listed_once, listed_bound}

-- a member whose row is up is up at its address
pub row_up : (o : Setting) (h : List Entry) (id : ℕ) (row : Row) → row_of o h id ≡ Some row → row.state ≡ Up →
    row_of o h id ≡ Some (up id row.peer)
row_up o h id row found is =
    let at = listed_row o h id (rw (found, is) refl) in
    at.1 ∙ ap (λ peer. Some (up id peer))
    (sym (ap (λ (row : Row). row.peer) (same_Some row (up id at.0) (sym found ∙ at.1))))

-- a member whose row failed isn't listed
pub row_down : (o : Setting) (h : List Entry) (id number : ℕ) (row : Row) → row_of o h id ≡ Some row →
    row.state ≡ Failed number → is_listed o h id ≡ false
row_down o h id number row found is = rw (found, is) refl

-- the members of an opening that are up
abbrev pub members_of : Setting → List ℕ
members_of o = ids_of (filter (λ row. is_state_up row.state) o.rows)

-- stand there once,
pub members_once : (o : Setting) → IsSetting o → has_twice (members_of o) ≡ false
members_once o s = subst (λ (ids : List ℕ). has_twice ids ≡ false) (append-nil (members_of o)) (listed_once o [] s tt)

-- and are at most 128
pub members_bound : (o : Setting) → IsSetting o → length (members_of o) ≤ 128
members_bound o s = omega (arith, ap length (append-nil (members_of o)), listed_bound o [] s tt, table_bound o [] s tt)
