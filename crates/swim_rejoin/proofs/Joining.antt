-- What is so of a member that is joined again.
use Rattle.std.proofs.Common.{◌≡◌, ◌≢◌, ℕ, ◌<◌, ◌≤◌, Bool, true, false, cond, ◌&&◌, nat_eq, nat_lt}
use Rattle.std.proofs.Common.{List, Option, Some, None, refl, sym, ap, ◌∙◌, subst, arith}
use Rattle.std.specs.List.{count_by}
use Rattle.std.specs.Option.{is_some, option_and_then}
use Rattle.std.specs.Str.{bytes_eq}
use Rattle.std.proofs.lemmas.Bool.{and_parts, le-leb, leb-true, lt-ltb, ltb-true}
use Rattle.std.proofs.lemmas.Slice.Eq.{bytes_eq-Decides}
use Rattle.swim_wire.specs.Address.{Address}
use Rattle.swim_wire.specs.Messages.{Message}
use Rattle.swim_wire.specs.declared.messages.Kind.{Kind}
use Rattle.swim_wire.specs.declared.messages.Kind.TheVariants.{Ping}
use Rattle.swim_history.specs.Rows.{row_at}
use Rattle.swim_history.specs.declared.rows.Row.{Row}
use Rattle.swim_history.specs.declared.rows.RowState.{RowState}
use Rattle.swim_history.specs.declared.rows.RowState.TheVariants.{Up, Failed}
use Rattle.swim_rejoin.specs.Believing.{believed, is_believed, is_ready, is_same, tells}
use Rattle.swim_rejoin.specs.Failed.{is_failed, verdict_of}
use Rattle.swim_rejoin.specs.Histories.{Event, last_knocks, table_in, times}
use Rattle.swim_rejoin.specs.Waits.{has_waited}
use Rattle.swim_rejoin.proofs.Finding.{same_number, same_self, some_is}
use Rattle.swim_rejoin.proofs.Showing.{believed-some, by_history}

abbrev made : List ℕ → ℕ → Address
made ip port = record { ip = ip; port = port }

-- addresses that are found to be the same are one
one_address : (a b : Address) → is_same a b ≡ true → a ≡ b
one_address a b h =
    let parts = and_parts (bytes_eq a.ip b.ip) (nat_eq a.port b.port) h in
    ap (λ ip. made ip a.port) ((bytes_eq-Decides a.ip b.ip).0 parts.0) ∙
    ap (made b.ip) (same_number a.port b.port parts.1)

-- the row is the sender's, and the message believed of it
believed-parts : (rejoin me : ℕ) (h : List Event) (m : Message) (from : Address) (row : Row) →
    believed rejoin me h m from ≡ Some row →
    (row_at (table_in h) m.sender ≡ Some row) ×
    (is_believed me row (last_knocks m.sender h) (times m.sender h) m from ≡ true)
believed-parts rejoin me h m from row e = by_zero (nat_eq rejoin 0) e where
  by_test : (r : Row) → row_at (table_in h) m.sender ≡ Some r → (b : Bool) →
      is_believed me r (last_knocks m.sender h) (times m.sender h) m from ≡ b → cond b (Some r) None ≡ Some row →
      (row_at (table_in h) m.sender ≡ Some row) ×
      (is_believed me row (last_knocks m.sender h) (times m.sender h) m from ≡ true)
  by_test r at true is e =
      let P : Row → Type 0 = λ x. (row_at (table_in h) m.sender ≡ Some x) ×
      (is_believed me x (last_knocks m.sender h) (times m.sender h) m from ≡ true) in
      subst P (some_is r row e) (at, is)
  by_test r at false is e = cc

  by_row : (o : Option Row) → row_at (table_in h) m.sender ≡ o →
      option_and_then (λ r. cond (is_believed me r (last_knocks m.sender h) (times m.sender h) m from) (Some r) None)
      o ≡ Some row →
      (row_at (table_in h) m.sender ≡ Some row) ×
      (is_believed me row (last_knocks m.sender h) (times m.sender h) m from ≡ true)
  by_row None at e = cc
  by_row (Some r) at e = by_test r at (is_believed me r (last_knocks m.sender h) (times m.sender h) m from) refl e

  by_zero : (b : Bool) →
      cond b None (option_and_then
      (λ r. cond (is_believed me r (last_knocks m.sender h) (times m.sender h) m from) (Some r) None)
      (row_at (table_in h) m.sender)) ≡ Some row →
      (row_at (table_in h) m.sender ≡ Some row) ×
      (is_believed me row (last_knocks m.sender h) (times m.sender h) m from ≡ true)
  by_zero true e = cc
  by_zero false e = by_row (row_at (table_in h) m.sender) refl e

-- the three parts of a belief
believed-of : (me : ℕ) (row : Row) (knocks : List ℕ) (times : ℕ) (m : Message) (from : Address) →
    is_believed me row knocks times m from ≡ true →
    (is_ready row.state times knocks m.number ≡ true) × (is_same row.peer from ≡ true) ×
    (tells m.kind me knocks m ≡ true)
believed-of me row knocks times m from e =
    let ready = is_ready row.state times knocks m.number in
    let all = and_parts (ready && is_same row.peer from) (tells m.kind me knocks m) e in
    let two = and_parts ready (is_same row.peer from) all.0 in
    (two.0, two.1, all.1)

failed_if_ready : (state : RowState) (times : ℕ) (knocks : List ℕ) (number : ℕ) →
    is_ready state times knocks number ≡ true → is_some (verdict_of state) ≡ true
failed_if_ready Up times knocks number e = cc
failed_if_ready (Failed verdict) times knocks number e = refl

pub joined-row : (rejoin me : ℕ) (h : List Event) (m : Message) (from : Address) (row : Row) →
    believed rejoin me h m from ≡ Some row → row_at (table_in h) m.sender ≡ Some row
joined-row rejoin me h m from row e = (believed-parts rejoin me h m from row e).0

pub joined-failed : (rejoin me : ℕ) (h : List Event) (m : Message) (from : Address) (row : Row) →
    believed rejoin me h m from ≡ Some row → is_failed row ≡ true
joined-failed rejoin me h m from row e =
    let parts = believed-of me row (last_knocks m.sender h) (times m.sender h) m from
    (believed-parts rejoin me h m from row e).1 in
    failed_if_ready row.state (times m.sender h) (last_knocks m.sender h) m.number parts.0

pub joined-address : (rejoin me : ℕ) (h : List Event) (m : Message) (from : Address) (row : Row) →
    believed rejoin me h m from ≡ Some row → row.peer ≡ from
joined-address rejoin me h m from row e =
    let parts = believed-of me row (last_knocks m.sender h) (times m.sender h) m from
    (believed-parts rejoin me h m from row e).1 in
    one_address row.peer from parts.1

pub joined-told : (rejoin me : ℕ) (h : List Event) (m : Message) (from : Address) (row : Row) →
    believed rejoin me h m from ≡ Some row → tells m.kind me (last_knocks m.sender h) m ≡ true
joined-told rejoin me h m from row e =
    (believed-of me row (last_knocks m.sender h) (times m.sender h) m from
    (believed-parts rejoin me h m from row e).1).2

pub stranger : (rejoin me : ℕ) (h : List Event) (m : Message) (from : Address) (row : Row) →
    row_at (table_in h) m.sender ≡ Some row → row.peer ≢ from → believed rejoin me h m from ≡ None
stranger rejoin me h m from row at other = by_result (believed rejoin me h m from) refl where
  by_result : (o : Option Row) → believed rejoin me h m from ≡ o → believed rejoin me h m from ≡ None
  by_result None e = e
  by_result (Some r) e =
      let same : row ≡ r = some_is row r (sym at ∙ joined-row rejoin me h m from r e) in
      absurd (other (ap (λ (x : Row). x.peer) same ∙ joined-address rejoin me h m from r e))

-- the ack is of a knock that was sent after the verdict, and there were enough of these
joined-ready : (rejoin me : ℕ) (h : List Event) (m : Message) (from : Address) (row : Row) (verdict : ℕ) →
    believed rejoin me h m from ≡ Some row → row.state ≡ Failed verdict →
    (nat_lt verdict m.number ≡ true) × (has_waited (times m.sender h) (last_knocks m.sender h) verdict ≡ true)
joined-ready rejoin me h m from row verdict e failed =
    let parts = believed-of me row (last_knocks m.sender h) (times m.sender h) m from
    (believed-parts rejoin me h m from row e).1 in
    and_parts (nat_lt verdict m.number) (has_waited (times m.sender h) (last_knocks m.sender h) verdict)
    (ap (λ state. is_ready state (times m.sender h) (last_knocks m.sender h) m.number) (sym failed) ∙ parts.0)

pub joined-later : (rejoin me : ℕ) (h : List Event) (m : Message) (from : Address) (row : Row) (verdict : ℕ) →
    believed rejoin me h m from ≡ Some row → row.state ≡ Failed verdict → verdict < m.number
joined-later rejoin me h m from row verdict e failed =
    ltb-true verdict m.number (joined-ready rejoin me h m from row verdict e failed).0

pub joined-waited : (rejoin me : ℕ) (h : List Event) (m : Message) (from : Address) (row : Row) (verdict : ℕ) →
    believed rejoin me h m from ≡ Some row → row.state ≡ Failed verdict →
    times m.sender h ≤ count_by (nat_lt verdict) (last_knocks m.sender h)
joined-waited rejoin me h m from row verdict e failed =
    leb-true (times m.sender h) (count_by (nat_lt verdict) (last_knocks m.sender h))
    (joined-ready rejoin me h m from row verdict e failed).1

-- ---- who isn't

pub recorded : (rejoin me : ℕ) (h : List Event) (m : Message) (from : Address) (row : Row) (verdict : ℕ) →
    row_at (table_in h) m.sender ≡ Some row → row.state ≡ Failed verdict → m.number ≤ verdict →
    believed rejoin me h m from ≡ None
recorded rejoin me h m from row verdict at failed before = by_result (believed rejoin me h m from) refl where
  by_result : (o : Option Row) → believed rejoin me h m from ≡ o → believed rejoin me h m from ≡ None
  by_result None e = e
  by_result (Some r) e =
      let same : row ≡ r = some_is row r (sym at ∙ joined-row rejoin me h m from r e) in
      let later = joined-later rejoin me h m from r verdict e (ap (λ (x : Row). x.state) (sym same) ∙ failed) in
      absurd (omega (arith, later, before))

pub pinged : (rejoin me : ℕ) (h : List Event) (m : Message) (from : Address) → m.kind ≡ Ping →
    believed rejoin me h m from ≡ None
pinged rejoin me h m from ping = by_result (believed rejoin me h m from) refl where
  by_result : (o : Option Row) → believed rejoin me h m from ≡ o → believed rejoin me h m from ≡ None
  by_result None e = e
  by_result (Some r) e =
      let told = joined-told rejoin me h m from r e in
      let no : false ≡ true = ap (λ (kind : Kind). tells kind me (last_knocks m.sender h) m) (sym ping) ∙ told in
      cc

-- ---- who is

same_address : (a : Address) → is_same a a ≡ true
same_address a = ap (λ b. b && nat_eq a.port a.port) ((bytes_eq-Decides a.ip a.ip).1 refl) ∙ same_self a.port

ready : (state : RowState) (times : ℕ) (knocks : List ℕ) (number verdict : ℕ) → state ≡ Failed verdict →
    verdict < number → times ≤ count_by (nat_lt verdict) knocks → is_ready state times knocks number ≡ true
ready state times knocks number verdict failed later waited =
    ap (λ s. is_ready s times knocks number) failed
    ∙ ap (λ b. b && has_waited times knocks verdict) (lt-ltb verdict number later)
    ∙ le-leb times (count_by (nat_lt verdict) knocks) waited

pub answered : (rejoin me : ℕ) (h : List Event) (m : Message) (row : Row) (verdict : ℕ) → 0 < rejoin →
    row_at (table_in h) m.sender ≡ Some row → row.state ≡ Failed verdict → verdict < m.number →
    tells m.kind me (last_knocks m.sender h) m ≡ true →
    times m.sender h ≤ count_by (nat_lt verdict) (last_knocks m.sender h) →
    believed rejoin me h m row.peer ≡ Some row
answered rejoin me h m row verdict positive at failed later told waited =
    let knocks = last_knocks m.sender h in
    believed-some rejoin me h m row.peer positive
    ∙ ap (by_history me h m row.peer) at
    ∙ ap (λ b. cond (b && is_same row.peer row.peer && tells m.kind me knocks m) (Some row) None)
    (ready row.state (times m.sender h) knocks m.number verdict failed later waited)
    ∙ ap (λ b. cond (b && tells m.kind me knocks m) (Some row) None) (same_address row.peer)
    ∙ ap (λ b. cond b (Some row) None) told
