-- Whom a datagram shows to be there again, by what is kept and by the history.
use Rattle.std.proofs.Common.{◌≡◌, ℕ, ◌<◌, Bool, true, false, cond, ◌&&◌, nat_eq, nat_le, nat_lt, suc, List, [], ◌∷◌}
use Rattle.std.proofs.Common.{take, Option, Some, None, refl, sym, ap, ◌∙◌, arith}
use Rattle.std.specs.Option.{is_some, option_and_then, option_map}
use Rattle.swim_wire.specs.Address.{Address}
use Rattle.swim_wire.specs.Messages.{Message}
use Rattle.swim_wire.specs.declared.messages.Kind.{Kind}
use Rattle.swim_wire.specs.declared.messages.Kind.TheVariants.{Ping, PingReq, Ack}
use Rattle.swim_history.specs.Rows.{row_at}
use Rattle.swim_history.specs.declared.rows.Row.{Row}
use Rattle.swim_history.specs.declared.rows.RowState.{RowState}
use Rattle.swim_history.specs.declared.rows.RowState.TheVariants.{Up, Failed}
use Rattle.swim_rejoin.specs.Believing.{believed, is_believed, is_ready, is_same, tells}
use Rattle.swim_rejoin.specs.Failed.{is_failed, verdict_of}
use Rattle.swim_rejoin.specs.Histories.{Event, knocks_at, last_knocks, table_in, times}
use Rattle.swim_rejoin.specs.Knowing.{known_as, padded}
use Rattle.swim_rejoin.specs.Rejoiners.{AreMarked, Follows, Kept, is_marked, shown_by, shown_of}
use Rattle.swim_rejoin.proofs.Finding.{row_id, same_number, some_is}
use Rattle.swim_rejoin.proofs.Padding.{count_by-padded, list_any-padded}

-- the zeros behind the last knocks change nothing
tells-padded : (kind : Kind) (me : ℕ) (knocks : List ℕ) (m : Message) → 0 < m.number →
    tells kind me (padded 64 knocks) m ≡ tells kind me (take 64 knocks) m
tells-padded Ping me knocks m positive = refl
tells-padded PingReq me knocks m positive = refl
tells-padded Ack me knocks m positive =
    ap (λ b. nat_eq m.initiator me && nat_eq m.target m.sender && b) (list_any-padded m.number 64 knocks positive)

is_ready-padded : (state : RowState) (times : ℕ) (knocks : List ℕ) (number : ℕ) →
    is_ready state times (padded 64 knocks) number ≡ is_ready state times (take 64 knocks) number
is_ready-padded Up times knocks number = refl
is_ready-padded (Failed verdict) times knocks number =
    ap (λ n. nat_lt verdict number && nat_le times n) (count_by-padded verdict 64 knocks)

is_believed-padded : (me : ℕ) (row : Row) (knocks : List ℕ) (times : ℕ) (m : Message) (from : Address) → 0 < m.number →
    is_believed me row (padded 64 knocks) times m from ≡ is_believed me row (take 64 knocks) times m from
is_believed-padded me row knocks times m from positive =
    ap (λ b. b && is_same row.peer from && tells m.kind me (padded 64 knocks) m)
    (is_ready-padded row.state times knocks m.number)
    ∙ ap (λ b. is_ready row.state times (take 64 knocks) m.number && is_same row.peer from && b)
    (tells-padded m.kind me knocks m positive)

-- the row of the sender, where the history believes it
abbrev pub by_history : ℕ → List Event → Message → Address → Option Row → Option Row
by_history me h m from o =
    option_and_then (λ row. cond (is_believed me row (last_knocks m.sender h) (times m.sender h) m from) (Some row)
    None) o

pub shown-is : (k : Kept) (h : List Event) (m : Message) (from : Address) → 0 < m.number → Follows k h →
    shown_by k m from ≡ by_history k.me h m from (row_at (table_in h) m.sender)
shown-is k h m from number f =
    ap (option_and_then (shown_of k.me m from)) (f.known m.sender)
    ∙ by_row (row_at (table_in h) m.sender) refl where
      by_row : (o : Option Row) → row_at (table_in h) m.sender ≡ o →
          option_and_then (shown_of k.me m from) (option_map (known_as h) o)
          ≡ by_history k.me h m from o
      by_row None e = refl
      by_row (Some row) e =
          ap (λ b. cond b (Some row) None)
          (is_believed-padded k.me row (knocks_at row.id h) (times row.id h) m from number)
          ∙ ap (λ id. cond (is_believed k.me row (last_knocks id h) (times id h) m from) (Some row) None)
          (row_id (table_in h) m.sender row e)

-- believed, where rejoin isn't 0
pub believed-some : (rejoin me : ℕ) (h : List Event) (m : Message) (from : Address) → 0 < rejoin →
    believed rejoin me h m from ≡ by_history me h m from (row_at (table_in h) m.sender)
believed-some rejoin me h m from positive =
    ap (λ b. cond b None (by_history me h m from (row_at (table_in h) m.sender))) (differs rejoin positive) where
      differs : (n : ℕ) → 0 < n → nat_eq n 0 ≡ false
      differs n p = grind arith

-- a member without a mark isn't failed
not_failed : (rows : List Row) (marks : List Bool) (id : ℕ) (row : Row) → AreMarked rows marks →
    row_at rows id ≡ Some row → is_marked marks id ≡ false → is_failed row ≡ false
not_failed [] marks id row marked found mark = cc
not_failed (first ∷ rows) marks id row marked found mark =
    by_test (nat_eq first.id id) refl found
    (not_failed rows marks id row (λ place d within. marked (suc place) d (omega arith))) where
      by_failed : (b : Bool) → is_failed first ≡ b → is_marked marks first.id ≡ false → b ≡ false
      by_failed true e none = let yes = marked 0 first (omega arith) e in cc
      by_failed false e none = refl

      by_test : (b : Bool) → nat_eq first.id id ≡ b → cond b (Some first) (row_at rows id) ≡ Some row →
          (row_at rows id ≡ Some row → is_marked marks id ≡ false → is_failed row ≡ false) → is_failed row ≡ false
      by_test true e h rest =
          ap is_failed (sym (some_is first row h))
          ∙ by_failed (is_failed first) refl (ap (is_marked marks) (same_number first.id id e) ∙ mark)
      by_test false e h rest = rest h mark

not_ready : (state : RowState) (times : ℕ) (knocks : List ℕ) (number : ℕ) → is_some (verdict_of state) ≡ false →
    is_ready state times knocks number ≡ false
not_ready Up times knocks number e = refl
not_ready (Failed verdict) times knocks number e = cc

-- so a message of a sender without a mark isn't believed
pub unmarked : (k : Kept) (h : List Event) (m : Message) (from : Address) → Follows k h →
    is_marked k.marks m.sender ≡ false →
    by_history k.me h m from (row_at (table_in h) m.sender) ≡ None
unmarked k h m from f mark = by_row (row_at (table_in h) m.sender) refl where
  by_row : (o : Option Row) → row_at (table_in h) m.sender ≡ o → by_history k.me h m from o ≡ None
  by_row None e = refl
  by_row (Some row) e =
      ap (λ b. cond (b && is_same row.peer from && tells m.kind k.me (last_knocks m.sender h) m) (Some row) None)
      (not_ready row.state (times m.sender h) (last_knocks m.sender h) m.number
      (not_failed (table_in h) k.marks m.sender row f.marked e mark))

-- nobody is believed where rejoin is 0
pub believed-none : (rejoin me : ℕ) (h : List Event) (m : Message) (from : Address) → rejoin ≡ 0 →
    believed rejoin me h m from ≡ None
believed-none rejoin me h m from e =
    ap (λ n. cond (nat_eq n 0) None (by_history me h m from (row_at (table_in h) m.sender))) e
