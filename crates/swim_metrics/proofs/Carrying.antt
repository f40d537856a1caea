-- What is counted of each member, one entry on, and as a life begins.
use Rattle.std.proofs.Common.{◌≡◌, ℕ, ◌+◌, Bool, true, false, ◌||◌, cond, nat_eq, List, [], ◌∷◌, map}
use Rattle.std.proofs.Common.{Option, Some, None, refl, sym, ap, ap₂, ◌∙◌, arith}
use Rattle.std.specs.Prelude.{find}
use Rattle.std.specs.Option.{option_map, unwrap_or}
use Rattle.std.proofs.lemmas.Bool.{eqb-true, eq-eqb, or_right}
use Rattle.std.proofs.lemmas.Cmp.{nat_eq_equiv}
use Rattle.swim_wire.specs.Ids.{has}
use Rattle.swim_history.specs.declared.calls.Call.{Call}
use Rattle.swim_history.specs.declared.calls.Call.TheVariants.{Hear}
use Rattle.swim_history.specs.declared.replies.Reply.{Reply}
use Rattle.swim_history.specs.declared.replies.Reply.TheVariants.{Asked, Heard, Started}
use Rattle.swim_history.specs.declared.entries.Entry.{Entry}
use Rattle.swim_history.specs.declared.rows.Change.{Change}
use Rattle.swim_history.specs.declared.rows.Row.{Row}
use Rattle.swim_history.specs.Changes.{table}
use Rattle.swim_history.specs.Setting.{Setting, ids_of, is_state_up}
use Rattle.swim_events.specs.Watched.{Lived, lived_on}
use Rattle.swim_metrics.specs.Counting.{capped}
use Rattle.swim_metrics.specs.Following.{begun}
use Rattle.swim_metrics.specs.Members.{acked_by_relay, acked_directly, asks_it, carried, carried_row, changed_then}
use Rattle.swim_metrics.specs.Members.{counted_then, figures_of, figures_then, is_known, is_of_members, judges_it}
use Rattle.swim_metrics.specs.Members.{members_of, no_tally, since_before, since_in, since_known, tally_in, tally_of}
use Rattle.swim_metrics.specs.Members.{tally_then}
use Rattle.swim_metrics.specs.declared.member_figures.MemberFigures.{MemberFigures}
use Rattle.swim_metrics.specs.declared.member_tallies.MemberTally.{MemberTally}
use Rattle.swim_metrics.proofs.Counted.{counted_if}

-- ---- a member, one entry on

abbrev pub made : Option ℕ → ℕ → ℕ → ℕ → ℕ → ℕ → MemberTally
made heard directly by_relay verdicts asked relayed = record {
  heard = heard;
  directly = directly;
  by_relay = by_relay;
  verdicts = verdicts;
  asked = asked;
  relayed = relayed;
}

same_tally : (heard : Option ℕ) (relayed d e r s v w a b : ℕ) → d ≡ e → r ≡ s → v ≡ w → a ≡ b →
    made heard d r v a relayed ≡ made heard e s w b relayed
same_tally heard relayed d e r s v w a b one two three four = rw (one, two, three, four) refl

tally_on : (m : ℕ) (e : Entry) (before : List Entry) →
    tally_then m e.call e.reply (tally_of m before) ≡ tally_of m (e ∷ before)
tally_on m e before =
    same_tally (tally_of m (e ∷ before)).heard (tally_of m (e ∷ before)).relayed _ _ _ _ _ _ _ _
    (counted_if (acked_directly m) e before _ _ (acked_directly m e) refl refl refl)
    (counted_if (acked_by_relay m) e before _ _ (acked_by_relay m e) refl refl refl)
    (counted_if (judges_it m) e before _ _ (judges_it m e) refl refl refl)
    (counted_if (asks_it m) e before _ _ (asks_it m e) refl refl refl)

none_more : (n : ℕ) → capped (capped n + 0) ≡ capped n
none_more n = omega arith

-- an entry that isn't of members leaves what was counted
quiet_then : (m : ℕ) (call : Call) (reply : Reply) (heard : Option ℕ) (d r v a n : ℕ) → is_of_members reply ≡ false →
    tally_then m call reply (made heard (capped d) (capped r) (capped v) (capped a) n) ≡
    made heard (capped d) (capped r) (capped v) (capped a) n
quiet_then m (Hear source ack) Heard heard d r v a n is = absurd cc
quiet_then m call (Started (Some judged) probe) heard d r v a n is = absurd cc
quiet_then m call (Asked target peer number relays) heard d r v a n is = absurd cc
quiet_then m call reply heard d r v a n is =
    same_tally heard n _ _ _ _ _ _ _ _ (none_more d) (none_more r) (none_more v) (none_more a)

quiet_on : (m : ℕ) (e : Entry) (before : List Entry) → is_of_members e.reply ≡ false →
    tally_of m before ≡ tally_of m (e ∷ before)
quiet_on m e before is =
    sym (quiet_then m e.call e.reply (tally_of m before).heard _ _ _ _ (tally_of m before).relayed is)
    ∙ tally_on m e before

-- ---- the members of a table

-- a member of the table, with what is counted of its id
abbrev pub told : (ℕ → MemberTally) → Row → MemberFigures
told tally row = record { id = row.id; is_up = is_state_up row.state; tally = tally row.id }

with_tally : (row : Row) (one other : MemberTally) → one ≡ other →
    told (λ (m : ℕ). one) row ≡ told (λ (m : ℕ). other) row
with_tally row one other same = ap (λ (t : MemberTally). told (λ (m : ℕ). t) row) same

-- the same of each member of the table
each_same : (rows : List Row) (f g : Row → MemberFigures) →
    ((row : Row) → has (ids_of rows) row.id ≡ true → f row ≡ g row) → map f rows ≡ map g rows
each_same [] f g same = refl
each_same (row ∷ rows) f g same =
    ap₂ (λ one others. one ∷ others) (same row (first (nat_eq row.id row.id) (eq-eqb row.id row.id refl)))
    (each_same rows f g (λ other is. same other (or_right (nat_eq other.id row.id) (has (ids_of rows) other.id) is)))
  where
    first : (b : Bool) → b ≡ true → (b || has (ids_of rows) row.id) ≡ true
    first true is = refl
    first false is = absurd cc

noted_each : (call : Call) (reply : Reply) (old new : ℕ → MemberTally) →
    ((m : ℕ) → tally_then m call reply (old m) ≡ new m) → (rows : List Row) →
    map (figures_then call reply) (map (told old) rows) ≡ map (told new) rows
noted_each call reply old new on [] = refl
noted_each call reply old new on (row ∷ rows) =
    ap₂ (λ one others. one ∷ others)
    (with_tally row (tally_then row.id call reply (old row.id)) (new row.id) (on row.id))
    (noted_each call reply old new on rows)

-- what is held of members, after an entry is counted
counted_on : (since : ℕ → List Entry) (e : Entry) (rows : List Row) →
    counted_then e.call e.reply (map (told (λ m. tally_of m (since m))) rows) ≡
    map (told (λ m. tally_of m (e ∷ since m))) rows
counted_on since e rows = by (is_of_members e.reply) refl where
  by : (b : Bool) → is_of_members e.reply ≡ b →
      cond b (map (figures_then e.call e.reply) (map (told (λ m. tally_of m (since m))) rows))
      (map (told (λ m. tally_of m (since m))) rows) ≡ map (told (λ m. tally_of m (e ∷ since m))) rows
  by true is =
      noted_each e.call e.reply (λ m. tally_of m (since m)) (λ m. tally_of m (e ∷ since m))
      (λ m. tally_on m e (since m)) rows
  by false is =
      each_same rows (told (λ m. tally_of m (since m))) (told (λ m. tally_of m (e ∷ since m)))
      (λ row known. with_tally row (tally_of row.id (since row.id)) (tally_of row.id (e ∷ since row.id))
      (quiet_on row.id e (since row.id) is))

-- what was counted of a member, if it is in the table
found : (tally : ℕ → MemberTally) (m : ℕ) (rows : List Row) →
    tally_in m (map (told tally) rows) ≡ cond (has (ids_of rows) m) (tally m) no_tally
found tally m [] = refl
found tally m (row ∷ rows) = rw (nat_eq_equiv.symm m row.id) (by (nat_eq row.id m) refl (found tally m rows)) where
  by : (b : Bool) → nat_eq row.id m ≡ b →
      tally_in m (map (told tally) rows) ≡ cond (has (ids_of rows) m) (tally m) no_tally →
      unwrap_or (option_map (λ (r : MemberFigures). r.tally) (cond b (Some (told tally row))
      (find (λ (r : MemberFigures). nat_eq r.id m) (map (told tally) rows)))) no_tally
      ≡ cond (b || has (ids_of rows) m) (tally m) no_tally
  by true same again = ap tally (eqb-true row.id m same)
  by false other again = again

-- nothing is counted of a member before it comes into the table
since_if : (m : ℕ) (known : Bool) (entries : List Entry) →
    cond known (tally_of m entries) no_tally ≡ tally_of m (cond known entries [])
since_if m true entries = refl
since_if m false entries = refl

-- ---- a life goes on

-- the table is as it was
stayed : (life : Lived) (older : List Lived) (e : Entry) →
    map (told (λ m. tally_of m (e ∷ since_known m (life ∷ older)))) (table life.opening life.past) ≡
    map (figures_of (lived_on life e ∷ older)) (table life.opening life.past)
stayed life older e =
    each_same (table life.opening life.past) (told (λ m. tally_of m (e ∷ since_known m (life ∷ older))))
    (figures_of (lived_on life e ∷ older))
    (λ row known. with_tally row (tally_of row.id (e ∷ since_known row.id (life ∷ older)))
    (tally_of row.id (since_known row.id (lived_on life e ∷ older)))
    (ap (λ (b : Bool). tally_of row.id (cond b (e ∷ since_known row.id (life ∷ older)) [])) (sym known)))

-- the table is another
changed : (life : Lived) (older : List Lived) (e : Entry) (rows : List Row) →
    carried (map (told (λ m. tally_of m (e ∷ since_known m (life ∷ older)))) (table life.opening life.past)) rows ≡
    map (figures_of (lived_on life e ∷ older)) rows
changed life older e rows =
    let held = map (told (λ m. tally_of m (e ∷ since_known m (life ∷ older)))) (table life.opening life.past) in
    each_same rows (carried_row held) (figures_of (lived_on life e ∷ older))
    (λ row known. with_tally row (tally_in row.id held) (tally_of row.id (since_known row.id (lived_on life e ∷ older)))
    (found (λ m. tally_of m (e ∷ since_known m (life ∷ older))) row.id (table life.opening life.past)
    ∙ since_if row.id (is_known life.opening life.past row.id) (e ∷ since_known row.id (life ∷ older))))

change_on : (life : Lived) (older : List Lived) (e : Entry) (change : Option Change) (rows : List Row) →
    (change ≡ None → rows ≡ table life.opening life.past) → rows ≡ table life.opening (e ∷ life.past) →
    changed_then change rows
    (map (told (λ m. tally_of m (e ∷ since_known m (life ∷ older)))) (table life.opening life.past)) ≡
    members_of (lived_on life e ∷ older)
change_on life older e None rows same is =
    stayed life older e ∙ ap (map (figures_of (lived_on life e ∷ older))) (sym (same refl) ∙ is)
change_on life older e (Some change) rows same is =
    changed life older e rows ∙ ap (map (figures_of (lived_on life e ∷ older))) is

pub went_on : (life : Lived) (older : List Lived) (e : Entry) (call : Call) (reply : Reply) (change : Option Change)
    (rows : List Row) (old counted new : List MemberFigures) → e.call ≡ call → e.reply ≡ reply →
    old ≡ members_of (life ∷ older) → counted ≡ counted_then call reply old → new ≡ changed_then change rows counted →
    (change ≡ None → rows ≡ table life.opening life.past) → rows ≡ table life.opening (e ∷ life.past) →
    new ≡ members_of (lived_on life e ∷ older)
went_on life older e call reply change rows old counted new calls replies held counts becomes same is =
    let counted_is : counted ≡
    map (told (λ m. tally_of m (e ∷ since_known m (life ∷ older)))) (table life.opening life.past) =
    counts ∙ ap₂ (λ (c : Call) (r : Reply). counted_then c r old) (sym calls) (sym replies)
    ∙ ap (counted_then e.call e.reply) held
    ∙ counted_on (λ m. since_known m (life ∷ older)) e (table life.opening life.past) in
    becomes ∙ ap (changed_then change rows) counted_is ∙ change_on life older e change rows same is

-- ---- a life begins

before_life : (m : ℕ) (lives : List Lived) → tally_in m (members_of lives) ≡ tally_of m (since_before m lives)
before_life m [] = refl
before_life m (life ∷ older) =
    found (λ m. tally_of m (since_known m (life ∷ older))) m (table life.opening life.past)
    ∙ since_if m (is_known life.opening life.past m) (since_known m (life ∷ older))

pub began : (number : ℕ) (o : Setting) (lives : List Lived) (members new : List MemberFigures) (rows : List Row) →
    members ≡ members_of lives → rows ≡ table o [] → new ≡ carried members rows →
    new ≡ members_of (begun number o lives)
began number o lives members new rows held is carries =
    carries ∙ ap₂ carried held is
    ∙ each_same (table o []) (carried_row (members_of lives)) (figures_of (begun number o lives))
    (λ row known. with_tally row (tally_in row.id (members_of lives)) (tally_of row.id (since_before row.id lives))
    (before_life row.id lives))
