-- The lists of a round hold exactly the members that are up, each once.
use Rattle.std.proofs.Common.{◌≡◌, ◌≢◌, ℕ, ◌+◌, ◌-◌, ◌<◌, ◌≤◌, Bool, true, false, ◌&&◌, ◌||◌, cond, nat_lt, nat_eq}
use Rattle.std.proofs.Common.{List, [], ◌∷◌, ◌++◌, length, Option, Some, None, refl, sym, ap, subst, ◌∙◌, arith}
use Rattle.std.proofs.Common.{append_assoc, append-nil}
use Rattle.std.proofs.Math.Bool.{and-true, and-false}
use Rattle.std.proofs.lemmas.Option.{same_Some}
use Rattle.std.proofs.lemmas.Bool.{and_parts, or_parts, or_from, or_right, eqb-true, eq-eqb}
use Rattle.std.proofs.lemmas.Cmp.{nat_eq_equiv}
use Rattle.std.proofs.lemmas.List.{length-map}
use Rattle.std.proofs.lemmas.List.Elements.{filter-append}
use Rattle.std.proofs.lemmas.List.Folds.{list_any-append}
use Rattle.std.proofs.lemmas.List.Sorted.{IsPermutation-refl, IsPermutation-sym, IsPermutation-trans}
use Rattle.std.proofs.lemmas.List.Sorted.{IsPermutation-insert, IsPermutation-append_left, IsPermutation-append_right}
use Rattle.std.proofs.lemmas.List.Sorted.{IsPermutation-middle}
use Rattle.std.proofs.lemmas.Map.Made.{length-le_from_is_member}
use Rattle.std.specs.Prelude.{filter, find, not, insert, is_some, option_and_then, IsPermutation}
use Rattle.std.specs.List.{list_any}
use Rattle.std.specs.Option.{option_map}
use Rattle.swim_wire.specs.Address.{Address}
use Rattle.swim_wire.specs.Ids.{has, has_twice, without, front}
use Rattle.swim_wire.specs.IdLaws.{differ}
use Rattle.swim_wire.specs.IdLaws.{has-IsPermutation, once-IsPermutation, has_part, once_part}
use Rattle.swim_wire.specs.Round.{Lists, all_of, leave, leave_judged, MayDraw, redraw, advanced, advance, join_at}
use Rattle.swim_history.specs.declared.rows.Row.{Row}
use Rattle.swim_history.specs.declared.calls.Call.{Call}
use Rattle.swim_history.specs.declared.calls.Call.TheVariants.{Tick, Join, Remove}
use Rattle.swim_history.specs.declared.replies.Reply.{Reply}
use Rattle.swim_history.specs.declared.replies.Reply.TheVariants.{Started, Joined, Removed}
use Rattle.swim_history.specs.declared.replies.Probe.{Probe}
use Rattle.swim_history.specs.declared.entries.Choice.{Choice}
use Rattle.swim_history.specs.declared.entries.Choice.TheVariants.{Nothing, Round}
use Rattle.swim_history.specs.declared.entries.Entry.{Entry}
use Rattle.swim_history.specs.Setting.{Setting, IsSetting, ids_of, is_state_up}
use Rattle.swim_history.specs.Events.{is_starting, is_start, probe_in, is_removing, removes}
use Rattle.swim_history.specs.Clock.{period_number}
use Rattle.swim_history.specs.Aim.{since, unless, last_probed, aim, was_heard, unheard}
use Rattle.swim_history.specs.Rows.{up, failed, row_at, row_then, row_of, is_up, is_listed}
use Rattle.swim_history.specs.Round.{drawn, lists_then, lists, listed}
use Rattle.swim_history.specs.Run.{IsProbe, Answers, IsRun}
use Rattle.swim_history.specs.Laws.Run.{begins}
use Rattle.swim_history.specs.Changes.{table, known_count}
use Rattle.swim_history.specs.Laws.Table.{table_shows, table_bound}

-- ids of which none stands twice, and each of which stands on another list, are no more than those of that list
pub no_longer : (xs ys : List ℕ) → has_twice xs ≡ false → ((id : ℕ) → has xs id ≡ true → has ys id ≡ true) →
    length xs ≤ length ys
no_longer xs ys once within = length-le_from_is_member nat_eq_equiv xs ys (differ xs once) within

-- ---- the lists of a round

pub all-advanced : (probed rest : List ℕ) → all_of (advanced probed rest) ≡ probed ++ rest
all-advanced probed [] = refl
all-advanced probed (id ∷ rest) = append_assoc probed (id ∷ []) rest

pub all-redraw : (order : Option (List ℕ)) (r : Lists) → MayDraw order r →
    IsPermutation (all_of r) (all_of (redraw order r))
all-redraw None r d = IsPermutation-refl (all_of r)
all-redraw (Some order) r d = rw (d.0, append-nil r.probed) d.2

-- the members that stay listed at a start are in its lists
pub all-started : (judged : Option ℕ) (order : Option (List ℕ)) (r : Lists) → MayDraw order (leave_judged judged r)
    → IsPermutation (all_of (leave_judged judged r)) (all_of (advance (redraw order (leave_judged judged r))))
all-started judged order r d =
    let next = redraw order (leave_judged judged r) in
    subst (λ (ids : List ℕ). IsPermutation (all_of (leave_judged judged r)) ids)
    (sym (all-advanced next.probed next.rest)) (all-redraw order (leave_judged judged r) d)

pub all-leave : (id : ℕ) (r : Lists) → all_of (leave id r) ≡ without id (all_of r)
all-leave id r = sym (filter-append (λ other. not (nat_eq other id)) r.probed r.rest)

all-join_at : (id place : ℕ) (r : Lists) → IsPermutation (id ∷ all_of r) (all_of (join_at id place r))
all-join_at id place r = by (nat_lt place (length r.probed)) where
  by : (b : Bool) →
      IsPermutation (id ∷ all_of r)
      (all_of (cond b (record { probed = insert r.probed place id; rest = r.rest })
      (record { probed = r.probed; rest = insert r.rest (place - length r.probed) id })))
  by true = IsPermutation-append_left r.rest (id ∷ r.probed) (insert r.probed place id)
      (IsPermutation-insert r.probed place id)
  by false =
      IsPermutation-trans (id ∷ (r.probed ++ r.rest)) (r.probed ++ id ∷ r.rest)
      (r.probed ++ insert r.rest (place - length r.probed) id)
      (IsPermutation-sym (r.probed ++ id ∷ r.rest) (id ∷ (r.probed ++ r.rest))
      (IsPermutation-middle r.probed id r.rest))
      (IsPermutation-append_right r.probed (id ∷ r.rest) (insert r.rest (place - length r.probed) id)
      (IsPermutation-insert r.rest (place - length r.probed) id))

-- ---- rows

-- the ids of rows are those that have a row
pub has_row : (rows : List Row) (id : ℕ) → has (ids_of rows) id ≡ is_some (row_at rows id)
has_row [] id = refl
has_row (row ∷ rows) id = rw (nat_eq_equiv.symm id row.id) (by (nat_eq row.id id) (has_row rows id)) where
  by : (b : Bool) → has (ids_of rows) id ≡ is_some (row_at rows id) → (b || has (ids_of rows) id) ≡ is_some
      (cond b (Some row) (row_at rows id))
  by true again = refl
  by false again = again

up_known : (row : Option Row) → is_some row ≡ false → is_up row ≡ false
up_known None unknown = refl
up_known (Some row) unknown = absurd cc

-- the members that are up at the start
pub listed_first : (rows : List Row) → has_twice (ids_of rows) ≡ false → (id : ℕ) →
    has (ids_of (filter (λ row. is_state_up row.state) rows)) id ≡ is_up (row_at rows id)
listed_first [] once id = refl
listed_first (row ∷ rows) once id =
    let parts = or_parts (has (ids_of rows) row.id) (has_twice (ids_of rows)) once in
    by (is_state_up row.state) refl (nat_eq row.id id) refl parts.0 (listed_first rows parts.1 id)
  where
    ups : List Row
    ups = filter (λ row. is_state_up row.state) rows

    by : (s : Bool) → is_state_up row.state ≡ s → (b : Bool) → nat_eq row.id id ≡ b → has (ids_of rows) row.id ≡ false →
        has (ids_of ups) id ≡ is_up (row_at rows id)
        → has (ids_of (cond s (row ∷ ups) ups)) id ≡ is_up (cond b (Some row) (row_at rows id))
    by true is true same none again = rw (nat_eq_equiv.symm id row.id, same) (sym is)
    by false is true same none again =
        let unknown : has (ids_of rows) id ≡ false =
        subst (λ x. has (ids_of rows) x ≡ false) (eqb-true row.id id same) none in
        again ∙ up_known (row_at rows id) (sym (has_row rows id) ∙ unknown) ∙ sym is
    by true is false same none again = rw (nat_eq_equiv.symm id row.id, same) again
    by false is false same none again = again

-- ---- what an entry does

-- who stays listed was listed
pub stays_from : (judged : Option ℕ) (r : Lists) (id : ℕ) → has (all_of (leave_judged judged r)) id ≡ true →
    has (all_of r) id ≡ true
stays_from None r id is = is
stays_from (Some judged) r id is =
    (and_parts (has (all_of r) id) (not (nat_eq id judged))
    (sym (ap (λ (ids : List ℕ). has ids id) (all-leave judged r) ∙ has_part (λ other. not (nat_eq other judged)) id
    (all_of r)) ∙ is)).0

failed_down : (number : ℕ) (row : Option Row) → is_up (option_map (failed number) row) ≡ false
failed_down number None = refl
failed_down number (Some row) = refl

-- a member that leaves is no longer listed
without_is : (left id : ℕ) (ids : List ℕ) (old new : Option Row) → has ids id ≡ is_up old → is_up new ≡ false →
    has (without left ids) id ≡ is_up (cond (nat_eq left id) new old)
without_is left id ids old new is down =
    has_part (λ other. not (nat_eq other left)) id ids ∙ (rw (is, nat_eq_equiv.symm id left) (by (nat_eq left id)))
  where
    by : (b : Bool) → (is_up old && not b) ≡ is_up (cond b new old)
    by true = and-false (is_up old) ∙ sym down
    by false = and-true (is_up old)

judged_is : (judged : Option ℕ) (probe : Option Probe) (number id : ℕ) (r : Lists) (old : Option Row) →
    has (all_of r) id ≡ is_up old → has (all_of (leave_judged judged r)) id ≡ is_up
    (row_then Tick (Started judged probe) number id old)
judged_is None probe number id r old is = is
judged_is (Some judged) probe number id r old is =
    rw (all-leave judged r)
    (without_is judged id (all_of r) old (option_map (failed number) old) is (failed_down number old))

joined_is : (joiner place id : ℕ) (peer : Address) (r : Lists) (old : Option Row) → has (all_of r) id ≡ is_up old →
    has (all_of (join_at joiner place r)) id ≡ is_up (cond (nat_eq joiner id) (Some (up joiner peer)) old)
joined_is joiner place id peer r old is =
    has-IsPermutation id (joiner ∷ all_of r) (all_of (join_at joiner place r)) (all-join_at joiner place r)
    ∙ (rw (nat_eq_equiv.symm id joiner, is) (by (nat_eq joiner id)))
  where
    by : (b : Bool) → (b || is_up old) ≡ is_up (cond b (Some (up joiner peer)) old)
    by true = refl
    by false = refl

listed_then : (o : Setting) (h : List Entry) (call : Call) (reply : Reply) (choice : Choice) (id : ℕ) →
    Answers o h call reply choice → has (listed o h) id ≡ is_listed o h id
    → has (all_of (lists_then call reply choice (lists o h))) id ≡ is_up
    (row_then call reply (period_number o h) id (row_of o h id))
listed_then o h Tick (Started judged probe) choice id a is =
    has-IsPermutation id (all_of (leave_judged judged (lists o h))) _
    (all-started judged (drawn choice) (lists o h) a.draws)
    ∙ judged_is judged probe (period_number o h) id (lists o h) (row_of o h id) is
listed_then o h (Join joiner peer) (Joined place) Nothing id a is =
    joined_is joiner place id peer (lists o h) (row_of o h id) is
listed_then o h (Join joiner peer) (Joined place) (Round order) id a is = absurd a
listed_then o h (Remove gone) Removed Nothing id a is =
    rw (all-leave gone (lists o h)) (without_is gone id (listed o h) (row_of o h id) None is refl)
listed_then o h (Remove gone) Removed (Round order) id a is = absurd a
listed_then o h call reply choice id a is = is

-- the listed members are those that are up
pub listed_is : (o : Setting) (h : List Entry) → IsSetting o → IsRun o h → (id : ℕ) →
    has (listed o h) id ≡ is_listed o h id
listed_is o [] s run id = rw (append-nil (lists o []).probed) (listed_first o.rows s.once id)
listed_is o (e ∷ h) s run id = listed_then o h e.call e.reply e.choice id run.0.answer (listed_is o h s run.1 id)

-- ---- each once

pub once_up : (rows : List Row) → has_twice (ids_of rows) ≡ false →
    has_twice (ids_of (filter (λ row. is_state_up row.state) rows)) ≡ false
once_up [] once = refl
once_up (row ∷ rows) once =
    let parts = or_parts (has (ids_of rows) row.id) (has_twice (ids_of rows)) once in
    by (is_state_up row.state)
    (listed_first rows parts.1 row.id ∙ up_known (row_at rows row.id) (sym (has_row rows row.id) ∙ parts.0))
    (once_up rows parts.1)
  where
    ups : List Row
    ups = filter (λ row. is_state_up row.state) rows

    by : (b : Bool) → has (ids_of ups) row.id ≡ false → has_twice (ids_of ups) ≡ false →
        has_twice (ids_of (cond b (row ∷ ups) ups)) ≡ false
    by true none again = or_from (has (ids_of ups) row.id) (has_twice (ids_of ups)) none again
    by false none again = again

pub once_judged : (judged : Option ℕ) (r : Lists) → has_twice (all_of r) ≡ false →
    has_twice (all_of (leave_judged judged r)) ≡ false
once_judged None r once = once
once_judged (Some judged) r once =
    rw (all-leave judged r) (once_part (λ other. not (nat_eq other judged)) (all_of r) once)

once_then : (o : Setting) (h : List Entry) (call : Call) (reply : Reply) (choice : Choice) →
    Answers o h call reply choice → ((id : ℕ) → has (listed o h) id ≡ is_listed o h id) → has_twice (listed o h) ≡ false
    → has_twice (all_of (lists_then call reply choice (lists o h))) ≡ false
once_then o h Tick (Started judged probe) choice a is once =
    once-IsPermutation (all_of (leave_judged judged (lists o h))) _
    (all-started judged (drawn choice) (lists o h) a.draws) (once_judged judged (lists o h) once)
once_then o h (Join joiner peer) (Joined place) Nothing a is once =
    once-IsPermutation (joiner ∷ listed o h) _ (all-join_at joiner place (lists o h))
    (or_from (has (listed o h) joiner) (has_twice (listed o h)) (is joiner ∙ a.1) once)
once_then o h (Join joiner peer) (Joined place) (Round order) a is once = absurd a
once_then o h (Remove gone) Removed Nothing a is once =
    rw (all-leave gone (lists o h)) (once_part (λ other. not (nat_eq other gone)) (listed o h) once)
once_then o h (Remove gone) Removed (Round order) a is once = absurd a
once_then o h call reply choice a is once = once

-- no member is listed twice
pub listed_once : (o : Setting) (h : List Entry) → IsSetting o → IsRun o h → has_twice (listed o h) ≡ false
listed_once o [] s run = rw (append-nil (lists o []).probed) (once_up o.rows s.once)
listed_once o (e ∷ h) s run =
    once_then o h e.call e.reply e.choice run.0.answer (listed_is o h s run.1) (listed_once o h s run.1)

-- ---- the aim

pub has_front : (id : ℕ) (ids : List ℕ) → front ids ≡ Some id → has ids id ≡ true
has_front id [] e = absurd cc
has_front id (x ∷ ids) e = rw (eq-eqb id x (sym (same_Some x id e))) refl

-- who is next is in the lists
pub next_is_in : (r : Lists) (id : ℕ) → front r.rest ≡ Some id → has (all_of r) id ≡ true
next_is_in r id e = rw (list_any-append (nat_eq id) r.probed r.rest)
    (or_right (has r.probed id) (has r.rest id) (has_front id r.rest e))

-- whom a start probes is in its lists
probe_is_in : (o : Setting) (h : List Entry) (number m : ℕ) (r : Lists) (probe : Option Probe) →
    IsProbe o h number (front r.rest) probe → option_map (λ probe. probe.target) probe ≡ Some m →
    has (all_of (advance r)) m ≡ true
probe_is_in o h number m r probe probes is = by (front r.rest) refl probes where
  by : (next : Option ℕ) → front r.rest ≡ next → IsProbe o h number next probe → has (all_of (advance r)) m ≡ true
  by None at p = absurd cc
  by (Some id) at p =
      let same : id ≡ m = same_Some id m (ap (option_map (λ (probe : Probe). probe.target)) (sym p.2) ∙ is) in
      rw (all-advanced r.probed r.rest) (next_is_in r m (at ∙ ap Some same))

-- a value that is there unless a test holds, where it is there
still_there : (probed : Option ℕ) (gone : ℕ → Bool) (m : ℕ) → option_and_then (λ m. unless (gone m) m) probed ≡ Some m →
    (probed ≡ Some m) × (gone m ≡ false)
still_there None gone m e = absurd cc
still_there (Some id) gone m e = by (gone id) refl e where
  by : (b : Bool) → gone id ≡ b → unless b id ≡ Some m → (Some id ≡ Some m) × (gone m ≡ false)
  by true is e = absurd cc
  by false is e = (e, subst (λ (x : ℕ). gone x ≡ false) (same_Some id m e) is)

-- a member that is up stays so where no period begins and it isn't removed
pub up_then : (call : Call) (reply : Reply) (number m : ℕ) (row : Option Row) → is_starting reply ≡ false →
    is_removing m call reply ≡ false → is_up row ≡ true → is_up (row_then call reply number m row) ≡ true
up_then Tick (Started judged probe) number m row starts removes is = absurd cc
up_then (Join joiner peer) (Joined place) number m row starts removes is = by (nat_eq joiner m) where
  by : (b : Bool) → is_up (cond b (Some (up joiner peer)) row) ≡ true
  by true = refl
  by false = is
up_then (Remove gone) Removed number m row starts removes is = rw removes is
up_then call reply number m row starts removes is = is

-- who went unheard is the aim
pub unheard_aim : (o : Setting) (h : List Entry) (m : ℕ) → unheard o h ≡ Some m → aim h ≡ Some m
unheard_aim o h m silent = by (aim h) silent where
  by : (aimed : Option ℕ) → option_and_then (λ m. unless (was_heard o h m) m) aimed ≡ Some m → aimed ≡ Some m
  by None is = absurd cc
  by (Some target) is = heard (was_heard o h target) is where
    heard : (b : Bool) → unless b target ≡ Some m → Some target ≡ Some m
    heard true is = absurd cc
    heard false is = is

-- the aim is listed
pub aim_listed : (o : Setting) (h : List Entry) (m : ℕ) → IsSetting o → IsRun o h → aim h ≡ Some m →
    is_listed o h m ≡ true
aim_listed o [] m s run aimed = absurd cc
aim_listed o (e ∷ h) m s run aimed = by (is_start e) refl aimed (aim_listed o h m s run.1) where
  by : (b : Bool) → is_start e ≡ b
      → option_and_then (λ m. unless (list_any (removes m) (cond b [] (e ∷ since is_start h))) m)
      (option_map (λ probe. probe.target)
      (option_and_then (λ e. probe_in e.reply) (cond b (Some e) (find is_start h)))) ≡ Some m
      → (aim h ≡ Some m → is_listed o h m ≡ true) → is_listed o (e ∷ h) m ≡ true
  by true starts here again =
      let b = begins o h e.call e.reply e.choice run.0.answer starts in
      let probed : option_map (λ (probe : Probe). probe.target) b.probe ≡ Some m =
      (still_there (option_map (λ (probe : Probe). probe.target) b.probe) (λ _. false) m
      (rw (ap probe_in b.says) at here)).0 in
      sym (listed_is o (e ∷ h) s run m)
      ∙ rw (b.ticks, b.says) (probe_is_in o h (period_number o h + 1) m _ b.probe b.fits.probes probed)
  by false starts here again =
      let still =
      still_there (last_probed h) (λ (m : ℕ). removes m e || list_any (removes m) (since is_start h)) m here in
      let parts = or_parts (removes m e) (list_any (removes m) (since is_start h)) still.1 in
      let before : aim h ≡ Some m = rw (still.0, parts.1) refl in
      up_then e.call e.reply (period_number o h) m (row_of o h m) starts parts.0 (again before)

-- ---- room

-- the ids of the table are the known members
has_known : (o : Setting) (h : List Entry) (id : ℕ) → has (ids_of (table o h)) id ≡ is_some (row_of o h id)
has_known o h id = has_row (table o h) id ∙ ap is_some (table_shows o h id)

up_is_known : (row : Option Row) → is_up row ≡ true → is_some row ≡ true
up_is_known None is = absurd cc
up_is_known (Some row) is = refl

listed_known : (o : Setting) (h : List Entry) → IsSetting o → IsRun o h → (id : ℕ) → has (listed o h) id ≡ true →
    has (ids_of (table o h)) id ≡ true
listed_known o h s run id is = has_known o h id ∙ up_is_known (row_of o h id) (sym (listed_is o h s run id) ∙ is)

count_ids : (rows : List Row) → length (ids_of rows) ≡ length rows
count_ids rows = length-map rows (λ row. row.id)

-- in a run no more members are listed than are known
pub listed_bound : (o : Setting) (h : List Entry) → IsSetting o → IsRun o h → length (listed o h) ≤ known_count o h
listed_bound o h s run =
    let most = no_longer (listed o h) (ids_of (table o h)) (listed_once o h s run) (listed_known o h s run) in
    omega (arith, count_ids (table o h))

-- a member that may join finds room among those listed
pub room_to_join : (o : Setting) (h : List Entry) (id : ℕ) → IsSetting o → IsRun o h → is_listed o h id ≡ false →
    (row_of o h id ≡ None → known_count o h ≢ 128) → length (listed o h) < 128
room_to_join o h id s run down room = by (row_of o h id) refl where
  by : (row : Option Row) → row_of o h id ≡ row → length (listed o h) < 128
  by None unknown =
      let free : known_count o h ≢ 128 = room unknown in
      omega (arith, free, listed_bound o h s run, table_bound o h s run)
  by (Some row) known =
      let once : has_twice (id ∷ listed o h) ≡ false = or_from (has (listed o h) id) (has_twice (listed o h))
      (listed_is o h s run id ∙ down) (listed_once o h s run) in
      let within : (q : ℕ) → has (id ∷ listed o h) q ≡ true → has (ids_of (table o h)) q ≡ true =
      λ q. here q (nat_eq q id) refl in
      let more = no_longer (id ∷ listed o h) (ids_of (table o h)) once within in
      omega (arith, count_ids (table o h), table_bound o h s run)
    where
      here : (q : ℕ) (b : Bool) → nat_eq q id ≡ b → (b || has (listed o h) q) ≡ true → has (ids_of (table o h)) q ≡ true
      here q true same is = rw (eqb-true q id same, has_known o h id, known) refl
      here q false same is = listed_known o h s run q is
