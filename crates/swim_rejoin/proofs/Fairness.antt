-- Each failed member has its turn: between two knocks at it the turn goes only through members that are ahead of it,
-- and
-- there are fewer of these at each knock.
use Rattle.std.proofs.Common.{◌≡◌, ◌≢◌, ℕ, ◌+◌, ◌*◌, ◌/◌, ◌<◌, ◌≤◌, inl, inr, Bool, true, false, cond, not, min}
use Rattle.std.proofs.Common.{◌&&◌, ◌||◌, nat_eq, nat_le, nat_lt, suc, zero, List, [], ◌∷◌, length, Option, Some, None}
use Rattle.std.proofs.Common.{refl, sym, ap, ◌∙◌, subst, add-one, arith}
use Rattle.std.specs.List.{count_by, find, list_all}
use Rattle.std.specs.List.{AllByRecursion}
use Rattle.std.specs.Option.{is_some, option_and_then, option_map, option_or}
use Rattle.std.proofs.lemmas.Bool.{and_parts, le-leb, lt-ltb, ltb-true, or_parts}
use Rattle.std.proofs.lemmas.Bool.Decides.{nat_tests}
use Rattle.std.proofs.lemmas.List.Sums.{count_by-le-length, sum_by-cons}
use Rattle.std.proofs.lemmas.Nat.{div-mul-add, le-div}
use Rattle.std.proofs.Math.Nat.{add-mul}
use Rattle.swim_wire.specs.Ids.{has}
use Rattle.swim_history.specs.Changes.{IsAscending}
use Rattle.swim_history.specs.Rows.{row_at}
use Rattle.swim_history.specs.declared.rows.Row.{Row}
use Rattle.swim_rejoin.specs.Failed.{is_failed, verdict_of}
use Rattle.swim_rejoin.specs.Knocking.{Start, is_after, is_due, knocked_by, last_knocked, since_due, steadily}
use Rattle.swim_rejoin.specs.Knocking.{whose_turn}
use Rattle.swim_rejoin.specs.Turns.{IsNext, StaysFailed, is_of, was_knocked_at}
use Rattle.swim_rejoin.proofs.Finding.{found_passes, not_below, row_id, same_number, some_is}

-- ---- the first of rows that ascend by id

-- a row stands behind one that is before all
behind_first : (r row : Row) (rows : List Row) (id : ℕ) → AllByRecursion (λ (other : Row). r.id < other.id) rows →
    row_at rows id ≡ Some row → r.id < row.id
behind_first r row [] id above there = cc
behind_first r row (other ∷ rows) id above there =
    by_test (nat_eq other.id id) there (behind_first r row rows id above.1) where
      by_test : (b : Bool) → cond b (Some other) (row_at rows id) ≡ Some row →
          (row_at rows id ≡ Some row → r.id < row.id) →
          r.id < row.id
      by_test true e rest = let P : Row → Type 0 = λ x. r.id < x.id in subst P (some_is other row e) above.0
      by_test false e rest = rest e

-- the first that passes stands before each that does
first_is_least : (p : Row → Bool) (rows : List Row) (id : ℕ) (first row : Row) → IsAscending rows →
    find p rows ≡ Some first → row_at rows id ≡ Some row → p row ≡ true →
    first.id ≤ row.id
first_is_least p [] id first row ascends found there passes = cc
first_is_least p (r ∷ rows) id first row ascends found there passes =
    by_first (p r) refl found (nat_eq r.id id) there (first_is_least p rows id first row ascends.1) where
      by_id : (b : Bool) → cond b (Some r) (row_at rows id) ≡ Some row → r.id ≤ row.id
      by_id true e = let P : Row → Type 0 = λ x. r.id ≤ x.id in subst P (some_is r row e) (omega arith)
      by_id false e = let above = behind_first r row rows id ascends.0 e in omega arith

      by_first : (b : Bool) → p r ≡ b → cond b (Some r) (find p rows) ≡ Some first → (c : Bool) →
          cond c (Some r) (row_at rows id) ≡ Some row →
          (find p rows ≡ Some first → row_at rows id ≡ Some row → p row ≡ true → first.id ≤ row.id) → first.id ≤ row.id
      by_first true e h c at rest = let P : Row → Type 0 = λ x. x.id ≤ row.id in
          subst P (some_is r first h) (by_id c at)
      by_first false e h true at rest = let fails : p row ≡ false = ap p (sym (some_is r row at)) ∙ e in cc
      by_first false e h false at rest = rest h at passes

-- where a row passes, some first does
some_first : (p : Row → Bool) (rows : List Row) (id : ℕ) (row : Row) → row_at rows id ≡ Some row → p row ≡ true →
    find p rows ≢ None
some_first p [] id row there passes none = cc
some_first p (r ∷ rows) id row there passes none =
    by_first (p r) refl none (nat_eq r.id id) there (some_first p rows id row) where
      by_first : (b : Bool) → p r ≡ b → cond b (Some r) (find p rows) ≡ None → (c : Bool) →
          cond c (Some r) (row_at rows id) ≡ Some row →
          (row_at rows id ≡ Some row → p row ≡ true → find p rows ≢ None) → ⊥
      by_first true e h c at rest = cc
      by_first false e h true at rest = let fails : p row ≡ false = ap p (sym (some_is r row at)) ∙ e in cc
      by_first false e h false at rest = rest at passes h

-- what is found is among those that all are
found_among : (p : Row → Bool) (q : Row → Bool) (rows : List Row) (row : Row) → list_all q rows ≡ true →
    find p rows ≡ Some row → q row ≡ true
found_among p q [] row all found = cc
found_among p q (r ∷ rows) row all found =
    by_both (q r) refl (list_all q rows) refl all (p r) found (found_among p q rows row) where
      by_both : (a : Bool) → q r ≡ a → (b : Bool) → list_all q rows ≡ b → (a && b) ≡ true → (c : Bool) →
          cond c (Some r) (find p rows) ≡ Some row →
          (list_all q rows ≡ true → find p rows ≡ Some row → q row ≡ true) → q row ≡ true
      by_both true e b rest-is both true h rest = ap q (sym (some_is r row h)) ∙ e
      by_both true e true rest-is both false h rest = rest rest-is h
      by_both true e false rest-is both false h rest = cc
      by_both false e b rest-is both c h rest = cc

-- ---- whose turn it is

-- the id is ahead, behind the last and on the way round up to that member's
abbrev ahead : ℕ → Option ℕ → ℕ → Bool
ahead id None other = nat_le other id
ahead id (Some last) other =
    cond (nat_lt last id) (nat_lt last other && nat_le other id) (nat_lt last other || nat_le other id)

is_after-parts : (last : ℕ) (row : Row) → is_after last row ≡ true → (is_failed row ≡ true) × (last < row.id)
is_after-parts last row e =
    let parts = and_parts (is_failed row) (nat_lt last row.id) e in
    (parts.0, ltb-true last row.id parts.1)

is_after-from : (last : ℕ) (row : Row) → is_failed row ≡ true → last < row.id → is_after last row ≡ true
is_after-from last row failed above = ap (λ b. b && nat_lt last row.id) failed ∙ lt-ltb last row.id above

-- whose turn it is, where that member is failed, and all that are failed pass that test
turn_is_next : (rows : List Row) (id : ℕ) (row : Row) (last : Option ℕ) (q : Row → Bool) → IsAscending rows →
    row_at rows id ≡ Some row → row.id ≡ id → is_failed row ≡ true →
    list_all q rows ≡ true → (next : Row) × (whose_turn last rows ≡ Some next) × (is_failed next ≡ true) ×
    (q next ≡ true) × IsNext id last next.id
turn_is_next rows id row last q ascends there is failed all = by_last last where
  lowest : (o : Option Row) → find is_failed rows ≡ o → (next : Row) × (o ≡ Some next) × (is_failed next ≡ true) ×
      (q next ≡ true) × (next.id ≤ id)
  lowest None e = absurd (some_first is_failed rows id row there failed e)
  lowest (Some next) e =
      let least = first_is_least is_failed rows id next row ascends e there failed in (
        next,
        refl,
        found_passes is_failed rows next e,
        found_among is_failed q rows next all e,
        omega (arith, is, least),
      )

  not_after : (l : ℕ) → find (is_after l) rows ≡ None → (b : Bool) → nat_lt l id ≡ b → id ≤ l
  not_after l e true below =
      absurd (some_first (is_after l) rows id row there
      (is_after-from l row failed (omega (arith, is, ltb-true l id below))) e)
  not_after l e false below = not_below l id below

  behind : (l : ℕ) (o : Option Row) → find (is_after l) rows ≡ o →
      (next : Row) × (option_or o (find is_failed rows) ≡ Some next) × (is_failed next ≡ true) × (q next ≡ true) ×
      IsNext id (Some l) next.id
  behind l None e =
      let first = lowest (find is_failed rows) refl in
      (first.0, first.1, first.2, first.3, inr (not_after l e (nat_lt l id) refl, first.4))
  behind l (Some next) e =
      let parts = is_after-parts l next (found_passes (is_after l) rows next e) in (
        next,
        refl,
        parts.0,
        found_among (is_after l) q rows next all e,
        inl (
          parts.1,
          λ below.
              omega (
                arith,
                is,
                first_is_least (is_after l) rows id next row ascends e there
                    (is_after-from l row failed (omega (arith, is, below))),
              ),
        ),
      )

  by_last : (l : Option ℕ) → (next : Row) × (whose_turn l rows ≡ Some next) × (is_failed next ≡ true) ×
      (q next ≡ true) × IsNext id l next.id
  by_last None = lowest (find is_failed rows) refl
  by_last (Some l) = behind l (find (is_after l) rows) refl

all_pass : (rows : List Row) → list_all (λ (row : Row). true) rows ≡ true
all_pass [] = refl
all_pass (row ∷ rows) = all_pass rows

-- and nobody who is failed is passed over on the way round
pub turn_passes_nobody : (rows : List Row) (id : ℕ) (row next : Row) (last : Option ℕ) → IsAscending rows →
    row_at rows id ≡ Some row → is_failed row ≡ true → whose_turn last rows ≡ Some next → IsNext id last next.id
turn_passes_nobody rows id row next last ascends there failed turn =
    let found = turn_is_next rows id row last (λ r. true) ascends there (row_id rows id row there) failed
    (all_pass rows) in
    subst (λ (r : Row). IsNext id last r.id) (some_is found.0 next (sym found.1 ∙ turn)) found.4

-- ---- who is ahead

ahead-self : (id : ℕ) (last : Option ℕ) → ahead id last id ≡ true
ahead-self id None = grind (arith, nat_tests)
ahead-self id (Some last) = grind (arith, nat_tests)

next_ahead : (id : ℕ) (last : Option ℕ) (next : ℕ) → IsNext id last next → ahead id last next ≡ true
next_ahead id None next is = grind (arith, nat_tests)
next_ahead id (Some last) next (inl is) = let way = is.1 in let above = is.0 in grind (arith, nat_tests)
next_ahead id (Some last) next (inr is) = let past = is.0 in let within = is.1 in grind (arith, nat_tests)

-- who is ahead of the next was ahead before
still_ahead : (id : ℕ) (last : Option ℕ) (next other : ℕ) → IsNext id last next → nat_eq next id ≡ false →
    ahead id (Some next) other ≡ true → ahead id last other ≡ true
still_ahead id None next other is apart e = grind (arith, nat_tests)
still_ahead id (Some last) next other (inl is) apart e = let way = is.1 in let above = is.0 in grind (arith, nat_tests)
still_ahead id (Some last) next other (inr is) apart e = let past = is.0 in let within = is.1 in
    grind (arith, nat_tests)

-- but not the next itself
passed_by : (id next : ℕ) → nat_eq next id ≡ false → ahead id (Some next) next ≡ false
passed_by id next apart = grind (arith, nat_tests)

-- ---- counts

count_cons : (p : ℕ → Bool) (id : ℕ) (ids : List ℕ) → count_by p (id ∷ ids) ≡ cond (p id) 1 0 + count_by p ids
count_cons p id ids = sum_by-cons (λ x. cond (p x) 1 0) id ids

one_of : (a b : Bool) → (a ≡ true → b ≡ true) → cond a 1 0 ≤ cond b 1 0
one_of true true h = omega arith
one_of true false h = let e = h refl in cc
one_of false true h = omega arith
one_of false false h = omega arith

count_kept : (p q : ℕ → Bool) (ids : List ℕ) → ((id : ℕ) → p id ≡ true → q id ≡ true) → count_by p ids ≤ count_by q ids
count_kept p q [] h = omega arith
count_kept p q (id ∷ ids) h =
    omega (arith, count_cons p id ids, count_cons q id ids, one_of (p id) (q id) (h id), count_kept p q ids h)

abbrev count_one : Bool → ℕ
count_one b = cond b 1 0

count_less : (p q : ℕ → Bool) (ids : List ℕ) (id : ℕ) → ((other : ℕ) → p other ≡ true → q other ≡ true) → p id ≡ false →
    q id ≡ true → has ids id ≡ true →
    count_by p ids + 1 ≤ count_by q ids
count_less p q [] id h fails passes among = cc
count_less p q (other ∷ ids) id h fails passes among =
    by_test (nat_eq id other) refl among (count_less p q ids id h fails passes) where
      by_test : (b : Bool) → nat_eq id other ≡ b → (b || has ids id) ≡ true →
          (has ids id ≡ true → count_by p ids + 1 ≤ count_by q ids) →
          count_by p (other ∷ ids) + 1 ≤ count_by q (other ∷ ids)
      by_test true e among rest =
          let same = same_number id other e in
          let none = ap (λ x. count_one (p x)) (sym same) ∙ ap count_one fails in
          let one = ap (λ x. count_one (q x)) (sym same) ∙ ap count_one passes in
          omega (arith, count_cons p other ids, count_cons q other ids, none, one, count_kept p q ids h)
      by_test false e among rest =
          omega (
            arith,
            count_cons p other ids,
            count_cons q other ids,
            one_of (p other) (q other) (h other),
            rest among,
          )

count_some : (p : ℕ → Bool) (ids : List ℕ) (id : ℕ) → p id ≡ true → has ids id ≡ true → 1 ≤ count_by p ids
count_some p ids id passes among =
    let less = count_less (λ _. false) p ids id (λ other e. absurd_test e) refl passes among in omega arith where
      absurd_test : {A : Type 0} → false ≡ true → A
      absurd_test e = cc

-- how many of the recent starts were due
abbrev dues : ℕ → List (List Row) → List Start → ℕ
dues rejoin [] before = 0
dues rejoin (rows ∷ recent) before =
    cond (is_due rejoin (steadily rejoin recent before)) 1 0 + dues rejoin recent before

due_now : (r s : ℕ) → 0 < r → nat_lt (s + 1) r ≡ false → (nat_lt 0 r && nat_le r (s + 1)) ≡ true
due_now r s positive e =
    ap (λ b. b && nat_le r (s + 1)) (lt-ltb 0 r positive) ∙ le-leb r (s + 1) (not_below (s + 1) r e)

not_due : (r s : ℕ) → s + 1 < r → nat_le r (s + 1) ≡ false
not_due r s below = grind arith

not_yet : (r s : ℕ) → nat_lt (s + 1) r ≡ true → (nat_lt 0 r && nat_le r (s + 1)) ≡ false
not_yet r s e =
    let below : s + 1 < r = ltb-true (s + 1) r e in
    ap (λ b. b && nat_le r (s + 1)) (lt-ltb 0 r (omega (arith, below))) ∙ not_due r s below

-- by whether the start was due, and whether it is counted
abbrev IsMany : ℕ → ℕ → ℕ → ℕ → Bool → Bool → Type 0
IsMany r count d s due more = suc count + 1 ≤ (cond due 1 0 + d) * r + min (cond more (s + 1) 0 + 1) r

-- of each r starts in a row one was due
dues_many : (r : ℕ) (recent : List (List Row)) (before : List Start) → 0 < r →
    length recent + 1 ≤ dues r recent before * r + min (since_due (steadily r recent before) + 1) r
dues_many r [] before positive = omega (arith, positive)
dues_many r (rows ∷ recent) before positive =
    by_test (nat_lt (s + 1) r) refl (dues_many r recent before positive) where
      s : ℕ
      s = since_due (steadily r recent before)

      d : ℕ
      d = dues r recent before

      n : ℕ
      n = length recent

      by_test : (b : Bool) → nat_lt (s + 1) r ≡ b → n + 1 ≤ d * r + min (s + 1) r →
          IsMany r n d s (nat_lt 0 r && nat_le r (s + 1)) (nat_lt (s + 1) r)
      by_test true e earlier =
          let below : s + 1 < r = ltb-true (s + 1) r e in
          let is : suc n + 1 ≤ (0 + d) * r + min (s + 1 + 1) r = omega (arith, earlier, below, add-mul 0 d r) in
          subst (λ b. IsMany r n d s b (nat_lt (s + 1) r)) (sym (not_yet r s e))
          (subst (λ b. IsMany r n d s false b) (sym e) is)
      by_test false e earlier =
          let is : suc n + 1 ≤ (1 + d) * r + min (0 + 1) r = omega (arith, earlier, positive, add-mul 1 d r) in
          subst (λ b. IsMany r n d s b (nat_lt (s + 1) r)) (sym (due_now r s positive e))
          (subst (λ b. IsMany r n d s true b) (sym e) is)

-- ---- the turn

-- the row of a failed member
failed_row : (rows : List Row) (id : ℕ) (o : Option Row) → row_at rows id ≡ o →
    is_some (option_and_then (λ (r : Row). verdict_of r.state) o) ≡ true →
    (row : Row) × (row_at rows id ≡ Some row) × (row.id ≡ id) × (is_failed row ≡ true)
failed_row rows id None e failed = cc
failed_row rows id (Some row) e failed = (row, e, row_id rows id row e, failed)

-- while that member isn't knocked at, one less is ahead of it at each start that is due
fewer_ahead : (r id : ℕ) (ids : List ℕ) (recent : List (List Row)) (before : List Start) → StaysFailed id ids recent →
    was_knocked_at id r recent before ≡ false →
    count_by (ahead id (last_knocked (steadily r recent before))) ids + dues r recent before ≤ length ids
fewer_ahead r id ids [] before stays none = omega (arith, count_by-le-length (ahead id (last_knocked before)) ids)
fewer_ahead r id ids (rows ∷ recent) before stays none =
    by_due (is_due r (steadily r recent before)) parts.0 (fewer_ahead r id ids recent before stays.3 parts.1) where
      last : Option ℕ
      last = last_knocked (steadily r recent before)

      d : ℕ
      d = dues r recent before

      parts : (is_of id (knocked_by r (steadily r recent before) rows) ≡ false) ×
          (was_knocked_at id r recent before ≡ false)
      parts =
          or_parts (is_of id (knocked_by r (steadily r recent before) rows)) (was_knocked_at id r recent before) none

      by_turn : (next : Row) → is_failed next ≡ true → (not (is_failed next) || has ids next.id) ≡ true →
          IsNext id last next.id → nat_eq next.id id ≡ false →
          count_by (ahead id last) ids + d ≤ length ids → count_by (ahead id (Some next.id)) ids + (1 + d) ≤ length ids
      by_turn next failed among is apart earlier =
          let there : has ids next.id ≡ true = ap (λ b. not b || has ids next.id) (sym failed) ∙ among in
          let less = count_less (ahead id (Some next.id)) (ahead id last) ids next.id
          (λ other. still_ahead id last next.id other is apart)
          (passed_by id next.id apart) (next_ahead id last next.id is) there in
          omega (arith, less, earlier)

      by_due : (b : Bool) → is_of id (cond b (whose_turn last rows) None) ≡ false →
          count_by (ahead id last) ids + d ≤ length ids →
          count_by (ahead id (option_or (option_map (λ (row : Row). row.id) (cond b (whose_turn last rows) None)) last))
          ids + (cond b 1 0 + d) ≤ length ids
      by_due false here earlier = omega (arith, earlier)
      by_due true here earlier =
          let row = failed_row rows id (row_at rows id) refl stays.1 in
          let turn = turn_is_next rows id row.0 last (λ (r : Row). not (is_failed r) || has ids r.id) stays.0 row.1
          row.2 row.3 stays.2 in
          let P : Option Row → Type 0 =
          λ o. count_by (ahead id (option_or (option_map (λ (row : Row). row.id) o) last)) ids + (1 + d) ≤
          length ids in
          subst P (sym turn.1) (by_turn turn.0 turn.2 turn.3 turn.4 (ap (is_of id) (sym turn.1) ∙ here) earlier)

one_less : (r : ℕ) → 0 < r → (n : ℕ) × (n + 1 ≡ r)
one_less zero positive = absurd (omega (arith, positive))
one_less (suc n) positive = (n, add-one n)

-- so many were due
enough_due : (r f : ℕ) (recent : List (List Row)) (before : List Start) → 0 < r → f * r ≤ length recent →
    f ≤ dues r recent before
enough_due r f recent before positive long =
    let less = one_less r positive in
    let n = less.0 in
    let next : n + 1 ≡ r = less.1 in
    let below : n < r = omega (arith, next) in
    let many : f ≤ (dues r recent before * r + n) / r =
    le-div f (dues r recent before * r + n) r positive
    (omega (arith, dues_many r recent before positive, long, next)) in
    let P : ℕ → Type 0 = λ m. f ≤ m in
    subst P (div-mul-add (dues r recent before) r n below) many

pub has_its_turn : (r id : ℕ) (ids : List ℕ) (recent : List (List Row)) (before : List Start) → 0 < r →
    has ids id ≡ true → StaysFailed id ids recent → length ids * r ≤ length recent →
    was_knocked_at id r recent before ≡ true
has_its_turn r id ids recent before positive among stays long = by_test (was_knocked_at id r recent before) refl where
  by_test : (b : Bool) → was_knocked_at id r recent before ≡ b → was_knocked_at id r recent before ≡ true
  by_test true e = e
  by_test false e =
      absurd (omega (
        arith,
        fewer_ahead r id ids recent before stays e,
        enough_due r (length ids) recent before positive long,
        count_some (ahead id (last_knocked (steadily r recent before))) ids id
            (ahead-self id (last_knocked (steadily r recent before))) among,
      ))
