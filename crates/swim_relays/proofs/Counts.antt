-- DueRequests that are due at counts of ticks, as the requests that they are.
use Rattle.std.specs.Prelude.{◌≡◌, ℕ, ◌+◌, ◌-◌, ◌%◌, ◌^◌, ◌<◌, ◌≤◌, Bool, true, false, ◌||◌, ◌==◌, not, nat_lt, List}
use Rattle.std.specs.Prelude.{[], ◌∷◌, ◌++◌, length, remove, drop, position, find, Option, Some, None, is_some, zero}
use Rattle.std.specs.Prelude.{suc}
use Rattle.std.specs.List.{AllByRecursion, list_any, prefix_len, position_or_len}
use Rattle.std.specs.List.Sorted.{IsNonDecreasingBy}
use Rattle.std.specs.Option.{option_map}
use Rattle.std.proofs.Common.{cond, refl, sym, ap, subst, ◌∙◌, arith, get_or}
use Rattle.std.proofs.lemmas.List.{length-map, map-append}
use Rattle.std.proofs.lemmas.Bool.{or_parts, eqb-true, eqb-false, lt-ltb}
use Rattle.std.proofs.lemmas.Bool.Decides.{nat_tests}
use Rattle.swim_wire.specs.declared.messages.Key.{Key}
use Rattle.swim_wire.specs.declared.messages.Version.{Version}
use Rattle.swim_wire.specs.Address.{Address}
use Rattle.swim_wire.specs.Probe.{same_key}
use Rattle.swim_wire.specs.Requests.{Request, waits, forget, asker_for, one_less, aged}
use Rattle.swim_wire.specs.RequestLaws.{forget_none}
use Rattle.swim_relays.specs.declared.waiting.DueRequest.{DueRequest}
use Rattle.swim_relays.specs.Waiting.{waits_twice}
use Rattle.swim_relays.specs.Due.{ticks_to, request_at, requests_at, AreKept}
use Rattle.swim_relays.proofs.Tables.{key_is, room_after, forgets, asks, ages, all_push}

-- ---- counts

abbrev next : ℕ → ℕ
next count = (count + 1) % 2 ^ 32

-- a request that is asked for has a whole period left
ticks_to_sum : (count period : ℕ) → count < 2 ^ 32 → period < 2 ^ 32 →
    ticks_to count ((count + period) % 2 ^ 32) ≡ period
ticks_to_sum count period c p = omega arith

-- the count at which no tick is left
pub sum_ticks_to : (count due : ℕ) → count < 2 ^ 32 → due < 2 ^ 32 → (count + ticks_to count due) % 2 ^ 32 ≡ due
sum_ticks_to count due c d = omega arith

-- at the next count one tick less is left
ticks_to_next : (count due : ℕ) → count < 2 ^ 32 → due < 2 ^ 32 → 1 ≤ ticks_to count due →
    ticks_to (next count) due ≡ ticks_to count due - 1
ticks_to_next count due c d some = omega arith

-- no tick is left at the count itself
ticks_to_same : (count : ℕ) → ticks_to count count ≡ 0
ticks_to_same count = omega arith

-- ---- places

one_more : (m n : ℕ) → nat_lt (1 + m) (suc n) ≡ nat_lt m n
one_more m n = grind (arith, nat_tests)

position_any : {X : Type 0} (p : X → Bool) (xs : List X) → nat_lt (position_or_len p xs) (length xs) ≡ list_any p xs
position_any p [] = refl
position_any p (x ∷ xs) = by (p x) (position_any p xs) where
  by : (b : Bool) → nat_lt (position_or_len p xs) (length xs) ≡ list_any p xs →
      nat_lt (cond (not b) (1 + position_or_len p xs) 0) (length (x ∷ xs)) ≡ (b || list_any p xs)
  by true again = lt-ltb 0 (length (x ∷ xs)) (omega arith)
  by false again = one_more (position_or_len p xs) (length xs) ∙ again

some_if : {X : Type 0} (b : Bool) (x : X) → is_some (cond b (Some x) None) ≡ b
some_if true x = refl
some_if false x = refl

any_at : (count : ℕ) (key : Key) (es : List DueRequest) →
    list_any (λ entry. same_key entry.key key) es ≡ waits key (requests_at count es)
any_at count key [] = refl
any_at count key (e ∷ es) = ap (λ b. same_key e.key key || b) (any_at count key es)

-- a place is found where a request waits
pub waits_at : (count : ℕ) (key : Key) (es : List DueRequest) →
    is_some (position (λ entry. same_key entry.key key) es) ≡ waits key (requests_at count es)
waits_at count key es =
    let is_key : DueRequest → Bool = λ entry. same_key entry.key key in
    some_if (nat_lt (position_or_len is_key es) (length es)) (position_or_len is_key es) ∙
    (position_any is_key es ∙ any_at count key es)

pub waits_none : (count : ℕ) (key : Key) (es : List DueRequest) → None ≡ position (λ entry. same_key entry.key key) es →
    waits key (requests_at count es) ≡ false
waits_none count key es none = sym (waits_at count key es) ∙ sym (ap is_some none)

found : {X : Type 0} (p : X → Bool) (xs : List X) (place : ℕ) → Some place ≡ position p xs →
    place ≡ position_or_len p xs
found p xs place e = by (nat_lt (position_or_len p xs) (length xs)) e where
  by : (b : Bool) → Some place ≡ cond b (Some (position_or_len p xs)) None → place ≡ position_or_len p xs
  by true e = cc
  by false e = absurd cc

-- ---- one request taken out

first_gone : (count : ℕ) (key : Key) (es : List DueRequest) → waits_twice (requests_at count es) ≡ false
    → requests_at count (remove es (position_or_len (λ entry. same_key entry.key key) es)) ≡
    forget key (requests_at count es)
first_gone count key [] once = refl
first_gone count key (e ∷ es) once =
    let parts = or_parts (waits e.key (requests_at count es)) (waits_twice (requests_at count es)) once in
    by (same_key e.key key) refl parts.0 (first_gone count key es parts.1)
  where
    by : (b : Bool) → same_key e.key key ≡ b → waits e.key (requests_at count es) ≡ false
        → requests_at count (remove es (position_or_len (λ entry. same_key entry.key key) es)) ≡
        forget key (requests_at count es)
        → requests_at count (remove (e ∷ es)
        (cond (not b) (1 + position_or_len (λ entry. same_key entry.key key) es) 0))
        ≡ cond (not b) (request_at count e ∷ forget key (requests_at count es)) (forget key (requests_at count es))
    by true same others again =
        sym (forget_none key (requests_at count es)
        (subst (λ k. waits k (requests_at count es) ≡ false) (key_is e.key key same) others))
    by false other others again =
        let is_suc : 1 + position_or_len (λ (entry : DueRequest). same_key entry.key key) es ≡
        suc (position_or_len (λ (entry : DueRequest). same_key entry.key key) es) = omega arith in
        rw is_suc (ap (λ rs. request_at count e ∷ rs) again)

pub forget_at : (count : ℕ) (key : Key) (es : List DueRequest) (place : ℕ) →
    Some place ≡ position (λ entry. same_key entry.key key) es → waits_twice (requests_at count es) ≡ false
    → requests_at count (remove es place) ≡ forget key (requests_at count es)
forget_at count key es place at once =
    rw (found (λ entry. same_key entry.key key) es place at) (first_gone count key es once)

-- whom an entry names, and in which version
abbrev asker_in : DueRequest → Option (Address × Version)
asker_in entry = Some (entry.peer, entry.version)

first_asker : (count : ℕ) (key : Key) (es : List DueRequest) (x : DueRequest) → waits key (requests_at count es) ≡ true
    → x ≡ get_or es (position_or_len (λ entry. same_key entry.key key) es) x →
    asker_in x ≡ asker_for key (requests_at count es)
first_asker count key [] x there is = absurd cc
first_asker count key (e ∷ es) x there is = by (same_key e.key key) there is (first_asker count key es x) where
  by : (b : Bool) → (b || waits key (requests_at count es)) ≡ true →
      x ≡ get_or (e ∷ es) (cond (not b) (1 + position_or_len (λ entry. same_key entry.key key) es) 0) x
      → (waits key (requests_at count es) ≡ true →
      x ≡ get_or es (position_or_len (λ entry. same_key entry.key key) es) x →
      asker_in x ≡ asker_for key (requests_at count es))
      → asker_in x ≡ option_map (λ (request : Request). (request.peer, request.version))
      (cond b (Some (request_at count e)) (find (λ request. same_key request.key key) (requests_at count es)))
  by true there is again = ap asker_in is
  by false there is again =
      let is_suc : 1 + position_or_len (λ (entry : DueRequest). same_key entry.key key) es ≡
      suc (position_or_len (λ (entry : DueRequest). same_key entry.key key) es) = omega arith in
      again there (rw is_suc at is)

pub asker_at : (count : ℕ) (key : Key) (es : List DueRequest) (place : ℕ) (x : DueRequest) →
    Some place ≡ position (λ entry. same_key entry.key key) es → x ≡ get_or es place x
    → asker_in x ≡ asker_for key (requests_at count es)
asker_at count key es place x at is =
    first_asker count key es x (sym (waits_at count key es) ∙ sym (ap is_some at))
    (rw (found (λ entry. same_key entry.key key) es place at) at is)

all_removed : {X : Type 0} (P : X → Type 0) (xs : List X) (place : ℕ) → AllByRecursion P xs →
    AllByRecursion P (remove xs place)
all_removed P [] zero all = tt
all_removed P [] (suc place) all = tt
all_removed P (x ∷ xs) zero all = all.1
all_removed P (x ∷ xs) (suc place) all = (all.0, all_removed P xs place all.1)

pub takes : (key : Key) (period count : ℕ) (es : List DueRequest) (place : ℕ) →
    Some place ≡ position (λ entry. same_key entry.key key) es → AreKept period count es →
    AreKept period count (remove es place)
takes key period count es place at kept = record {
  waiting = rw (forget_at count key es place at kept.waiting.once)
      (forgets key period count (requests_at count es) kept.waiting);
  due = all_removed (λ entry. entry.due < 2 ^ 32) es place kept.due;
}

-- ---- one more request

abbrev asked : Key → Address → Version → ℕ → ℕ → DueRequest
asked key peer version period count =
    record { key = key; peer = peer; version = version; due = (count + period) % 2 ^ 32 }

-- there is room for it
pub room_left : (key : Key) (rs : List Request) (count : ℕ) (es : List DueRequest) →
    requests_at count es ≡ forget key rs → (waits key rs || nat_lt (length rs) 64) ≡ true → length rs ≤ 64 →
    length es < 64
room_left key rs count es left room most =
    omega (arith, length-map es (request_at count), ap length left, room_after key rs room most)

pub asked_at : (key : Key) (peer : Address) (version : Version) (period count : ℕ) (es : List DueRequest) →
    AreKept period count es
    → requests_at count (es ++ asked key peer version period count ∷ []) ≡
    requests_at count es ++ record { key = key; peer = peer; version = version; left = period } ∷ []
asked_at key peer version period count es kept =
    map-append (request_at count) es (asked key peer version period count ∷ [])
    ∙ ap (λ left. requests_at count es ++ record { key = key; peer = peer; version = version; left = left } ∷ [])
    (ticks_to_sum count period kept.waiting.count (omega (arith, kept.waiting.period.1)))

pub pushes : (key : Key) (peer : Address) (version : Version) (period count : ℕ) (es : List DueRequest) →
    AreKept period count es → waits key (requests_at count es) ≡ false → length es < 64
    → AreKept period count (es ++ asked key peer version period count ∷ [])
pushes key peer version period count es kept none room = record {
  waiting = rw (asked_at key peer version period count es kept)
      (asks key peer version period count (requests_at count es) kept.waiting none
      (omega (arith, length-map es (request_at count), room)));
  due = all_push (λ entry. entry.due < 2 ^ 32) es (asked key peer version period count) kept.due (omega arith);
}

-- ---- a tick

abbrev is_due : ℕ → DueRequest → Bool
is_due count entry = entry.due == count

-- where each has more than one tick left, none is forgotten
none_due : (count : ℕ) (es : List DueRequest) → count < 2 ^ 32 → AllByRecursion (λ entry. entry.due < 2 ^ 32) es →
    AllByRecursion (λ request. 2 ≤ request.left) (requests_at count es)
    → aged (requests_at count es) ≡ requests_at (next count) es
none_due count [] c due later = refl
none_due count (e ∷ es) c due later =
    rw (
      lt-ltb 0 (ticks_to count e.due - 1) (omega (arith, later.0)),
      ticks_to_next count e.due c due.0 (omega (arith, later.0)),
    )
    (ap (λ rs. one_less (request_at count e) ∷ rs) (none_due count es c due.1 later.1))

all_later : (least : ℕ) (rs : List Request) →
    ((place : ℕ) (d : Request) → place < length rs → least ≤ (get_or rs place d).left) →
    AllByRecursion (λ request. least ≤ request.left) rs
all_later least [] h = tt
all_later least (r ∷ rs) h =
    (h 0 r (omega arith), all_later least rs (λ place d lt. h (suc place) d (omega (arith, lt))))

-- those that are due stand in front
pub expired : (count : ℕ) (es : List DueRequest) → count < 2 ^ 32 → AllByRecursion (λ entry. entry.due < 2 ^ 32) es →
    AllByRecursion (λ request. 1 ≤ request.left) (requests_at count es)
    → IsNonDecreasingBy (λ request. request.left) (requests_at count es)
    → requests_at (next count) (drop (prefix_len (λ entry. entry.due == next count) es) es) ≡
    aged (requests_at count es)
expired count [] c due ticks order = refl
expired count (e ∷ es) c due ticks order =
    by (e.due == next count) refl
    (λ _. expired count es c due.1 ticks.1
    (λ i j d ij within. order (suc i) (suc j) d (omega (arith, ij)) (omega (arith, within))))
  where
    by : (b : Bool) → (e.due == next count) ≡ b
        → (Unit {0} → requests_at (next count) (drop (prefix_len (λ entry. entry.due == next count) es) es) ≡
        aged (requests_at count es))
        → requests_at (next count) (drop (cond b (1 + prefix_len (λ entry. entry.due == next count) es) 0) (e ∷ es)) ≡
        aged (requests_at count (e ∷ es))
    by true now again =
        let one : ticks_to count e.due ≡ 1 = omega (arith, eqb-true e.due (next count) now, ticks.0, c) in
        let is_suc : 1 + prefix_len (λ (entry : DueRequest). entry.due == next count) es ≡
        suc (prefix_len (λ (entry : DueRequest). entry.due == next count) es) = omega arith in
        rw (is_suc, one) (again tt)
    by false other again =
        let some : 2 ≤ ticks_to count e.due = omega (arith, eqb-false e.due (next count) other, ticks.0, c, due.0) in
        sym (none_due count (e ∷ es) c due (
          some,
          all_later 2 (requests_at count es)
              (λ place d within. omega (arith, some, order 0 (suc place) d (omega arith) (omega (arith, within)))),
        ))

all_drop : {X : Type 0} (P : X → Type 0) (count : ℕ) (xs : List X) → AllByRecursion P xs →
    AllByRecursion P (drop count xs)
all_drop P zero xs all = all
all_drop P (suc count) [] all = tt
all_drop P (suc count) (x ∷ xs) all = all_drop P count xs all.1

some_left : (period : ℕ) (rs : List Request) →
    AllByRecursion (λ request. (1 ≤ request.left) × (request.left ≤ period)) rs →
    AllByRecursion (λ request. 1 ≤ request.left) rs
some_left period [] all = tt
some_left period (r ∷ rs) all = (all.0.0, some_left period rs all.1)

pub expires : (period count : ℕ) (es : List DueRequest) → AreKept period count es
    → requests_at (next count) (drop (prefix_len (λ entry. entry.due == next count) es) es) ≡
    aged (requests_at count es)
expires period count es kept =
    expired count es kept.waiting.count kept.due (some_left period (requests_at count es) kept.waiting.ticks)
    kept.waiting.order

pub ticks_on : (period count : ℕ) (es : List DueRequest) → AreKept period count es →
    AreKept period (next count) (drop (prefix_len (λ entry. entry.due == next count) es) es)
ticks_on period count es kept = record {
  waiting = rw (expires period count es kept)
      (ages period count (next count) (requests_at count es) (omega arith) kept.waiting);
  due = all_drop (λ entry. entry.due < 2 ^ 32) (prefix_len (λ entry. entry.due == next count) es) es kept.due;
}
