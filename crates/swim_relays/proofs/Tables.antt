-- What a table of requests becomes, where no probe's requests wait twice.
use Rattle.std.specs.Prelude.{◌≡◌, ℕ, ◌-◌, ◌<◌, ◌≤◌, ◌^◌, Bool, true, false, ◌||◌, ◌&&◌, not, nat_lt, List, [], ◌∷◌}
use Rattle.std.specs.Prelude.{◌++◌, length, map, filter, None, zero, suc}
use Rattle.std.specs.List.{AllByRecursion}
use Rattle.std.specs.List.Sorted.{IsNonDecreasingBy}
use Rattle.std.proofs.Common.{cond, eqb, refl, subst, ◌∙◌, arith, get_or, length-append}
use Rattle.std.proofs.lemmas.List.{length-map}
use Rattle.std.proofs.lemmas.Bool.{and_parts, or_parts, or_from, eqb-true, eq-eqb, both_ways, ltb-true}
use Rattle.std.proofs.lemmas.Bool.{false_from_ne_true}
use Rattle.std.proofs.lemmas.List.Folds.{list_any-append}
use Rattle.std.proofs.lemmas.List.Kept.{IsNonDecreasingBy-filter}
use Rattle.std.proofs.lemmas.List.Sorted.{IsNonDecreasingBy-push}
use Rattle.swim_wire.specs.declared.messages.Key.{Key}
use Rattle.swim_wire.specs.declared.messages.Version.{Version}
use Rattle.swim_wire.specs.Address.{Address}
use Rattle.swim_wire.specs.Probe.{same_key}
use Rattle.swim_wire.specs.Requests.{Request, waits, forget, asker_for, one_less, aged}
use Rattle.swim_relays.specs.Waiting.{waits_twice, AreWaiting}

-- ---- keys

pub key_is : (a b : Key) → same_key a b ≡ true → a ≡ b
key_is a b e =
    let parts = and_parts (eqb a.initiator b.initiator && eqb a.target b.target) (eqb a.number b.number) e in
    let firsts = and_parts (eqb a.initiator b.initiator) (eqb a.target b.target) parts.0 in
    by a.initiator a.target a.number b.initiator b.target b.number
    (eqb-true a.initiator b.initiator firsts.0) (eqb-true a.target b.target firsts.1)
    (eqb-true a.number b.number parts.1)
  where
    by : (i t n i' t' n' : ℕ) → i ≡ i' → t ≡ t' → n ≡ n' →
        (let x : Key = record { initiator = i; target = t; number = n } in x) ≡
        record { initiator = i'; target = t'; number = n' }
    by i t n i' t' n' e f g = rw (e, f, g) refl

key_same : (a : Key) → same_key a a ≡ true
key_same a = rw (eq-eqb a.initiator a.initiator refl, eq-eqb a.target a.target refl, eq-eqb a.number a.number refl) refl

other_key : (a b : Key) → same_key a b ≡ false → same_key b a ≡ false
other_key a b e = false_from_ne_true (same_key b a)
    (λ same. both_ways (same_key a b) e (subst (λ x. same_key x b ≡ true) (key_is b a same) (key_same b)))

-- ---- one request taken out

pub asker_none : (key : Key) (rs : List Request) → waits key rs ≡ false → None ≡ asker_for key rs
asker_none key [] none = refl
asker_none key (r ∷ rs) none =
    let parts = or_parts (same_key r.key key) (waits key rs) none in
    rw parts.0 (asker_none key rs parts.1)

-- ---- what stays true

-- a part of the requests that is chosen by a test
waits_part : (key : Key) (p : Request → Bool) (rs : List Request) → waits key rs ≡ false →
    waits key (filter p rs) ≡ false
waits_part key p [] none = refl
waits_part key p (r ∷ rs) none =
    let parts = or_parts (same_key r.key key) (waits key rs) none in
    by (p r) parts.0 (waits_part key p rs parts.1)
  where
    by : (b : Bool) → same_key r.key key ≡ false → waits key (filter p rs) ≡ false →
        waits key (cond b (r ∷ filter p rs) (filter p rs)) ≡ false
    by true other again = or_from (same_key r.key key) (waits key (filter p rs)) other again
    by false other again = again

once_part : (p : Request → Bool) (rs : List Request) → waits_twice rs ≡ false → waits_twice (filter p rs) ≡ false
once_part p [] once = refl
once_part p (r ∷ rs) once =
    let parts = or_parts (waits r.key rs) (waits_twice rs) once in
    by (p r) (waits_part r.key p rs parts.0) (once_part p rs parts.1)
  where
    by : (b : Bool) → waits r.key (filter p rs) ≡ false → waits_twice (filter p rs) ≡ false →
        waits_twice (cond b (r ∷ filter p rs) (filter p rs)) ≡ false
    by true others again = or_from (waits r.key (filter p rs)) (waits_twice (filter p rs)) others again
    by false others again = again

all_part : (P : Request → Type 0) (p : Request → Bool) (rs : List Request) → AllByRecursion P rs →
    AllByRecursion P (filter p rs)
all_part P p [] all = tt
all_part P p (r ∷ rs) all = by (p r) all.0 (all_part P p rs all.1) where
  by : (b : Bool) → P r → AllByRecursion P (filter p rs) → AllByRecursion P (cond b (r ∷ filter p rs) (filter p rs))
  by true here again = (here, again)
  by false here again = again

length_part : (p : Request → Bool) (rs : List Request) → length (filter p rs) ≤ length rs
length_part p [] = omega arith
length_part p (r ∷ rs) = by (p r) (length_part p rs) where
  by : (b : Bool) → length (filter p rs) ≤ length rs → length (cond b (r ∷ filter p rs) (filter p rs)) ≤ length (r ∷ rs)
  by true again = omega (arith, again)
  by false again = omega (arith, again)

-- the requests without those of a probe
pub gone : (key : Key) (rs : List Request) → waits key (forget key rs) ≡ false
gone key [] = refl
gone key (r ∷ rs) = by (same_key r.key key) refl (gone key rs) where
  by : (b : Bool) → same_key r.key key ≡ b → waits key (forget key rs) ≡ false →
      waits key (cond (not b) (r ∷ forget key rs) (forget key rs)) ≡ false
  by true e again = again
  by false e again = or_from (same_key r.key key) (waits key (forget key rs)) e again

fewer : (key : Key) (rs : List Request) → waits key rs ≡ true → length (forget key rs) < length rs
fewer key [] h = absurd cc
fewer key (r ∷ rs) h = by (same_key r.key key) h (fewer key rs) where
  by : (b : Bool) → (b || waits key rs) ≡ true → (waits key rs ≡ true → length (forget key rs) < length rs) →
      length (cond (not b) (r ∷ forget key rs) (forget key rs)) < length (r ∷ rs)
  by true e again = omega (arith, length_part (λ request. not (same_key request.key key)) rs)
  by false e again = omega (arith, again e)

-- one more behind the others
once_push : (rs : List Request) (r : Request) → waits_twice rs ≡ false → waits r.key rs ≡ false →
    waits_twice (rs ++ r ∷ []) ≡ false
once_push [] r once none = refl
once_push (x ∷ rs) r once none =
    let onces = or_parts (waits x.key rs) (waits_twice rs) once in
    let nones = or_parts (same_key x.key r.key) (waits r.key rs) none in
    or_from (waits x.key (rs ++ r ∷ [])) (waits_twice (rs ++ r ∷ []))
    (list_any-append (λ request. same_key request.key x.key) rs (r ∷ []) ∙
    (rw (onces.0, other_key x.key r.key nones.0) refl))
    (once_push rs r onces.1 nones.1)

pub all_push : {X : Type 0} (P : X → Type 0) (xs : List X) (x : X) → AllByRecursion P xs → P x →
    AllByRecursion P (xs ++ x ∷ [])
all_push P [] x all here = (here, tt)
all_push P (y ∷ xs) x all here = (all.0, all_push P xs x all.1 here)

all_at : {X : Type 0} (P : X → Type 0) (xs : List X) (place : ℕ) (d : X) → AllByRecursion P xs → place < length xs →
    P (get_or xs place d)
all_at P [] place d all lt = absurd (omega (arith, lt))
all_at P (x ∷ xs) zero d all lt = all.0
all_at P (x ∷ xs) (suc place) d all lt = all_at P xs place d all.1 (omega (arith, lt))

-- there is room where one is taken out, or fewer than 64 wait
pub room_after : (key : Key) (rs : List Request) → (waits key rs || nat_lt (length rs) 64) ≡ true → length rs ≤ 64 →
    length (forget key rs) < 64
room_after key rs room most = by (waits key rs) refl room where
  by : (b : Bool) → waits key rs ≡ b → (b || nat_lt (length rs) 64) ≡ true → length (forget key rs) < 64
  by true e h = omega (arith, fewer key rs e, most)
  by false e h = omega (arith, length_part (λ request. not (same_key request.key key)) rs, ltb-true (length rs) 64 h)

-- the table without those of a probe
pub forgets : (key : Key) (period count : ℕ) (rs : List Request) →
    AreWaiting (record { period = period; count = count; waiting = rs })
    → AreWaiting (record { period = period; count = count; waiting = forget key rs })
forgets key period count rs kept = record {
  period = kept.period;
  count = kept.count;
  once = once_part (λ request. not (same_key request.key key)) rs kept.once;
  bound = omega (arith, length_part (λ request. not (same_key request.key key)) rs, kept.bound);
  ticks = all_part (λ request. (1 ≤ request.left) × (request.left ≤ period)) (λ request. not (same_key request.key key))
      rs kept.ticks;
  order = IsNonDecreasingBy-filter (λ request. request.left) (λ request. not (same_key request.key key)) rs kept.order;
}

-- and with a new one of it
pub asks : (key : Key) (peer : Address) (version : Version) (period count : ℕ) (rs : List Request) →
    AreWaiting (record { period = period; count = count; waiting = rs }) → waits key rs ≡ false → length rs < 64
    → AreWaiting (record {
      period = period;
      count = count;
      waiting = rs ++ record { key = key; peer = peer; version = version; left = period } ∷ [];
    })
asks key peer version period count rs kept none room =
    let new : Request = record { key = key; peer = peer; version = version; left = period } in
    let fits : Request → Type 0 = λ request. (1 ≤ request.left) × (request.left ≤ period) in
    record {
      period = kept.period;
      count = kept.count;
      once = once_push rs new kept.once none;
      bound = omega (arith, length-append rs (new ∷ []), room);
      ticks = all_push fits rs new kept.ticks (kept.period.0, omega arith);
      order = IsNonDecreasingBy-push (λ request. request.left) rs new kept.order
          (λ d some. (all_at fits rs (length rs - 1) d kept.ticks (omega (arith, some))).1);
    }

-- ---- a tick

waits_aged : (key : Key) (rs : List Request) → waits key rs ≡ false → waits key (aged rs) ≡ false
waits_aged key [] none = refl
waits_aged key (r ∷ rs) none =
    let parts = or_parts (same_key r.key key) (waits key rs) none in
    by (nat_lt 0 (r.left - 1)) parts.0 (waits_aged key rs parts.1)
  where
    by : (b : Bool) → same_key r.key key ≡ false → waits key (aged rs) ≡ false →
        waits key (cond b (one_less r ∷ aged rs) (aged rs)) ≡ false
    by true other again = or_from (same_key r.key key) (waits key (aged rs)) other again
    by false other again = again

once_aged : (rs : List Request) → waits_twice rs ≡ false → waits_twice (aged rs) ≡ false
once_aged [] once = refl
once_aged (r ∷ rs) once =
    let parts = or_parts (waits r.key rs) (waits_twice rs) once in
    by (nat_lt 0 (r.left - 1)) (waits_aged r.key rs parts.0) (once_aged rs parts.1)
  where
    by : (b : Bool) → waits r.key (aged rs) ≡ false → waits_twice (aged rs) ≡ false →
        waits_twice (cond b (one_less r ∷ aged rs) (aged rs)) ≡ false
    by true others again = or_from (waits r.key (aged rs)) (waits_twice (aged rs)) others again
    by false others again = again

ticks_aged : (period : ℕ) (rs : List Request) →
    AllByRecursion (λ request. (1 ≤ request.left) × (request.left ≤ period)) rs
    → AllByRecursion (λ request. (1 ≤ request.left) × (request.left ≤ period)) (aged rs)
ticks_aged period [] all = tt
ticks_aged period (r ∷ rs) all = by (nat_lt 0 (r.left - 1)) refl all.0 (ticks_aged period rs all.1) where
  by : (b : Bool) → nat_lt 0 (r.left - 1) ≡ b → (1 ≤ r.left) × (r.left ≤ period) →
      AllByRecursion (λ request. (1 ≤ request.left) × (request.left ≤ period)) (aged rs)
      → AllByRecursion (λ request. (1 ≤ request.left) × (request.left ≤ period))
      (cond b (one_less r ∷ aged rs) (aged rs))
  by true e here again = ((omega (arith, ltb-true 0 (r.left - 1) e), omega (arith, here.1)), again)
  by false e here again = again

length_aged : (rs : List Request) → length (aged rs) ≤ length rs
length_aged [] = omega arith
length_aged (r ∷ rs) = by (nat_lt 0 (r.left - 1)) (length_aged rs) where
  by : (b : Bool) → length (aged rs) ≤ length rs → length (cond b (one_less r ∷ aged rs) (aged rs)) ≤ length (r ∷ rs)
  by true again = omega (arith, again)
  by false again = omega (arith, again)

less_at : (rs : List Request) (place : ℕ) (d : Request) → place < length rs →
    (get_or (map one_less rs) place d).left ≡ (get_or rs place d).left - 1
less_at [] place d lt = absurd (omega (arith, lt))
less_at (r ∷ rs) zero d lt = refl
less_at (r ∷ rs) (suc place) d lt = less_at rs place d (omega (arith, lt))

order_less : (rs : List Request) → IsNonDecreasingBy (λ request. request.left) rs →
    IsNonDecreasingBy (λ request. request.left) (map one_less rs)
order_less rs order i j d ij within =
    let here : j < length rs = omega (arith, within, length-map rs one_less) in
    omega (arith, less_at rs i d (omega (arith, here, ij)), less_at rs j d here, order i j d ij here)

pub ages : (period count later : ℕ) (rs : List Request) → later < 2 ^ 32 →
    AreWaiting (record { period = period; count = count; waiting = rs })
    → AreWaiting (record { period = period; count = later; waiting = aged rs })
ages period count later rs fits kept = record {
  period = kept.period;
  count = fits;
  once = once_aged rs kept.once;
  bound = omega (arith, length_aged rs, kept.bound);
  ticks = ticks_aged period rs kept.ticks;
  order = IsNonDecreasingBy-filter (λ request. request.left) (λ request. nat_lt 0 request.left) (map one_less rs)
      (order_less rs kept.order);
}
