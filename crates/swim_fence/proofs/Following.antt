-- What is kept after a datagram asked is what the longer history comes to.
use Rattle.std.proofs.Common.{◌≡◌, ◌≢◌, ℕ, ◌<◌, ◌≤◌, Bool, true, false, cond, List, ◌∷◌, length, get_or, set, Option}
use Rattle.std.proofs.Common.{Some, None, refl, sym, ◌∙◌, ap, subst, arith}
use Rattle.std.proofs.lemmas.List.{get_or-set_same, get_or-set_other, get_or_default}
use Rattle.std.specs.List.{position}
use Rattle.std.specs.Option.{option_map, unwrap_or}
use Rattle.swim_wire.specs.Address.{Address}
use Rattle.swim_fence.specs.Buckets.{after, bucket_of, full}
use Rattle.swim_fence.specs.Fences.{Kept, Follows, HasRoom, after_asked, asked_bucket, bucket_at, bucket_by, bucket_for}
use Rattle.swim_fence.specs.Fences.{put_at}
use Rattle.swim_fence.specs.Histories.{Event, is_same, is_listed, own_times, strange_times}
use Rattle.swim_fence.specs.Histories.Event.{Asked}
use Rattle.swim_fence.specs.declared.buckets.Bucket.{Bucket}
use Rattle.swim_fence.proofs.Same.{one_address, is_same-self, at_position}

-- an address that has a bucket is listed, and its bucket is by its own times
listed_by : (rate : ℕ) (h : List Event) (a : Address) (bucket : Bucket) → Some bucket ≡ bucket_by rate h a →
    (is_listed a h ≡ true) × (bucket ≡ bucket_of rate (own_times a h))
listed_by rate h a bucket e = by_test (is_listed a h) e where
  by_test : (b : Bool) → Some bucket ≡ cond b (Some (bucket_of rate (own_times a h))) None →
      (b ≡ true) × (bucket ≡ bucket_of rate (own_times a h))
  by_test true e = (refl, cc)
  by_test false e = cc

-- one that has none isn't
unlisted_by : (rate : ℕ) (h : List Event) (a : Address) → None ≡ bucket_by rate h a → is_listed a h ≡ false
unlisted_by rate h a e = by_test (is_listed a h) e where
  by_test : (b : Bool) → None ≡ cond b (Some (bucket_of rate (own_times a h))) None → b ≡ false
  by_test true e = cc
  by_test false e = refl

-- a datagram of another address changes nothing
bucket_by-other : (rate : ℕ) (h : List Event) (a from : Address) (now : ℕ) → is_same a from ≡ false →
    bucket_by rate (Asked from now ∷ h) a ≡ bucket_by rate h a
bucket_by-other rate h a from now other =
    ap (λ b. cond (is_listed a h) (Some (bucket_of rate (cond b (now ∷ own_times a h) (own_times a h)))) None) other

bucket_by-unlisted : (rate : ℕ) (h : List Event) (a : Address) → is_listed a h ≡ false → bucket_by rate h a ≡ None
bucket_by-unlisted rate h a e = ap (λ b. cond b (Some (bucket_of rate (own_times a h))) None) e

-- a member's own datagram is paid from its bucket
bucket_by-own : (rate : ℕ) (h : List Event) (a : Address) (now : ℕ) → is_listed a h ≡ true →
    bucket_by rate (Asked a now ∷ h) a ≡ Some (after rate now (bucket_of rate (own_times a h)))
bucket_by-own rate h a now listed =
    ap (λ b. cond b (Some (bucket_of rate (own_times a (Asked a now ∷ h)))) None) listed
    ∙ ap (λ b. Some (bucket_of rate (cond b (now ∷ own_times a h) (own_times a h)))) (is_same-self a)

-- the bucket of another place stays
other_place : (k : Kept) (from : Address) (place : ℕ) (bucket : Bucket) (a : Address) →
    position (is_same from) k.members ≡ Some place → is_same a from ≡ false →
    bucket_at (put_at (Some place) bucket k) a ≡ bucket_at k a
other_place k from place bucket a stands other = by_place (position (is_same a) k.members) refl where
  by_place : (o : Option ℕ) → position (is_same a) k.members ≡ o →
      option_map (λ p. get_or (set k.buckets place bucket) p (full k.rate)) o ≡
      option_map (λ p. get_or k.buckets p (full k.rate)) o
  by_place None e = refl
  by_place (Some p) e =
      let here = one_address a (get_or k.members p a) (at_position (is_same a) k.members p a e).1 in
      let there = one_address from (get_or k.members place a) (at_position (is_same from) k.members place a stands).1 in
      let apart : p ≢ place = λ same.
      let one : a ≡ from = here ∙ ap (λ n. get_or k.members n a) same ∙ sym there in
      let yes : is_same a from ≡ true = ap (is_same a) (sym one) ∙ is_same-self a in cc in
      ap Some (get_or-set_other k.buckets place p bucket (full k.rate) apart)

-- the bucket of that place is what was put there
own_place : (k : Kept) (from : Address) (place : ℕ) (bucket : Bucket) → position (is_same from) k.members ≡ Some place →
    place < length k.buckets →
    bucket_at (put_at (Some place) bucket k) from ≡ Some bucket
own_place k from place bucket stands within =
    ap (option_map (λ p. get_or (set k.buckets place bucket) p (full k.rate))) stands
    ∙ ap Some (get_or-set_same k.buckets place bucket (full k.rate) within)

-- a member's datagram asked
member_asked : (k : Kept) (h : List Event) (from : Address) (now place : ℕ) → 0 < k.rate → Follows k h →
    position (is_same from) k.members ≡ Some place → place < length k.buckets →
    Follows (put_at (Some place) (after k.rate now (asked_bucket k from)) k) (Asked from now ∷ h)
member_asked k h from now place positive f stands within = record {
  members = λ _ a. by_test a (is_same a from) refl;
  strangers = λ _. f.strangers positive ∙
      ap (λ b. bucket_of k.rate (cond b (strange_times h) (now ∷ strange_times h))) (sym found.0);
} where
  has : Some (get_or k.buckets place (full k.rate)) ≡ bucket_by k.rate h from
  has = ap (option_map (λ p. get_or k.buckets p (full k.rate))) (sym stands) ∙ f.members positive from

  found : (is_listed from h ≡ true) × (get_or k.buckets place (full k.rate) ≡ bucket_of k.rate (own_times from h))
  found = listed_by k.rate h from (get_or k.buckets place (full k.rate)) has

  asks : asked_bucket k from ≡ bucket_of k.rate (own_times from h)
  asks = ap (λ o. unwrap_or (option_map (λ p. get_or k.buckets p (full k.rate)) o) k.strangers) stands ∙ found.1

  by_test : (a : Address) (b : Bool) → is_same a from ≡ b →
      bucket_at (put_at (Some place) (after k.rate now (asked_bucket k from)) k) a ≡
      bucket_by k.rate (Asked from now ∷ h) a
  by_test a true e =
      let one = one_address a from e in
      let P : Address → Type 0 = λ q. bucket_at (put_at (Some place) (after k.rate now (asked_bucket k from)) k) q ≡
      bucket_by k.rate (Asked from now ∷ h) q in
      subst P (sym one) (own_place k from place (after k.rate now (asked_bucket k from)) stands within ∙
      ap (λ b. Some (after k.rate now b)) asks ∙ sym (bucket_by-own k.rate h from now found.0))
  by_test a false e = other_place k from place (after k.rate now (asked_bucket k from)) a stands e ∙
      f.members positive a ∙ sym (bucket_by-other k.rate h a from now e)

-- a stranger's datagram asked
stranger_asked : (k : Kept) (h : List Event) (from : Address) (now : ℕ) → 0 < k.rate → Follows k h →
    position (is_same from) k.members ≡ None →
    Follows (put_at None (after k.rate now (asked_bucket k from)) k) (Asked from now ∷ h)
stranger_asked k h from now positive f stands = record {
  members = λ _ a. f.members positive a ∙ by_test a (is_same a from) refl;
  strangers = λ _. ap (after k.rate now) asks ∙
      ap (λ b. bucket_of k.rate (cond b (strange_times h) (now ∷ strange_times h))) (sym unlisted);
} where
  unlisted : is_listed from h ≡ false
  unlisted = unlisted_by k.rate h from
      (ap (option_map (λ p. get_or k.buckets p (full k.rate))) (sym stands) ∙ f.members positive from)

  asks : asked_bucket k from ≡ bucket_of k.rate (strange_times h)
  asks = ap (λ o. unwrap_or (option_map (λ p. get_or k.buckets p (full k.rate)) o) k.strangers) stands ∙
      f.strangers positive

  by_test : (a : Address) (b : Bool) → is_same a from ≡ b →
      bucket_by k.rate h a ≡ bucket_by k.rate (Asked from now ∷ h) a
  by_test a true e =
      let gone : is_listed a h ≡ false = ap (λ q. is_listed q h) (one_address a from e) ∙ unlisted in
      bucket_by-unlisted k.rate h a gone ∙ sym (bucket_by-unlisted k.rate (Asked from now ∷ h) a gone)
  by_test a false e = sym (bucket_by-other k.rate h a from now e)

-- a datagram asked
pub Follows-asked : (k : Kept) (h : List Event) (from : Address) (now : ℕ) → HasRoom k → 0 < k.rate → Follows k h →
    Follows (after_asked k from now) (Asked from now ∷ h)
Follows-asked k h from now room positive f = by_place (position (is_same from) k.members) refl where
  by_place : (o : Option ℕ) → position (is_same from) k.members ≡ o →
      Follows (put_at o (after k.rate now (asked_bucket k from)) k) (Asked from now ∷ h)
  by_place None e = stranger_asked k h from now positive f e
  by_place (Some place) e = member_asked k h from now place positive f e (room from place e)

-- each member has a bucket, where there are buckets for all
pub HasRoom-from_lengths : (k : Kept) → length k.members ≤ length k.buckets → HasRoom k
HasRoom-from_lengths k fits a place e = omega (arith, (at_position (is_same a) k.members place a e).0)

-- what a member's bucket is
pub bucket_for-at : (k : Kept) (a : Address) (place : ℕ) (d : Bucket) → Some place ≡ position (is_same a) k.members →
    place < length k.buckets →
    get_or k.buckets place d ≡ bucket_for k a
bucket_for-at k a place d stands within =
    get_or_default k.buckets place d (full k.rate) within
    ∙ ap (λ o. unwrap_or (option_map (λ p. get_or k.buckets p (full k.rate)) o) (full k.rate)) stands
