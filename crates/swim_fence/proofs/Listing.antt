-- What is kept after members were listed is what the longer history comes to.
use Rattle.std.proofs.Common.{◌≡◌, ℕ, ◌+◌, ◌<◌, set, below_more, arith, Bool, true, false, cond, List, [], ◌∷◌, length}
use Rattle.std.proofs.Common.{get_or, Option, Some, None, refl, sym, ◌∙◌, ap}
use Rattle.std.specs.List.{list_any, position}
use Rattle.std.specs.List.Sorted.{IsPermutation}
use Rattle.std.specs.Option.{option_map, unwrap_or}
use Rattle.std.proofs.lemmas.List.{nil_from_length, get_or-set_same, get_or-set_other, get_or_default}
use Rattle.std.proofs.lemmas.List.Sorted.{length_permutation, list_any-IsPermutation}
use Rattle.swim_wire.specs.Address.{Address}
use Rattle.swim_fence.specs.Buckets.{bucket_of, full}
use Rattle.swim_fence.specs.Fences.{Kept, Follows, bucket_at, bucket_by, bucket_for}
use Rattle.swim_fence.specs.Histories.{Event, is_same, is_listed, own_times}
use Rattle.swim_fence.specs.Histories.Event.{Listed}
use Rattle.swim_fence.specs.declared.buckets.Bucket.{Bucket}
use Rattle.swim_fence.proofs.Same.{one_address, at_position, list_any-at_some, list_any-at_none}

-- the buckets of these addresses are those that they had
abbrev pub AreKeptFor : Kept → List Address → List Bucket → Type 0
AreKeptFor k members buckets = (place : ℕ) (a : Address) (b : Bucket) → place < length members →
    get_or buckets place b ≡ bucket_for k (get_or members place a)

-- the bucket of an address that is listed now
bucket_for_by : (k : Kept) (h : List Event) (a : Address) → bucket_at k a ≡ bucket_by k.rate h a →
    bucket_for k a ≡ bucket_of k.rate (cond (is_listed a h) (own_times a h) [])
bucket_for_by k h a e = ap (λ o. unwrap_or o (full k.rate)) e ∙ by_test (is_listed a h) where
  by_test : (b : Bool) → unwrap_or (cond b (Some (bucket_of k.rate (own_times a h))) None) (full k.rate) ≡
      bucket_of k.rate (cond b (own_times a h) [])
  by_test true = refl
  by_test false = refl

-- members were listed
pub Follows-listed : (k : Kept) (h : List Event) (listed members : List Address) (buckets : List Bucket) →
    IsPermutation listed members → AreKeptFor k members buckets →
    Follows k h → Follows (record { rate = k.rate; members = members; buckets = buckets; strangers = k.strangers })
    (Listed listed ∷ h)
Follows-listed k h listed members buckets permuted kept f = record {
  members = λ positive a. by_place positive a (position (is_same a) members) refl;
  strangers = f.strangers;
} where
  same : (a : Address) → list_any (is_same a) listed ≡ list_any (is_same a) members
  same a = list_any-IsPermutation (is_same a) listed members permuted

  by_place : 0 < k.rate → (a : Address) (o : Option ℕ) → position (is_same a) members ≡ o →
      option_map (λ place. get_or buckets place (full k.rate)) o ≡ bucket_by k.rate (Listed listed ∷ h) a
  by_place positive a None e =
      ap (λ b. cond b (Some (bucket_of k.rate (own_times a (Listed listed ∷ h)))) None)
      (sym (same a ∙ list_any-at_none (is_same a) members e))
  by_place positive a (Some place) e =
      let at = at_position (is_same a) members place a e in
      ap Some (kept place a (full k.rate) at.0 ∙ ap (bucket_for k) (sym (one_address a (get_or members place a) at.1)) ∙
      bucket_for_by k h a (f.members positive a))
      ∙ ap (λ b. cond b (Some (bucket_of k.rate (own_times a (Listed listed ∷ h)))) None)
      (sym (same a ∙ list_any-at_some (is_same a) members place e))

-- nobody was listed, and nothing asked
pub Follows-nothing : (rate : ℕ) (members : List Address) (buckets : List Bucket) (strangers : Bucket) →
    IsPermutation [] members → strangers ≡ full rate →
    Follows (record { rate = rate; members = members; buckets = buckets; strangers = strangers }) []
Follows-nothing rate members buckets strangers permuted untouched = record {
  members = λ _ a. ap (λ xs. option_map (λ place. get_or buckets place (full rate)) (position (is_same a) xs)) none;
  strangers = λ _. untouched;
} where
  none : members ≡ []
  none = nil_from_length members (length_permutation [] members permuted)

-- one bucket more
pub kept_more : (k : Kept) (members : List Address) (buckets : List Bucket) (place : ℕ) (m : Address)
    (bucket : Bucket) →
    ((p : ℕ) → p < place → (a : Address) (b : Bucket) → get_or buckets p b ≡ bucket_for k (get_or members p a)) →
    place < length members → place < length buckets → m ≡ get_or members place m → bucket ≡ bucket_for k m →
    (p : ℕ) → p < place + 1 → (a : Address) (b : Bucket) →
    get_or (set buckets place bucket) p b ≡ bucket_for k (get_or members p a)
kept_more k members buckets place m bucket before within room read is =
    below_more (λ p. (a : Address) (b : Bucket) →
    get_or (set buckets place bucket) p b ≡ bucket_for k (get_or members p a)) place
    (λ p below a b. get_or-set_other buckets place p bucket b (omega arith) ∙ before p below a b)
    (λ a b. get_or-set_same buckets place bucket b room ∙ is ∙
    ap (bucket_for k) (read ∙ get_or_default members place m a within))
