-- The parts of an order, read one after the other.
use Rattle.std.proofs.Common.{◌≡◌, ℕ, ◌<◌, ◌≤◌, Bool, true, false, List, [], ◌∷◌, ◌++◌, length, Option, Some, None, Ok}
use Rattle.std.proofs.Common.{Err, refl, sym, ap, ◌∙◌, arith, append-nil, append_assoc}
use Rattle.std.specs.Prelude.{option_and_then}
use Rattle.std.specs.Option.{option_map}
use Rattle.std.proofs.lemmas.Bool.{lt-ltb, le-ltb}
use Rattle.std.proofs.lemmas.List.{length-append}
use Rattle.swim_wire.specs.Ids.{id_of}
use Rattle.swim_script.specs.declared.commands.LineFault.TheVariants.{Number, Order}
use Rattle.swim_script.specs.Arguments.{ids_of, order_within}

-- the ids that were read are kept, unless there are more than an order may have
abbrev pub IsKept : Bool → List ℕ → List ℕ → Type 0
IsKept true order ids = (order ≡ ids) × (length ids ≤ 128)
IsKept false order ids = 128 < length ids

-- some parts were read, each of which is an id, and those parts are left
pub record Reading (parts left : List (List ℕ)) (order : List ℕ) (fits : Bool) : Type 0 where
  pub ids : List ℕ
  pub cut : ids_of parts ≡ option_map (λ more. ids ++ more) (ids_of left)
  pub kept : IsKept fits order ids

pub sets_out : (parts : List (List ℕ)) → Reading parts parts [] true
sets_out parts = record { ids = []; cut = by (ids_of parts); kept = (refl, omega arith) }
  where
    by : (found : Option (List ℕ)) → found ≡ option_map (λ more. [] ++ more) found
    by None = refl
    by (Some ids) = refl

-- a part more, which is an id
cut_more : (ids : List ℕ) (id : ℕ) (found : Option (List ℕ)) →
    option_map (λ more. ids ++ more) (option_map (λ more. id ∷ more) found) ≡
    option_map (λ more. (ids ++ id ∷ []) ++ more) found
cut_more ids id None = refl
cut_more ids id (Some more) = ap Some (sym (append_assoc ids (id ∷ []) more))

reads_on : (parts left : List (List ℕ)) (part order : List ℕ) (fits fits' : Bool) (order' : List ℕ) (id : ℕ)
    (r : Reading parts (part ∷ left) order fits) → id_of part ≡ Some id → IsKept fits' order' (r.ids ++ id ∷ []) →
    Reading parts left order' fits'
reads_on parts left part order fits fits' order' id r is kept = record {
  ids = r.ids ++ id ∷ [];
  cut = r.cut ∙ (ap (λ (found : Option ℕ).
      option_map (λ more. r.ids ++ more) (option_and_then (λ i. option_map (λ more. i ∷ more) (ids_of left)) found))
      is ∙ cut_more r.ids id (ids_of left));
  kept = kept;
}

kept_more : (fits : Bool) (order ids : List ℕ) (id : ℕ) → length order < 128 → IsKept fits order ids →
    IsKept fits (order ++ id ∷ []) (ids ++ id ∷ [])
kept_more true order ids id room k =
    (ap (λ xs. xs ++ id ∷ []) k.0, omega (arith, length-append ids (id ∷ []), ap length k.0))
kept_more false order ids id room k = omega (arith, length-append ids (id ∷ []))

full_then : (fits : Bool) (order ids : List ℕ) (id : ℕ) → length order ≡ 128 → IsKept fits order ids →
    128 < length (ids ++ id ∷ [])
full_then true order ids id full k = omega (arith, length-append ids (id ∷ []), ap length k.0)
full_then false order ids id full k = omega (arith, length-append ids (id ∷ []))

pub reads_kept : (parts left : List (List ℕ)) (part order : List ℕ) (fits : Bool) (id : ℕ) →
    Reading parts (part ∷ left) order fits → id_of part ≡ Some id → length order < 128 →
    Reading parts left (order ++ id ∷ []) fits
reads_kept parts left part order fits id r is room =
    reads_on parts left part order fits fits (order ++ id ∷ []) id r is (kept_more fits order r.ids id room r.kept)

pub reads_too_many : (parts left : List (List ℕ)) (part order : List ℕ) (fits : Bool) (id : ℕ) →
    Reading parts (part ∷ left) order fits → id_of part ≡ Some id → length order ≡ 128 → Reading parts left order false
reads_too_many parts left part order fits id r is full =
    reads_on parts left part order fits false order id r is (full_then fits order r.ids id full r.kept)

-- a part that is no id
pub reads_no_id : (parts left : List (List ℕ)) (part order : List ℕ) (fits : Bool) →
    Reading parts (part ∷ left) order fits → id_of part ≡ None → order_within (ids_of parts) ≡ Err Number
reads_no_id parts left part order fits r none =
    ap order_within (r.cut ∙
    ap (λ (found : Option ℕ).
    option_map (λ more. r.ids ++ more) (option_and_then (λ i. option_map (λ more. i ∷ more) (ids_of left)) found))
    none)

-- all parts were read
all_read : (parts : List (List ℕ)) (order : List ℕ) (fits : Bool) (r : Reading parts [] order fits) →
    ids_of parts ≡ Some r.ids
all_read parts order fits r = r.cut ∙ ap Some (append-nil r.ids)

pub all_kept : (parts : List (List ℕ)) (order : List ℕ) → Reading parts [] order true →
    order_within (ids_of parts) ≡ Ok (record { items = order })
all_kept parts order r = ap order_within (all_read parts order true r) ∙
    (rw (le-ltb 128 (length r.ids) r.kept.1, r.kept.0) refl)

pub too_many : (parts : List (List ℕ)) (order : List ℕ) → Reading parts [] order false →
    order_within (ids_of parts) ≡ Err Order
too_many parts order r = ap order_within (all_read parts order false r) ∙ (rw (lt-ltb 128 (length r.ids) r.kept) refl)
