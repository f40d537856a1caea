-- Sealed bytes are opened, and no others.
use Rattle.std.proofs.Common.{◌≡◌, ℕ, ◌-◌, ◌≤◌, Bool, true, false, ◌&&◌, nat_le, cond, List, ◌++◌, length, take, drop}
use Rattle.std.proofs.Common.{Option, Some, None, sym, subst, ◌∙◌, ap, arith, length-append}
use Rattle.std.specs.Borrow.{Bor}
use Rattle.std.specs.List.{list_any, Contains}
use Rattle.std.specs.Option.{option_map, IfSome}
use Rattle.std.specs.Str.{bytes_eq}
use Rattle.std.proofs.lemmas.Option.{cond_some}
use Rattle.std.proofs.lemmas.Slice.Eq.{bytes_eq-Decides}
use Rattle.std.proofs.lemmas.List.{take-append-drop, length-take-le}
use Rattle.std.proofs.lemmas.List.Folds.{Any-from_list_any, list_any_at}
use Rattle.std.proofs.Math.Seq.{drop-append_seam, take-append_seam}
use Rattle.sha2.proofs.Facts256.{length-sha256}
use Rattle.swim_keys.specs.Hmac.{block_of, hmac, hmac_by}
use Rattle.swim_keys.specs.Sealing.{Keyring, keys_of, tag_of, fits, opened, text_in, tag_in, IsSealed, tag_bytes}

-- an HMAC has 32 bytes
pub length-hmac_by : (block text : List ℕ) → length (hmac_by block text) ≡ 32
unfolding hmac_by
length-hmac_by block text = length-sha256 _

-- a tag has 16 bytes
pub length-tag_of : (key text : List ℕ) → length (tag_of key text) ≡ 16
length-tag_of key text = length-take-le 16 (hmac key text) (omega (arith, length-hmac_by (block_of key) text))

-- both of two tests passed
and_right : (a b : Bool) → (a && b) ≡ true → b ≡ true
and_right true b h = h
and_right false b h = cc

leb_true : (a b : ℕ) → a ≤ b → nat_le a b ≡ true
leb_true a b h = grind arith

-- what stands in front of 16 bytes, and these
front_of : (text tag : List ℕ) → length tag ≡ 16 → text_in (text ++ tag) ≡ text
front_of text tag size =
    let end : length (text ++ tag) - 16 ≡ length text = omega (arith, length-append text tag) in
    ap (λ n. take n (text ++ tag)) end ∙ take-append_seam text tag

back_of : (text tag : List ℕ) → length tag ≡ 16 → tag_in (text ++ tag) ≡ tag
back_of text tag size =
    let end : length (text ++ tag) - 16 ≡ length text = omega (arith, length-append text tag) in
    ap (λ n. drop n (text ++ tag)) end ∙ drop-append_seam text tag

-- some key's tag stands behind
key_by : (tag : List ℕ → List ℕ) (keys : List (List ℕ)) (front back : List ℕ) →
    list_any (λ key. bytes_eq (tag key) back) keys ≡ true →
    (key : List ℕ) × Contains keys key × (front ++ back ≡ front ++ tag key)
key_by tag keys front back some =
    let found = Any-from_list_any (λ key. bytes_eq (tag key) back) keys some in
    let same = (bytes_eq-Decides (tag found.1) back).0 found.4 in
    (found.1, (found.0, found.2, found.3), ap (λ end. front ++ end) (sym same))

-- a key's tag is found
found_by : (tag : List ℕ → List ℕ) (keys : List (List ℕ)) (key back : List ℕ) → Contains keys key → back ≡ tag key →
    list_any (λ k. bytes_eq (tag k) back) keys ≡ true
found_by tag keys key back mem same =
    list_any_at (λ k. bytes_eq (tag k) back) keys mem.0 key mem.1
    ((bytes_eq-Decides _ back).1 (ap tag mem.2 ∙ sym same))

-- what is opened was sealed
pub sealed_when_opened : (ring : Keyring) (bytes text : List ℕ) → opened ring bytes ≡ Some text →
    IsSealed ring bytes text
sealed_when_opened ring bytes text is =
    let passed = cond_some
    (nat_le tag_bytes (length bytes) && list_any (fits (text_in bytes) (tag_in bytes)) (keys_of ring))
    (text_in bytes) text is in
    let by = key_by (λ key. tag_of key (text_in bytes)) (keys_of ring) (text_in bytes) (tag_in bytes)
    (and_right _ _ passed.0) in
    let whole = sym (take-append-drop (length bytes - tag_bytes) bytes) in
    subst (λ (t : List ℕ). IsSealed ring bytes t) passed.1 (by.0, by.1, whole ∙ by.2)

pub IsSealed-from_opened : (ring : Keyring) (bytes : List ℕ) (it : Option (Bor (List ℕ))) →
    option_map (λ b. b.now) it ≡ opened ring bytes → IfSome it (λ b. IsSealed ring bytes b.now)
IsSealed-from_opened ring bytes (Some b) is = sealed_when_opened ring bytes b.now (sym is)
IsSealed-from_opened ring bytes None is = tt

-- sealed bytes are opened
pub opened-sealed : (ring : Keyring) (bytes text : List ℕ) → IsSealed ring bytes text → opened ring bytes ≡ Some text
opened-sealed ring bytes text h =
    let key = h.0 in
    let front : text_in bytes ≡ text = ap text_in h.2 ∙ front_of text (tag_of key text) (length-tag_of key text) in
    let back : tag_in bytes ≡ tag_of key text = ap tag_in h.2 ∙
    back_of text (tag_of key text) (length-tag_of key text) in
    let long : nat_le tag_bytes (length bytes) ≡ true =
    leb_true tag_bytes (length bytes)
    (omega (arith, ap length h.2, length-append text (tag_of key text), length-tag_of key text)) in
    let some : list_any (fits (text_in bytes) (tag_in bytes)) (keys_of ring) ≡ true =
    found_by (λ k. tag_of k (text_in bytes)) (keys_of ring) key (tag_in bytes) h.1
    (back ∙ ap (tag_of key) (sym front)) in
    ap (λ b. cond (b && list_any (fits (text_in bytes) (tag_in bytes)) (keys_of ring)) (Some (text_in bytes)) None) long
    ∙ ap (λ b. cond b (Some (text_in bytes)) None) some
    ∙ ap Some front
