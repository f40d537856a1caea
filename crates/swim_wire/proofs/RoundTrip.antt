-- Bytes without a fault are the text of the message in them, and a message is read again from its text.
use Rattle.std.proofs.Common.{◌≡◌, ℕ, ◌+◌, ◌^◌, ◌<◌, ◌≤◌, Bool, true, false, cond, eqb, ltb, List, [], ◌∷◌, ◌++◌}
use Rattle.std.proofs.Common.{length, get_or, take, drop, Option, Some, None, Result, Ok, Err, refl, sym, ap, subst}
use Rattle.std.proofs.Common.{◌∙◌, arith, inl, inr}
use Rattle.std.specs.Prelude.{◌||◌, ◌&&◌, not, is_some, if◌then◌else◌, IfOk, IfSome, MatchResult}
use Rattle.std.specs.Int.{w16, w32, w64, to_be_bytes, from_be_bytes}
use Rattle.std.proofs.lemmas.Bool.{cases_lt, eqb-true, eqb-false, ltb-false, not-false, and_parts, or_parts, or_from}
use Rattle.std.proofs.lemmas.Bool.{and_from, not_from_true, ne_eqb, eq-eqb, le-ltb}
use Rattle.std.proofs.lemmas.List.{take-append-drop, drop-drop, length-take, length-drop, get_or-drop, get_or-take}
use Rattle.std.proofs.lemmas.List.{get_or_past, take_all, drop_all}
use Rattle.std.proofs.Math.Seq.{drop-cons}
use Rattle.std.proofs.lemmas.Grind.{get_or_default_zero}
use Rattle.std.proofs.lemmas.Nat.{be_bytes_2, be_bytes_4, be_bytes_8, from_be_bytes-to_be_bytes_2}
use Rattle.std.proofs.lemmas.Nat.{from_be_bytes-to_be_bytes_4, from_be_bytes-to_be_bytes_8}
use Rattle.swim_wire.specs.declared.messages.Kind.{Kind}
use Rattle.swim_wire.specs.declared.messages.Kind.TheVariants.{Ping, PingReq, Ack}
use Rattle.swim_wire.specs.declared.messages.Version as versions
use Rattle.swim_wire.specs.declared.messages.Version.TheVariants.{One, Two}
use Rattle.swim_wire.specs.declared.codec.WireFault.{WireFault}
use Rattle.swim_wire.specs.declared.codec.WireFault.TheVariants.{Length, Magic, Version, UnknownKind, Form, ZeroId}
use Rattle.swim_wire.specs.declared.codec.WireFault.TheVariants.{ZeroNumber, ZeroPort}
use Rattle.swim_wire.specs.Address.{Address, IsAddress}
use Rattle.swim_wire.specs.AddressLaws.{four_of}
use Rattle.swim_wire.specs.First.{find_none}
use Rattle.swim_wire.specs.Messages.{Message, carries}
use Rattle.swim_wire.specs.Layout.{decoded, version_code, code_of, address_bytes, text_of, length_of, IsSound, IsTextOf}
use Rattle.swim_wire.specs.Layout.{version_of, kind_of, version_at, kind_at, id_at, number_at, address_at, has_address}
use Rattle.swim_wire.specs.Layout.{has_fault, first_fault, later_fault, message_at}

abbrev pub IsBytes : List ℕ → Type 0
IsBytes bytes = (i : ℕ) → get_or bytes i 0 < 256

IsBytes-drop : (n : ℕ) (bytes : List ℕ) → IsBytes bytes → IsBytes (drop n bytes)
IsBytes-drop n bytes h i = rw get_or-drop (h (n + i))

IsBytes-take : (n : ℕ) (bytes : List ℕ) → IsBytes bytes → IsBytes (take n bytes)
IsBytes-take n bytes h i =
    elim (cases_lt i n) [
      | inl lt ↦ rw (get_or-take n bytes i 0 lt) (h i)
      | inr le ↦ rw (get_or_past (take n bytes) i 0 (omega (arith, length-take n bytes))) (omega arith)
    ]

-- the kind's byte, from 1 to 3, is the code of the kind that is read from it
kind_again : (byte : ℕ) → eqb byte 0 ≡ false → ltb 3 byte ≡ false → code_of (kind_of byte) ≡ byte
kind_again byte least most = by (eqb byte 1) (eqb byte 2) refl refl where
  by : (one two : Bool) → eqb byte 1 ≡ one → eqb byte 2 ≡ two → code_of (cond one Ping (cond two PingReq Ack)) ≡ byte
  by true two e f = sym (eqb-true byte 1 e)
  by false true e f = sym (eqb-true byte 2 f)
  by false false e f = omega
      (arith, ltb-false 3 byte most, eqb-false byte 0 least, eqb-false byte 1 e, eqb-false byte 2 f)

-- the version's byte, 1 or 2, is the code of the version that is read from it
version_again : (byte : ℕ) → (eqb byte 1 || eqb byte 2) ≡ true → version_code (version_of byte) ≡ byte
version_again byte either = by (eqb byte 1) (eqb byte 2) refl refl either where
  by : (one two : Bool) → eqb byte 1 ≡ one → eqb byte 2 ≡ two → (one || two) ≡ true →
      version_code (cond one One Two) ≡ byte
  by true two e f g = sym (eqb-true byte 1 e)
  by false true e f g = sym (eqb-true byte 2 f)
  by false false e f g = absurd cc

-- the version that a code is read as, and no test of a code's range fails
code_of_version_again : (version : versions.Version) → version_of (version_code version) ≡ version
code_of_version_again One = refl
code_of_version_again Two = refl

version_in_range : (version : versions.Version) → (eqb (version_code version) 1 || eqb (version_code version) 2) ≡ true
version_in_range One = refl
version_in_range Two = refl

-- the kind that a code is read as
code_again : (kind : Kind) → kind_of (code_of kind) ≡ kind
code_again Ping = refl
code_again PingReq = refl
code_again Ack = refl

-- no test of a code's range fails
code_in_range : (kind : Kind) → (eqb (code_of kind) 0 || ltb 3 (code_of kind)) ≡ false
code_in_range Ping = refl
code_in_range PingReq = refl
code_in_range Ack = refl

-- four bytes are an id, below 2^32
id_back : (bytes : List ℕ) (at : ℕ) → IsBytes bytes → at + 4 ≤ length bytes →
    to_be_bytes w32 (id_at bytes at) ++ drop (at + 4) bytes ≡ drop at bytes
id_back bytes at fits long =
    let four : length (take 4 (drop at bytes)) ≡ 4 =
    omega (arith, length-take 4 (drop at bytes), length-drop at bytes) in
    let back : to_be_bytes w32 (id_at bytes at) ≡ take 4 (drop at bytes) =
    be_bytes_4 (take 4 (drop at bytes)) (id_at bytes at) four
    (IsBytes-take 4 (drop at bytes) (IsBytes-drop at bytes fits)) refl in
    let after : drop 4 (drop at bytes) ≡ drop (at + 4) bytes = drop-drop 4 at bytes in
    ap (λ (front : List ℕ). front ++ drop (at + 4) bytes) back ∙
    ap (λ (rest : List ℕ). take 4 (drop at bytes) ++ rest) (sym after) ∙ take-append-drop 4 (drop at bytes)

id_below : (bytes : List ℕ) (at : ℕ) → IsBytes bytes → id_at bytes at < 2 ^ 32
id_below bytes at fits =
    let four = IsBytes-take 4 (drop at bytes) (IsBytes-drop at bytes fits) in
    omega (arith, four 0, four 1, four 2, four 3)

-- eight bytes are a number, below 2^64
number_back : (bytes : List ℕ) (at : ℕ) → IsBytes bytes → at + 8 ≤ length bytes →
    to_be_bytes w64 (number_at bytes at) ++ drop (at + 8) bytes ≡ drop at bytes
number_back bytes at fits long =
    let eight : length (take 8 (drop at bytes)) ≡ 8 =
    omega (arith, length-take 8 (drop at bytes), length-drop at bytes) in
    let back : to_be_bytes w64 (number_at bytes at) ≡ take 8 (drop at bytes) =
    be_bytes_8 (take 8 (drop at bytes)) (number_at bytes at) eight
    (IsBytes-take 8 (drop at bytes) (IsBytes-drop at bytes fits)) refl in
    let after : drop 8 (drop at bytes) ≡ drop (at + 8) bytes = drop-drop 8 at bytes in
    ap (λ (front : List ℕ). front ++ drop (at + 8) bytes) back ∙
    ap (λ (rest : List ℕ). take 8 (drop at bytes) ++ rest) (sym after) ∙ take-append-drop 8 (drop at bytes)

number_below : (bytes : List ℕ) (at : ℕ) → IsBytes bytes → number_at bytes at < 2 ^ 64
number_below bytes at fits =
    let eight = IsBytes-take 8 (drop at bytes) (IsBytes-drop at bytes fits) in
    omega (arith, eight 0, eight 1, eight 2, eight 3, eight 4, eight 5, eight 6, eight 7)

-- the last six of thirty bytes are an address's
address_back : (bytes : List ℕ) → IsBytes bytes → length bytes ≡ 30 →
    address_bytes (Some (address_at bytes 24)) ≡ drop 24 bytes
address_back bytes fits long =
    let two : length (take 2 (drop 28 bytes)) ≡ 2 =
    omega (arith, length-take 2 (drop 28 bytes), length-drop 28 bytes) in
    let back : to_be_bytes w16 (from_be_bytes w16 (take 2 (drop 28 bytes))) ≡ take 2 (drop 28 bytes) =
    be_bytes_2 (take 2 (drop 28 bytes)) (from_be_bytes w16 (take 2 (drop 28 bytes))) two
    (IsBytes-take 2 (drop 28 bytes) (IsBytes-drop 28 bytes fits)) refl in
    let all : take 2 (drop 28 bytes) ≡ drop 28 bytes =
    take_all 2 (drop 28 bytes) (omega (arith, length-drop 28 bytes)) in
    let after : drop 4 (drop 24 bytes) ≡ drop 28 bytes = drop-drop 4 24 bytes in
    ap (λ (rest : List ℕ). take 4 (drop 24 bytes) ++ rest) (back ∙ all ∙ sym after) ∙ take-append-drop 4 (drop 24 bytes)

-- and such that the port isn't 0 are an address
is_address : (bytes : List ℕ) → IsBytes bytes → length bytes ≡ 30 → 0 < (address_at bytes 24).port →
    IsAddress (address_at bytes 24)
is_address bytes fits long port =
    let four = IsBytes-take 4 (drop 24 bytes) (IsBytes-drop 24 bytes fits) in
    let two = IsBytes-take 2 (drop 28 bytes) (IsBytes-drop 28 bytes fits) in
    record {
      four = omega (arith, length-take 4 (drop 24 bytes), length-drop 24 bytes);
      octets = λ i d within.
          subst (λ (octet : ℕ). octet < 256) (sym (get_or_default_zero (take 4 (drop 24 bytes)) i d within)) (four i);
      port = (port, omega (arith, two 0, two 1));
    }

positive : (n : ℕ) → eqb n 0 ≡ false → 0 < n
positive n h = omega (arith, eqb-false n 0 h)

nonzero : (n : ℕ) → 0 < n → eqb n 0 ≡ false
nonzero n h = ne_eqb n 0 (λ e. omega arith)

-- the first four bytes and the rest
front_of : (bytes : List ℕ) → 4 ≤ length bytes →
    bytes ≡ get_or bytes 0 0 ∷ get_or bytes 1 0 ∷ get_or bytes 2 0 ∷ get_or bytes 3 0 ∷ drop 4 bytes
front_of bytes long =
    drop-cons bytes 0 0 (omega arith)
    ∙ ap (λ (rest : List ℕ). get_or bytes 0 0 ∷ rest) (drop-cons bytes 1 0 (omega arith)
    ∙ ap (λ (rest : List ℕ). get_or bytes 1 0 ∷ rest) (drop-cons bytes 2 0 (omega arith)
    ∙ ap (λ (rest : List ℕ). get_or bytes 2 0 ∷ rest) (drop-cons bytes 3 0 (omega arith))))

-- what stands behind the fields, where as many bytes are there as the form has
abbrev carried : Bool → List ℕ → Option Address
carried c bytes = if c then Some (address_at bytes 24) else None

tail_back : (bytes : List ℕ) (c : Bool) → IsBytes bytes → length bytes ≡ (if c then 30 else 24) →
    address_bytes (carried c bytes) ≡ drop 24 bytes
tail_back bytes true fits long = address_back bytes fits long
tail_back bytes false fits long = sym (drop_all 24 bytes (omega (arith, long)))

tail_sound : (bytes : List ℕ) (c : Bool) → IsBytes bytes → length bytes ≡ (if c then 30 else 24) →
    (c && eqb (address_at bytes 24).port 0) ≡ false →
    (is_some (carried c bytes) ≡ c) × IfSome (carried c bytes) IsAddress
tail_sound bytes true fits long port = (refl, is_address bytes fits long (positive _ port))
tail_sound bytes false fits long port = (refl, tt)

one_of_two : (c : Bool) (n : ℕ) → n ≡ (if c then 30 else 24) → not (eqb n 24 || eqb n 30) ≡ false
one_of_two true n e = rw e refl
one_of_two false n e = rw e refl

-- no fault of the form: the first five tests pass
pub record HasForm (bytes : List ℕ) : Type 0 where
  pub long : has_fault bytes Length ≡ false
  pub magic : has_fault bytes Magic ≡ false
  pub version : has_fault bytes Version ≡ false
  pub kind : has_fault bytes UnknownKind ≡ false
  pub form : has_fault bytes Form ≡ false

pub has_form : (bytes : List ℕ) (v : versions.Version) (k : Kind) → get_or bytes 0 0 ≡ 0x53 → get_or bytes 1 0 ≡ 0x57
    → 0 < get_or bytes 2 0 → get_or bytes 2 0 < 3 → v ≡ version_at bytes → 0 < get_or bytes 3 0 → get_or bytes 3 0 < 4 →
    k ≡ kind_at bytes
    → length bytes ≡ length_of v k → HasForm bytes
has_form bytes v k first second one two v-is three four k-is long = record {
  long = one_of_two (carries v k) (length bytes) long;
  magic = not_from_true _ (and_from _ _ (eq-eqb _ _ first) (eq-eqb _ _ second));
  version = not_from_true _ (either (eqb (get_or bytes 2 0) 1) (eqb (get_or bytes 2 0) 2) refl refl);
  kind = or_from _ _ (nonzero _ three) (le-ltb _ _ (omega arith));
  form = not_from_true _
      (eq-eqb _ _ (long ∙ ap (λ v. length_of v k) v-is ∙ ap (λ k. length_of (version_at bytes) k) k-is));
}
  where
    either : (a b : Bool) → eqb (get_or bytes 2 0) 1 ≡ a → eqb (get_or bytes 2 0) 2 ≡ b → (a || b) ≡ true
    either true b e f = refl
    either false true e f = refl
    either false false e f = absurd (omega (arith, eqb-false _ 1 e, eqb-false _ 2 f))

-- where the form is right, the first fault is among the others
pub goes_on : (bytes : List ℕ) → HasForm bytes → first_fault bytes ≡ later_fault bytes
goes_on bytes h = by _ _ _ _ _ h.long h.magic h.version h.kind h.form
  where
    by : (a b c d e : Bool) → a ≡ false → b ≡ false → c ≡ false → d ≡ false → e ≡ false
        → cond a (Some Length) (cond b (Some Magic) (cond c (Some Version)
        (cond d (Some UnknownKind) (cond e (Some Form) (later_fault bytes)))))
        ≡ later_fault bytes
    by a b c d e p q r s t = rw (p, q, r, s, t) refl

-- and where it isn't, there is none
pub no_more : (bytes : List ℕ) → has_fault bytes ZeroId ≡ false → has_fault bytes ZeroNumber ≡ false →
    has_fault bytes ZeroPort ≡ false → later_fault bytes ≡ None
no_more bytes ids number port = by _ _ _ ids number port
  where
    by : (a b c : Bool) → a ≡ false → b ≡ false → c ≡ false
        → cond a (Some ZeroId) (cond b (Some ZeroNumber) (cond c (Some ZeroPort) None)) ≡ None
    by a b c p q r = rw (p, q, r) refl

at_least : (c : Bool) (n : ℕ) → n ≡ (if c then 30 else 24) → 24 ≤ n
at_least true n e = omega (arith, e)
at_least false n e = omega (arith, e)

pub is_text : (bytes : List ℕ) → IsBytes bytes → first_fault bytes ≡ None → IsTextOf bytes (message_at bytes)
is_text bytes fits none =
    let length_is = find_none (has_fault bytes) Length
    (Magic ∷ Version ∷ UnknownKind ∷ Form ∷ ZeroId ∷ ZeroNumber ∷ ZeroPort ∷ []) none in
    let magic_is = find_none (has_fault bytes) Magic
    (Version ∷ UnknownKind ∷ Form ∷ ZeroId ∷ ZeroNumber ∷ ZeroPort ∷ []) length_is.1 in
    let version_is = find_none (has_fault bytes) Version (UnknownKind ∷ Form ∷ ZeroId ∷ ZeroNumber ∷ ZeroPort ∷ [])
    magic_is.1 in
    let kind_is = find_none (has_fault bytes) UnknownKind (Form ∷ ZeroId ∷ ZeroNumber ∷ ZeroPort ∷ []) version_is.1 in
    let form_is = find_none (has_fault bytes) Form (ZeroId ∷ ZeroNumber ∷ ZeroPort ∷ []) kind_is.1 in
    let ids_are = find_none (has_fault bytes) ZeroId (ZeroNumber ∷ ZeroPort ∷ []) form_is.1 in
    let number_is = find_none (has_fault bytes) ZeroNumber (ZeroPort ∷ []) ids_are.1 in
    let port_is = find_none (has_fault bytes) ZeroPort [] number_is.1 in
    let form : length bytes ≡ length_of (version_at bytes) (kind_at bytes) =
    eqb-true (length bytes) (length_of (version_at bytes) (kind_at bytes)) (not-false _ form_is.0) in
    let long : 24 ≤ length bytes = at_least (has_address bytes) (length bytes) form in
    let magic = and_parts (eqb (get_or bytes 0 0) 0x53) (eqb (get_or bytes 1 0) 0x57) (not-false _ magic_is.0) in
    let version : get_or bytes 2 0 ≡ version_code (version_at bytes) =
    sym (version_again (get_or bytes 2 0) (not-false _ version_is.0)) in
    let kind = or_parts (eqb (get_or bytes 3 0) 0) (ltb 3 (get_or bytes 3 0)) kind_is.0 in
    let outer = or_parts (eqb (id_at bytes 4) 0 || eqb (id_at bytes 8) 0) (eqb (id_at bytes 12) 0) ids_are.0 in
    let inner = or_parts (eqb (id_at bytes 4) 0) (eqb (id_at bytes 8) 0) outer.0 in
    let first : get_or bytes 0 0 ≡ 0x53 = eqb-true (get_or bytes 0 0) 0x53 magic.0 in
    let second : get_or bytes 1 0 ≡ 0x57 = eqb-true (get_or bytes 1 0) 0x57 magic.1 in
    let fourth : get_or bytes 3 0 ≡ code_of (kind_at bytes) = sym (kind_again (get_or bytes 3 0) kind.0 kind.1) in
    let fields : drop 4 bytes ≡
    to_be_bytes w32 (id_at bytes 4) ++
    (to_be_bytes w32 (id_at bytes 8) ++
    (to_be_bytes w32 (id_at bytes 12) ++
    (to_be_bytes w64 (number_at bytes 16) ++ address_bytes (carried (has_address bytes) bytes))))
    = rw (
      tail_back bytes (has_address bytes) fits form,
      number_back bytes 16 fits (omega (arith, long)),
      id_back bytes 12 fits (omega (arith, long)),
      id_back bytes 8 fits (omega (arith, long)),
      id_back bytes 4 fits (omega (arith, long)),
    ) refl in
    let address = tail_sound bytes (has_address bytes) fits form port_is.0 in
    record {
      layout = front_of bytes (omega (arith, long)) ∙ all first second version fourth fields;
      sound = record {
        form = address.0;
        sender = (positive _ inner.0, id_below bytes 4 fits);
        initiator = (positive _ inner.1, id_below bytes 8 fits);
        target = (positive _ outer.1, id_below bytes 12 fits);
        number = (positive _ number_is.0, number_below bytes 16 fits);
        at = address.1;
      };
    }
  where
    all : {a b c d a' b' c' d' : ℕ} {rest rest' : List ℕ} → a ≡ a' → b ≡ b' → c ≡ c' → d ≡ d' → rest ≡ rest' →
        a ∷ b ∷ c ∷ d ∷ rest ≡ a' ∷ b' ∷ c' ∷ d' ∷ rest'
    all p q r s t = cc

-- what decoding gives, by the first fault and the fields
abbrev Decodes : List ℕ → Result Message WireFault → Type 0
Decodes bytes read = MatchResult read (λ m. (first_fault bytes ≡ None) × (m ≡ message_at bytes))
    (λ f. first_fault bytes ≡ Some f)

pub is_found : (bytes : List ℕ) (read : Result Message WireFault) → IsBytes bytes → Decodes bytes read →
    IfOk read (λ m. IsTextOf bytes m)
is_found bytes (Ok m) fits d = subst (λ (x : Message). IsTextOf bytes x) (sym d.1) (is_text bytes fits d.0)
is_found bytes (Err f) fits d = tt

-- the address of a text is the message's
octets_again : (p : Address) → IsAddress p →
    (take 4 (address_bytes (Some p)) ≡ p.ip) × (from_be_bytes w16 (take 2 (drop 4 (address_bytes (Some p)))) ≡ p.port)
octets_again p is =
    subst (λ (ip : List ℕ). (take 4 (ip ++ to_be_bytes w16 p.port) ≡ ip) ×
    (from_be_bytes w16 (take 2 (drop 4 (ip ++ to_be_bytes w16 p.port))) ≡ p.port)) (sym (four_of p.ip is.four))
    (refl, from_be_bytes-to_be_bytes_2 p.port is.port.1)

abbrev again : Bool → List ℕ → Option Address
again c tail = if c then Some (record { ip = take 4 tail; port = from_be_bytes w16 (take 2 (drop 4 tail)) }) else None

address_again : (c : Bool) (at : Option Address) → is_some at ≡ c → IfSome at IsAddress →
    again c (address_bytes at) ≡ at
address_again true (Some p) form is = let o = octets_again p is in rw (o.0, o.1) refl
address_again true None form is = absurd cc
address_again false (Some p) form is = absurd cc
address_again false None form is = refl

length_again : (c : Bool) (at : Option Address) → is_some at ≡ c → IfSome at IsAddress →
    24 + length (address_bytes at) ≡ (if c then 30 else 24)
length_again true (Some p) form is = rw (four_of p.ip is.four) refl
length_again true None form is = absurd cc
length_again false (Some p) form is = absurd cc
length_again false None form is = refl

port_again : (c : Bool) (at : Option Address) → is_some at ≡ c → IfSome at IsAddress →
    (c && eqb (from_be_bytes w16 (take 2 (drop 4 (address_bytes at)))) 0) ≡ false
port_again true (Some p) form is = ap (λ n. eqb n 0) (octets_again p is).1 ∙ nonzero p.port is.port.0
port_again true None form is = absurd cc
port_again false at form is = refl

-- a text has no fault, and its fields are the message's
is_read : (m : Message) → IsSound m → (first_fault (text_of m) ≡ None) × (message_at (text_of m) ≡ m)
is_read m sound =
    let version : version_at (text_of m) ≡ m.version = code_of_version_again m.version in
    let kind : kind_at (text_of m) ≡ m.kind = code_again m.kind in
    let carry : has_address (text_of m) ≡ carries m.version m.kind = rw (version, kind) refl in
    let long : length (text_of m) ≡ length_of m.version m.kind =
    omega (arith, length_again (carries m.version m.kind) m.at sound.form sound.at) in
    let sender : id_at (text_of m) 4 ≡ m.sender = from_be_bytes-to_be_bytes_4 m.sender sound.sender.1 in
    let initiator : id_at (text_of m) 8 ≡ m.initiator = from_be_bytes-to_be_bytes_4 m.initiator sound.initiator.1 in
    let target : id_at (text_of m) 12 ≡ m.target = from_be_bytes-to_be_bytes_4 m.target sound.target.1 in
    let number : number_at (text_of m) 16 ≡ m.number = from_be_bytes-to_be_bytes_8 m.number sound.number.1 in
    let at : carried (has_address (text_of m)) (text_of m) ≡ m.at = ap (λ c. carried c (text_of m)) carry ∙
    address_again (carries m.version m.kind) m.at sound.form sound.at in
    let ids : has_fault (text_of m) ZeroId ≡ false =
    or_from _ _ (or_from _ _ (ap (λ n. eqb n 0) sender ∙ nonzero m.sender sound.sender.0)
    (ap (λ n. eqb n 0) initiator ∙ nonzero m.initiator sound.initiator.0))
    (ap (λ n. eqb n 0) target ∙ nonzero m.target sound.target.0) in
    let last : has_fault (text_of m) ZeroNumber ≡ false = ap (λ n. eqb n 0) number ∙ nonzero m.number sound.number.0 in
    let form : has_fault (text_of m) Form ≡ false = rw (version, kind) (not_from_true _ (eq-eqb _ _ long)) in
    let port : has_fault (text_of m) ZeroPort ≡ false = ap (λ c. c && eqb (address_at (text_of m) 24).port 0) carry ∙
    port_again (carries m.version m.kind) m.at sound.form sound.at in
    let none : first_fault (text_of m) ≡ None =
    passes _ _ _ _ _ _ _ (one_of_two (carries m.version m.kind) (length (text_of m)) long)
    (not_from_true _ (version_in_range m.version)) (code_in_range m.kind) form ids last port in
    (none, same _ _ _ _ _ _ _ version kind sender initiator target number at)
  where
    passes : (long version kind form ids number port : Bool) → long ≡ false → version ≡ false → kind ≡ false →
        form ≡ false → ids ≡ false → number ≡ false → port ≡ false
        → cond long (Some Length)
        (cond version (Some Version)
        (cond kind (Some UnknownKind)
        (cond form (Some Form)
        (cond ids (Some ZeroId) (cond number (Some ZeroNumber) (cond port (Some ZeroPort) None)))))) ≡ None
    passes long version kind form ids number port o p q r s t u = rw (o, p, q, r, s, t, u) refl

    same : (v : versions.Version) (k : Kind) (a b c n : ℕ) (at : Option Address) → v ≡ m.version → k ≡ m.kind →
        a ≡ m.sender → b ≡ m.initiator → c ≡ m.target → n ≡ m.number → at ≡ m.at
        → record { version = v; kind = k; sender = a; initiator = b; target = c; number = n; at = at } ≡ m
    same v k a b c n at o p q r s t u = rw (o, p, q, r, s, t, u) refl

pub read_again : (bytes : List ℕ) (m : Message) (read : Result Message WireFault) → IsTextOf bytes m →
    Decodes bytes read → read ≡ Ok m
read_again bytes m read is d =
    let again = is_read m is.sound in
    by read (ap first_fault is.layout ∙ again.0) (ap message_at is.layout ∙ again.1) d
  where
    by : (r : Result Message WireFault) → first_fault bytes ≡ None → message_at bytes ≡ m → Decodes bytes r → r ≡ Ok m
    by (Ok x) none message given = ap (λ (y : Message). Ok y) (given.1 ∙ message)
    by (Err f) none message given = absurd cc

pub is_decoded : (bytes : List ℕ) (read : Result Message WireFault) → Decodes bytes read → read ≡ decoded bytes
is_decoded bytes (Ok m) d = rw (d.0, d.1) refl
is_decoded bytes (Err f) d = rw d refl
