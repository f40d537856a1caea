-- The laws of addresses as text: each is read from its own text, and from no other.
use Rattle.std.specs.Prelude.{◌≡◌, ℕ, ◌<◌, ◌^◌, false, List, [], ◌∷◌, ◌++◌, length, map, Option, Some, None, decimal}
use Rattle.std.specs.Int.{IsInRange}
use Rattle.std.specs.List.{AllByRecursion, join_with_byte}
use Rattle.std.specs.Str.Parse.{AllDigits}
use Rattle.std.proofs.Common.{eqb, get_or, refl, sym, subst, ◌∙◌, arith}
use Rattle.std.proofs.lemmas.Bool.{or_from, ne_eqb}
use Rattle.std.proofs.lemmas.Fmt.{decimal_is_IsNumeral}
use Rattle.std.proofs.lemmas.List.Elements.{All-from_recursion}
use Rattle.std.proofs.lemmas.List.Folds.{list_any-append}
use Rattle.std.proofs.lemmas.Str.Parse.{digit_from_value}
use Rattle.swim_wire.specs.Address.{Address, IsAddress, dot, colon, address_text, ◌>>=◌, ip_of, address_of}
use Rattle.swim_text.specs.Numbers.{number_of, number_read, number_only, positive_of, positive_read, positive_only}
use Rattle.swim_text.specs.Parts.{has, cut, cut_at, cut_joined}

-- a byte that is no digit is in no digits
digits_without : (byte : ℕ) → ((c : ℕ) → IsInRange 48 57 c → eqb c byte ≡ false) → (text : List ℕ) → AllDigits 10 text →
    has byte text ≡ false
digits_without byte other [] digits = refl
digits_without byte other (d ∷ text) digits =
    or_from _ _ (other d (digit_from_value d digits.0)) (digits_without byte other text digits.1)

-- a number's text has no `.` and no `:`
pub no_dot : (n : ℕ) → n < 2 ^ 64 → has dot (decimal n) ≡ false
no_dot n small =
    digits_without dot (λ c digit. ne_eqb c dot (λ e. omega arith)) (decimal n) (decimal_is_IsNumeral n small).0.1

pub no_colon : (n : ℕ) → n < 2 ^ 64 → has colon (decimal n) ≡ false
no_colon n small =
    digits_without colon (λ c digit. ne_eqb c colon (λ e. omega arith)) (decimal n) (decimal_is_IsNumeral n small).0.1

-- four octets as text
abbrev dotted : ℕ → ℕ → ℕ → ℕ → List ℕ
dotted a b c d = decimal a ++ (dot ∷ (decimal b ++ (dot ∷ (decimal c ++ (dot ∷ decimal d)))))

no_colon-dotted : (a b c d : ℕ) → a < 256 → b < 256 → c < 256 → d < 256 → has colon (dotted a b c d) ≡ false
no_colon-dotted a b c d a-is b-is c-is d-is =
    after a (dot ∷ (decimal b ++ (dot ∷ (decimal c ++ (dot ∷ decimal d))))) a-is
    (after b (dot ∷ (decimal c ++ (dot ∷ decimal d))) b-is
    (after c (dot ∷ decimal d) c-is
    (no_colon d (omega arith))))
  where
    after : (n : ℕ) (rest : List ℕ) → n < 256 → has colon rest ≡ false → has colon (decimal n ++ rest) ≡ false
    after n rest small none =
        list_any-append (λ b. eqb b colon) (decimal n) rest ∙ or_from _ _ (no_colon n (omega arith)) none

ip_read : (a b c d : ℕ) → a < 256 → b < 256 → c < 256 → d < 256 → ip_of (dotted a b c d) ≡ Some (a ∷ b ∷ c ∷ d ∷ [])
ip_read a b c d a-is b-is c-is d-is =
    rw (
      cut_at dot (decimal a) (decimal b ++ (dot ∷ (decimal c ++ (dot ∷ decimal d)))) (no_dot a (omega arith)),
      cut_at dot (decimal b) (decimal c ++ (dot ∷ decimal d)) (no_dot b (omega arith)),
      cut_at dot (decimal c) (decimal d) (no_dot c (omega arith)),
      number_read 255 a (omega arith) (omega arith),
      number_read 255 b (omega arith) (omega arith),
      number_read 255 c (omega arith) (omega arith),
      number_read 255 d (omega arith) (omega arith),
    ) refl

pub four_of : (ip : List ℕ) → length ip ≡ 4 → ip ≡ get_or ip 0 0 ∷ get_or ip 1 0 ∷ get_or ip 2 0 ∷ get_or ip 3 0 ∷ []
four_of [] e = absurd (omega arith)
four_of (a ∷ []) e = absurd (omega arith)
four_of (a ∷ b ∷ []) e = absurd (omega arith)
four_of (a ∷ b ∷ c ∷ []) e = absurd (omega arith)
four_of (a ∷ b ∷ c ∷ d ∷ []) e = refl
four_of (a ∷ b ∷ c ∷ d ∷ x ∷ more) e = absurd (omega arith)

-- an address is read from its text
pub address_read : (p : Address) → IsAddress p → address_of (address_text p) ≡ Some p
address_read p is =
    let small : (k : ℕ) → k < 4 → get_or p.ip k 0 < 256 = λ k lt. is.octets k 0 (omega (arith, is.four)) in
    let of_four = by (get_or p.ip 0 0) (get_or p.ip 1 0) (get_or p.ip 2 0) (get_or p.ip 3 0) p.port
    (small 0 (omega arith)) (small 1 (omega arith)) (small 2 (omega arith))
    (small 3 (omega arith)) is.port.0 is.port.1 in
    subst (λ (ip : List ℕ). address_of (address_text (record { ip = ip; port = p.port })) ≡ Some
    (record { ip = ip; port = p.port })) (sym (four_of p.ip is.four)) of_four
  where
    by : (a b c d port : ℕ) → a < 256 → b < 256 → c < 256 → d < 256 → 0 < port → port < 2 ^ 16 →
        address_of (dotted a b c d ++ (colon ∷ decimal port)) ≡ Some (record { ip = a ∷ b ∷ c ∷ d ∷ []; port = port })
    by a b c d port a-is b-is c-is d-is least most =
        rw (
          cut_at colon (dotted a b c d) (decimal port) (no_colon-dotted a b c d a-is b-is c-is d-is),
          ip_read a b c d a-is b-is c-is d-is,
          positive_read 65535 port least (omega arith) (omega arith),
        ) refl

-- a value that a step gave, and what the steps after it gave of it
bind_some : {A B : Type 0} (o : Option A) (f : A → Option B) (y : B) → (o >>= f) ≡ Some y → (x : A) × (o ≡ Some x)
    × (f x ≡ Some y)
bind_some (Some x) f y e = (x, refl, e)
bind_some None f y e = absurd cc

-- the text is the octets'
record AreOctets (text ip : List ℕ) : Type 0 where
  pub four : length ip ≡ 4
  pub small : AllByRecursion (λ octet. octet < 256) ip
  pub joined : text ≡ join_with_byte dot (map decimal ip)

joined : {text a b c d more last : List ℕ} (first second third fourth : ℕ) → text ≡ a ++ (dot ∷ more) →
    more ≡ b ++ (dot ∷ last) → last ≡ c ++ (dot ∷ d)
    → a ≡ decimal first → b ≡ decimal second → c ≡ decimal third → d ≡ decimal fourth →
    text ≡ dotted first second third fourth
joined first second third fourth e f g p q r s = cc

ip_only : (text ip : List ℕ) → ip_of text ≡ Some ip → AreOctets text ip
ip_only text ip e =
    let a = bind_some (cut dot text) _ ip e in
    let b = bind_some (cut dot a.0.1) _ ip a.2 in
    let c = bind_some (cut dot b.0.1) _ ip b.2 in
    let first = bind_some (number_of 255 a.0.0) _ ip c.2 in
    let second = bind_some (number_of 255 b.0.0) _ ip first.2 in
    let third = bind_some (number_of 255 c.0.0) _ ip second.2 in
    let fourth = bind_some (number_of 255 c.0.1) _ ip third.2 in
    let one = number_only 255 a.0.0 first.0 first.1 in
    let two = number_only 255 b.0.0 second.0 second.1 in
    let three = number_only 255 c.0.0 third.0 third.1 in
    let four = number_only 255 c.0.1 fourth.0 fourth.1 in
    let is : first.0 ∷ second.0 ∷ third.0 ∷ fourth.0 ∷ [] ≡ ip = cc fourth.2 in
    subst (λ (x : List ℕ). AreOctets text x) is (record {
      four = refl;
      small = (omega (arith, one.1), (omega (arith, two.1), (omega (arith, three.1), (omega (arith, four.1), tt))));
      joined = joined first.0 second.0 third.0 fourth.0 (cut_joined dot text a.0 a.1) (cut_joined dot a.0.1 b.0 b.1)
          (cut_joined dot b.0.1 c.0 c.1) one.0 two.0 three.0 four.0;
    })

-- and from no other text
pub address_only : (text : List ℕ) (p : Address) → address_of text ≡ Some p → IsAddress p × (text ≡ address_text p)
address_only text p e =
    let parts = bind_some (cut colon text) _ p e in
    let ip = bind_some (ip_of parts.0.0) _ p parts.2 in
    let port = bind_some (positive_of 65535 parts.0.1) _ p ip.2 in
    let octets = ip_only parts.0.0 ip.0 ip.1 in
    let number = positive_only 65535 parts.0.1 port.0 port.1 in
    let made : Address = record { ip = ip.0; port = port.0 } in
    let is : made ≡ p = cc port.2 in
    subst (λ (x : Address). IsAddress x × (text ≡ address_text x)) is (
      record {
        four = octets.four;
        octets = All-from_recursion (λ octet. octet < 256) ip.0 octets.small;
        port =
            (number.1, omega (arith, number.2));
      },
      cut_joined colon text parts.0 parts.1 ∙ whole octets.joined number.0,
    )
  where
    whole : {host port host' port' : List ℕ} → host ≡ host' → port ≡ port' → host ++ (colon ∷ port) ≡ host' ++
        (colon ∷ port')
    whole e f = cc
