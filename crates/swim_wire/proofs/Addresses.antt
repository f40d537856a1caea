-- What is read of an address, and what is written of it.
use Rattle.std.proofs.Common.{◌≡◌, ℕ, List, [], ◌∷◌, ◌++◌, Option, Some, None, get_or, length, decimal, sym, ap}
use Rattle.std.proofs.Common.{append_assoc, append-nil, ◌∙◌, ◌-◌, ◌<◌, ◌≤◌, arith, take, drop}
use Rattle.std.proofs.lemmas.List.{take_all, drop_all, length-drop}
use Rattle.std.proofs.lemmas.Fmt.{length-decimal-le}
use Rattle.std.specs.Prelude.{IfSome}
use Rattle.swim_wire.specs.Address.{Address, IsAddress, address_text, address_of}
use Rattle.swim_wire.specs.AddressLaws.{address_only, four_of}

pub is_found : (text : List ℕ) (read : Option Address) → read ≡ address_of text →
    IfSome read (λ p. IsAddress p × (text ≡ address_text p))
is_found text None e = tt
is_found text (Some p) e = address_only text p (sym e)

-- the text of an address, written from left to right
written : (a b c d port : ℕ) →
    (((((((decimal a ++ 46 ∷ []) ++ decimal b) ++ 46 ∷ []) ++ decimal c) ++ 46 ∷ []) ++ decimal d) ++ 58 ∷ []) ++
    decimal port
    ≡ address_text (record { ip = a ∷ b ∷ c ∷ d ∷ []; port = port })
written a b c d port = simp append_assoc

pub is_written : (p : Address) → length p.ip ≡ 4
    → (((((((decimal (get_or p.ip 0 0) ++ 46 ∷ []) ++ decimal (get_or p.ip 1 0)) ++ 46 ∷ []) ++
    decimal (get_or p.ip 2 0)) ++ 46 ∷ []) ++ decimal (get_or p.ip 3 0)) ++ 58 ∷ []) ++ decimal p.port ≡
    address_text p
is_written p four =
    written (get_or p.ip 0 0) (get_or p.ip 1 0) (get_or p.ip 2 0) (get_or p.ip 3 0) p.port ∙
    ap (λ (ip : List ℕ). address_text (record { ip = ip; port = p.port })) (sym (four_of p.ip four))

-- the text of an address, written from right to left, before what stands behind it
written_back : (a b c d port : ℕ) (rest : List ℕ) →
    decimal a ++ (46 ∷ decimal b ++ (46 ∷ decimal c ++ (46 ∷ decimal d ++ (58 ∷ decimal port ++ rest))))
    ≡ address_text (record { ip = a ∷ b ∷ c ∷ d ∷ []; port = port }) ++ rest
written_back a b c d port rest = simp append_assoc

pub is_written_back : (p : Address) (rest : List ℕ) → length p.ip ≡ 4
    → decimal (get_or p.ip 0 0) ++ (46 ∷ decimal (get_or p.ip 1 0) ++ (46 ∷ decimal (get_or p.ip 2 0) ++
    (46 ∷ decimal (get_or p.ip 3 0) ++ (58 ∷ decimal p.port ++ rest)))) ≡ address_text p ++ rest
is_written_back p rest four =
    written_back (get_or p.ip 0 0) (get_or p.ip 1 0) (get_or p.ip 2 0) (get_or p.ip 3 0) p.port rest ∙
    ap (λ (ip : List ℕ). address_text (record { ip = ip; port = p.port }) ++ rest) (sym (four_of p.ip four))

-- a port has five digits at most, and an octet three
pub port_fits : (n : ℕ) → n < 65536 → length (decimal n) ≤ 5
port_fits n small = length-decimal-le 5 n (omega arith) (omega arith) (omega arith)

pub octet_fits : (n : ℕ) → n < 256 → length (decimal n) ≤ 3
octet_fits n small = length-decimal-le 3 n (omega arith) (omega arith) (omega arith)

-- a text that ends where the bytes end is all that they have from its start on
pub to_the_end : (size start : ℕ) (old new text : List ℕ) → length old ≡ size → length new ≡ size
    → drop start new ≡ text ++ drop size old → take (size - start) (drop start new) ≡ text
to_the_end size start old new text is_old is_new written =
    take_all (size - start) (drop start new) (omega (arith, length-drop start new)) ∙ written ∙
    ap (λ l. text ++ l) (drop_all size old (omega arith)) ∙ append-nil text
