-- What digits spell, by how many they are.
use Rattle.std.proofs.Common.{◌≡◌, ℕ, zero, suc, ◌+◌, ◌-◌, ◌*◌, ◌<◌, ◌≤◌, ◌%◌, List, [], ◌∷◌, ◌++◌, take, drop, length}
use Rattle.std.proofs.Common.{Option, Some, None, Result, Ok, Err, refl, sym, ap, ◌∙◌, arith}
use Rattle.std.specs.List.{AllPass}
use Rattle.std.specs.Prelude.{MatchResult}
use Rattle.std.specs.Prelude.{replicate}
use Rattle.std.proofs.Math.Seq.{take-append-add}
use Rattle.std.proofs.lemmas.Bool.{ne_eqb}
use Rattle.hex.specs.Hex.{decode_of, decode_sized, is_hex_digit}
use Rattle.hex.specs.declared.error.FromHexError.{FromHexError}
use Rattle.hex.proofs.HexLemmas.{decode_of-odd, decode_of-ok, decode_of-digits, decode_sized-twice}
use Rattle.swim_wire.specs.Layout.{decoded}
use Rattle.swim_wire.specs.Messages.{Message}
use Rattle.swim_wire.specs.declared.codec.WireFault.{WireFault}
use Rattle.swim_wire.specs.declared.codec.WireFault.TheVariants.{Length}
use Rattle.swim_script.specs.Arguments.{datagram_of}

abbrev Read : Type 0
Read = Option (Result Message WireFault)

-- an odd number of digits spells nothing
pub odd_spells_nothing : (text : List ℕ) → length text % 2 ≡ 1 → datagram_of text ≡ None
odd_spells_nothing text odd = rw (decode_of-odd text odd) refl

-- what are no digits spells nothing
pub others_spell_nothing : (text : List ℕ) → (AllPass is_hex_digit text → ⊥) → datagram_of text ≡ None
others_spell_nothing text others = by (decode_of text) refl
  where
    by : (read : Result (List ℕ) FromHexError) → decode_of text ≡ read → datagram_of text ≡ None
    by (Ok bytes) is = absurd (others (decode_of-ok text bytes is).1)
    by (Err fault) is = rw is refl

-- more bytes than any datagram has are told as that
too_long : (bytes : List ℕ) → 30 < length bytes → decoded bytes ≡ Err Length
too_long bytes long = rw (ne_eqb (length bytes) 24 (λ e. omega arith), ne_eqb (length bytes) 30 (λ e. omega arith)) refl

-- an even number of digits that are more than any datagram has spells too many bytes
pub too_many_digits : (text : List ℕ) → length text % 2 ≡ 0 → AllPass is_hex_digit text → 60 < length text →
    datagram_of text ≡ Some (Err Length)
too_many_digits text even digits many =
    let found = decode_of-digits text even digits in
    let long = (decode_of-ok text found.0 found.1).2 in
    rw (found.1, too_long found.0 (omega (arith, long, many))) refl

-- digits spell what the bytes are read as that they stand for
digits_of_bytes : (text bytes : List ℕ) (count : ℕ) → length text ≡ 2 * count → decode_sized text count ≡ Ok bytes →
    datagram_of text ≡ Some (decoded bytes)
digits_of_bytes text bytes count long read = rw (sym (decode_sized-twice text count long) ∙ read) refl

-- where they could be decoded
pub decoded_digits : (text out : List ℕ) (count : ℕ) (result : Result (Unit {0}) FromHexError) →
    length text ≡ 2 * count →
    MatchResult (decode_sized text count) (λ bytes. (result ≡ Ok tt) × (out ≡ bytes)) (λ fault. result ≡ Err fault) →
    result ≡ Ok tt → datagram_of text ≡ Some (decoded out)
decoded_digits text out count result long given ok = by (decode_sized text count) refl given
  where
    by : (read : Result (List ℕ) FromHexError) → decode_sized text count ≡ read →
        MatchResult read (λ bytes. (result ≡ Ok tt) × (out ≡ bytes)) (λ fault. result ≡ Err fault) →
        datagram_of text ≡ Some (decoded out)
    by (Ok bytes) is given = digits_of_bytes text bytes count long is ∙
        ap (λ (bytes : List ℕ). Some (decoded bytes)) (sym given.1)
    by (Err fault) is given = absurd cc

-- and where they couldn't
pub refused_digits : (text out : List ℕ) (count : ℕ) (fault : FromHexError) (result : Result (Unit {0}) FromHexError) →
    length text ≡ 2 * count →
    MatchResult (decode_sized text count) (λ bytes. (result ≡ Ok tt) × (out ≡ bytes)) (λ fault. result ≡ Err fault) →
    result ≡ Err fault → datagram_of text ≡ None
refused_digits text out count fault result long given failed = by (decode_sized text count) refl given
  where
    by : (read : Result (List ℕ) FromHexError) → decode_sized text count ≡ read →
        MatchResult read (λ bytes. (result ≡ Ok tt) × (out ≡ bytes)) (λ fault. result ≡ Err fault) →
        datagram_of text ≡ None
    by (Ok bytes) is given = absurd cc
    by (Err other) is given = rw (sym (decode_sized-twice text count long) ∙ is) refl

-- ---- the line of a datagram

-- a line feed stands at each place behind the digits
fed : (count at : ℕ) → at < count → ◌≡◌ {A = List ℕ} (take 1 (drop at (replicate count 10))) (10 ∷ [])
fed zero at within = absurd (omega arith)
fed (suc count) zero within = refl
fed (suc count) (suc at) within = fed count at (omega arith)

-- as many digits as written, with the space before them and one line feed behind
pub line_is : (count : ℕ) (digits all : List ℕ) → count ≤ 30 → length digits ≡ 2 * count →
    all ≡ 32 ∷ (digits ++ drop (2 * count + 1 - 1) (replicate 61 10)) →
    take (2 * count + 1 + 1) all ≡ 32 ∷ (digits ++ 10 ∷ [])
line_is count digits all few long is =
    let behind : 2 * count + 1 - 1 ≡ 2 * count = omega arith in
    let whole : all ≡ 32 ∷ (digits ++ drop (2 * count) (replicate 61 10)) = is ∙
    ap (λ (n : ℕ). 32 ∷ (digits ++ drop n (replicate 61 10))) behind in
    let end : 2 * count + 1 + 1 ≡ suc (length digits + 1) = omega (arith, long) in
    let front : take (length digits + 1) (digits ++ drop (2 * count) (replicate 61 10)) ≡ digits ++ 10 ∷ [] =
    take-append-add digits (drop (2 * count) (replicate 61 10)) 1 ∙
    ap (λ (rest : List ℕ). digits ++ rest) (fed 61 (2 * count) (omega arith)) in
    rw (whole, end) (ap (λ (rest : List ℕ). 32 ∷ rest) front)
