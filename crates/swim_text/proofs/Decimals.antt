-- What a parser that reads each number's text says of other texts.
use Rattle.std.proofs.Common.{◌≡◌, ℕ, zero, suc, ◌≤◌, ◌<◌, ◌^◌, List, Option, Some, None, Result, Ok, Err, decimal}
use Rattle.std.proofs.Common.{refl, sym, ap, ◌∙◌, arith}
use Rattle.std.specs.Prelude.{IfSome}
use Rattle.std.specs.Result.{result_ok}
use Rattle.std.specs.Str.{IsUtf8}
use Rattle.std.specs.Str.Parse.{ParsesUnsigned, AllDigits}
use Rattle.std.proofs.lemmas.Str.Parse.{numerals_by_value, tells_digits, parse_plain}
use Rattle.std.proofs.lemmas.Fmt.{IsAscii-decimal, decimal_digit, first_decimal, decimal-digits_value}
use Rattle.std.proofs.lemmas.Str.{IsUtf8-from_ascii}
use Rattle.swim_text.specs.Numbers.{number_of, IsPlain, number_read, number_none}

pub err_is : {A E : Type 0} (r : Result A E) → result_ok r ≡ None → (e : E) × (r ≡ Err e)
err_is (Ok x) e = absurd cc
err_is (Err d) e = (d, refl)

pub ok_is : {A E : Type 0} (r : Result A E) (x : A) → result_ok r ≡ Some x → r ≡ Ok x
ok_is (Ok y) x e = ap (λ z. Ok z) cc
ok_is (Err d) x e = absurd cc

pub decimal_utf8 : (n : ℕ) → n < 2 ^ 64 → IsUtf8 (decimal n)
decimal_utf8 n small = IsUtf8-from_ascii (decimal n) (IsAscii-decimal n small)

pub plain_decimal : (n : ℕ) → n < 2 ^ 64 → IsPlain (decimal n)
plain_decimal zero small = rw (decimal_digit 0 (omega arith)) ((λ e. omega arith), λ e. refl)
plain_decimal (suc n) small =
    let first = first_decimal (suc n) (omega arith) small in
    ((λ e. omega (arith, first)), λ e. absurd (omega (arith, first)))

-- what std reads in such a text is the number that is written so
pub plain_is_written : {E : Type 0} (text : List ℕ) (read : Result ℕ E) → ParsesUnsigned 64 10 text read →
    IfSome (result_ok read) (λ n. IsPlain text → text ≡ decimal n)
plain_is_written {E} text (Err e) h = tt
plain_is_written {E} text (Ok n) h = λ plain.
    let own = numerals_by_value (AllDigits 10) tells_digits in
    let parts = parse_plain own {E = E} 64 text (Ok n) h plain.0 in
    sym (decimal-digits_value own text parts.0.0 parts.0.1 plain.1 parts.0.2) ∙ ap decimal (sym parts.1)

-- what the parser read, if anything
abbrev Reads : List ℕ → Option ℕ → Type 0
Reads text read = (n : ℕ) → n < 2 ^ 64 → text ≡ decimal n → read ≡ Some n

pub not_read : (limit : ℕ) (text : List ℕ) (read : Option ℕ) → limit < 2 ^ 64 → Reads text read → read ≡ None →
    number_of limit text ≡ None
not_read limit text read small reads failed =
    number_none limit text (λ n within is. let given : read ≡ Some n = reads n (omega arith) is in absurd cc)

-- what is read is the number only if it is within the limit and the text is how it is written
pub not_written : (limit : ℕ) (text : List ℕ) (read : Option ℕ) (m : ℕ) → limit < 2 ^ 64 → Reads text read →
    read ≡ Some m → (m ≤ limit → text ≡ decimal m → ⊥) → number_of limit text ≡ None
not_written limit text read m small reads gave none =
    number_none limit text (λ n within is.
    let same : n ≡ m = cc (reads n (omega arith) is, gave) in
    none (omega (arith, same)) (is ∙ ap decimal same))

pub is_number : (limit : ℕ) (text : List ℕ) (n : ℕ) → limit < 2 ^ 64 → n ≤ limit → text ≡ decimal n →
    number_of limit text ≡ Some n
is_number limit text n small within is = ap (number_of limit) is ∙ number_read limit n within (omega arith)
