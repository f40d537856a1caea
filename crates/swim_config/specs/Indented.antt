-- Laws of lines that begin with two spaces, and that a cause is such lines.
use Rattle.std.specs.Prelude.{◌≡◌, ℕ, ◌<◌, ◌^◌, true, List, [], ◌∷◌, ◌++◌, codes, decimal}
use Rattle.std.specs.Int.{IsInRange}
use Rattle.std.specs.List.{list_all}
use Rattle.std.specs.Str.Parse.{AllDigits}
use Rattle.std.proofs.Common.{refl, sym, ap, ◌∙◌, append_assoc, append-nil, arith}
use Rattle.std.proofs.lemmas.Bool.{and_from, le-leb}
use Rattle.std.proofs.lemmas.Fmt.{decimal_is_IsNumeral}
use Rattle.std.proofs.lemmas.List.Folds.{list_all-append}
use Rattle.std.proofs.lemmas.Str.Parse.{digit_from_value}
use Rattle.swim_history.specs.Texts.{feed}
use Rattle.swim_history.specs.declared.openings.OpeningFault.{OpeningFault}
use Rattle.swim_history.specs.declared.openings.OpeningFault.TheVariants.{Relays, Timing, TooManyRows, Myself, Twice}
use Rattle.swim_config.specs.Causes.{AreFound, AreIndented, IsCause, expected_as, expected_of, expected_text, indented}
use Rattle.swim_config.specs.Causes.{indented_lines}
use Rattle.swim_config.specs.Causes.{purpose_text, rule_text}
use Rattle.swim_config.specs.Configuration.{is_printing}
use Rattle.swim_config.specs.Keys.{form_of, about_of}
use Rattle.swim_config.specs.declared.config_fault.ConfigFault.{ConfigFault}
use Rattle.swim_config.specs.declared.config_fault.ConfigFault.TheVariants as faults
use Rattle.swim_config.specs.declared.keys.ValueForm.{ValueForm}
use Rattle.swim_config.specs.declared.keys.ValueForm.TheVariants.{Number, Peer, Path, Mode, Seed, Keys, Members}
use Rattle.swim_config.specs.declared.keys.ConfigKey.{ConfigKey}
use Rattle.swim_config.specs.declared.keys.ConfigKey.TheVariants as keys

pub none_indented : AreIndented []
none_indented = record { lines = []; printing = refl; is = refl }

pub lines-append : (xs ys : List (List ℕ)) → indented_lines (xs ++ ys) ≡ indented_lines xs ++ indented_lines ys
lines-append [] ys = refl
lines-append (x ∷ xs) ys =
    ap (λ l. indented x ++ l) (lines-append xs ys) ∙
    sym (append_assoc (indented x) (indented_lines xs) (indented_lines ys))

pub both_indented : (a b : List ℕ) → AreIndented a → AreIndented b → AreIndented (a ++ b)
both_indented a b p q = record {
  lines = p.lines ++ q.lines;
  printing = list_all-append (λ line. list_all is_printing line) p.lines q.lines ∙ rw (p.printing, q.printing) refl;
  is = rw (p.is, q.is) (sym (lines-append p.lines q.lines));
}

-- a line of its own
pub line_indented : (line : List ℕ) → list_all is_printing line ≡ true → AreIndented (indented line)
line_indented line is = record { lines = line ∷ []; printing = rw is refl; is = sym (append-nil (indented line)) }

-- the same, from the pieces of which it was made
pub made_indented : (none begun put whole text : List ℕ) → none ≡ [] → begun ≡ none ++ 32 ∷ 32 ∷ [] →
    put ≡ begun ++ text →
    whole ≡ put ++ 10 ∷ [] → list_all is_printing text ≡ true → AreIndented whole
made_indented none begun put whole text e b p w prints = rw is (line_indented text prints)
  where
    is : whole ≡ indented text
    is = w ∙ ap (λ l. l ++ 10 ∷ []) (p ∙ ap (λ l. l ++ text) (b ∙ ap (λ l. l ++ 32 ∷ 32 ∷ []) e))

-- a byte more that prints
pub one_more_prints : (old new : List ℕ) (byte : ℕ) → list_all is_printing old ≡ true → is_printing byte ≡ true →
    new ≡ old ++ byte ∷ [] → list_all is_printing new ≡ true
one_more_prints old new byte all one e = ap (list_all is_printing) e ∙ list_all-append is_printing old (byte ∷ []) ∙
    rw (all, one) refl

-- ---- numbers print

digit_prints : (c : ℕ) → IsInRange 48 57 c → is_printing c ≡ true
digit_prints c digit = and_from _ _ (le-leb 32 c (omega arith)) (le-leb c 126 (omega arith))

digits_print : (text : List ℕ) → AllDigits 10 text → list_all is_printing text ≡ true
digits_print [] digits = refl
digits_print (d ∷ text) digits =
    and_from _ _ (digit_prints d (digit_from_value d digits.0)) (digits_print text digits.1)

number_prints : (n : ℕ) → n < 2 ^ 64 → list_all is_printing (decimal n) ≡ true
number_prints n small = digits_print (decimal n) (decimal_is_IsNumeral n small).0.1

-- ---- what was expected is one line

-- the text is what prints, and a line feed
record EndsLine (text : List ℕ) : Type 0 where
  line : List ℕ
  prints : list_all is_printing line ≡ true
  is : text ≡ line ++ feed

part_then : (part text : List ℕ) → list_all is_printing part ≡ true → EndsLine text → EndsLine (part ++ text)
part_then part text prints ends = record {
  line = part ++ ends.line;
  prints = list_all-append is_printing part ends.line ∙ rw (prints, ends.prints) refl;
  is = ap (λ l. part ++ l) ends.is ∙ sym (append_assoc part ends.line feed);
}

begun_indented : (text : List ℕ) → EndsLine text → AreIndented (codes "  " ++ text)
begun_indented text ends = rw ends.is (line_indented ends.line ends.prints)

purpose_ends : (about : List ℕ) → list_all is_printing about ≡ true → EndsLine (purpose_text about)
purpose_ends about prints =
    part_then (codes " (") (about ++ codes ")\n") refl
    (part_then about (codes ")\n") prints (record { line = codes ")"; prints = refl; is = refl }))

-- a text that is there as it is, and what is behind it
words_expected : (words about : List ℕ) → list_all is_printing words ≡ true → list_all is_printing about ≡ true →
    AreIndented (codes "  expected: " ++ (words ++ purpose_text about))
words_expected words about prints about_prints =
    begun_indented (codes "expected: " ++ (words ++ purpose_text about))
    (part_then (codes "expected: ") (words ++ purpose_text about) refl
    (part_then words (purpose_text about) prints (purpose_ends about about_prints)))

number_expected : (least most : ℕ) (about : List ℕ) → least < 2 ^ 64 → most < 2 ^ 64 →
    list_all is_printing about ≡ true →
    AreIndented (expected_as (Number least most) about)
number_expected least most about l m prints =
    begun_indented (codes "expected: " ++
    (codes "an integer from " ++ (decimal least ++ (codes " to " ++ (decimal most ++ purpose_text about)))))
    (part_then (codes "expected: ")
    (codes "an integer from " ++ (decimal least ++ (codes " to " ++ (decimal most ++ purpose_text about)))) refl
    (part_then (codes "an integer from ") (decimal least ++ (codes " to " ++ (decimal most ++ purpose_text about))) refl
    (part_then (decimal least) (codes " to " ++ (decimal most ++ purpose_text about)) (number_prints least l)
    (part_then (codes " to ") (decimal most ++ purpose_text about) refl
    (part_then (decimal most) (purpose_text about) (number_prints most m) (purpose_ends about prints))))))

-- what the table says of a key prints, and its numbers fit 64 bits
about_prints : (key : ConfigKey) → list_all is_printing (about_of key) ≡ true
about_prints key = grind arith

abbrev Fits : ValueForm → Type 0
Fits (Number least most) = (least < 2 ^ 64) × (most < 2 ^ 64)
Fits form = Unit {0}

form_fits : (key : ConfigKey) → Fits (form_of key)
form_fits key = grind arith

form_indented : (form : ValueForm) (about : List ℕ) → Fits form → list_all is_printing about ≡ true →
    AreIndented (expected_as form about)
form_indented (Number least most) about fits prints = number_expected least most about fits.0 fits.1 prints
form_indented Peer about fits prints = words_expected (codes "a string IP:PORT, as 10.0.0.1:7000") about refl prints
form_indented Path about fits prints =
    words_expected (codes "a string of 1 to 100 characters of ASCII that print") about refl prints
form_indented Mode about fits prints =
    words_expected (codes "a string of a 0 and 3 octal digits, as 0660") about refl prints
form_indented Seed about fits prints = words_expected (codes "a string of 64 hexadecimal digits") about refl prints
form_indented Keys about fits prints =
    words_expected (codes "an array of 1 to 4 strings of 64 hexadecimal digits") about refl prints
form_indented Members about fits prints =
    words_expected (codes "an array of tables, each with id and at") about refl prints

key_indented : (key : ConfigKey) → AreIndented (expected_of key)
key_indented key = form_indented (form_of key) (about_of key) (form_fits key) (about_prints key)

rule_indented : (fault : OpeningFault) → AreIndented (rule_text fault)
rule_indented Relays = line_indented (codes "expected: k of at most 8") refl
rule_indented Timing =
    line_indented (codes "expected: rtt of at least 1, and period from three times rtt to 65535") refl
rule_indented TooManyRows = line_indented (codes "expected: at most 128 members") refl
rule_indented Myself = line_indented (codes "expected: members with other ids than this one") refl
rule_indented Twice = line_indented (codes "expected: each member once") refl

expected_indented : (fault : ConfigFault) → AreIndented (expected_text fault)
expected_indented faults.Size = line_indented (codes "expected: at most 65536 bytes") refl
expected_indented faults.Document = line_indented (codes "expected: a TOML document, in UTF-8") refl
expected_indented faults.UnknownKey = none_indented
expected_indented (faults.Missing key) = key_indented key
expected_indented (faults.Kind key) = key_indented key
expected_indented (faults.Range key) = key_indented key
expected_indented (faults.Peer key) = key_indented key
expected_indented faults.Seed = key_indented keys.Seed
expected_indented (faults.Opening fault) = rule_indented fault
expected_indented faults.NoMemory = none_indented

-- ---- the whole

-- what was found is such lines, too
found_indented : (text : List ℕ) → AreFound text → AreIndented text
found_indented text found = record { lines = found.lines; printing = found.printing; is = found.is }

pub cause_indented : (fault : ConfigFault) (text : List ℕ) → IsCause fault text → AreIndented text
cause_indented fault text cause =
    rw cause.is
    (both_indented (expected_text fault) cause.found (expected_indented fault) (found_indented cause.found cause.lines))
