-- What a shell reads in the word of a path.
use Rattle.std.proofs.Common.{◌≡◌, ℕ, ◌==◌, Bool, true, false, List, [], ◌∷◌, ◌++◌, Option, Some, codes, refl}
use Rattle.std.proofs.Common.{sym, ap, ◌∙◌}
use Rattle.std.proofs.lemmas.Bool.{and_parts, eqb-true}
use Rattle.std.specs.List.{list_all}
use Rattle.std.specs.Prelude.{if◌then◌else◌}
use Rattle.swim_verdicts.specs.ShellWords.{is_plain, lead_of, onto, quoted, quoted_sign, quoted_signs, read_from}
use Rattle.swim_verdicts.specs.ShellWords.{shell_reads, shell_word}
use Rattle.swim_verdicts.specs.ShellWords.Reading.{Bare, Quoted}

quoted_read : (text : List ℕ) → read_from Quoted (quoted_signs text) ≡ Some text
quoted_read [] = refl
quoted_read (sign ∷ text) = by (sign == 39) refl (quoted_read text)
  where
    by : (c : Bool) → (sign == 39) ≡ c → read_from Quoted (quoted_signs text) ≡ Some text →
        read_from Quoted (quoted_sign sign ++ quoted_signs text) ≡ Some (sign ∷ text)
    by true is rest = rw (eqb-true sign 39 is, rest) refl
    by false is rest =
        let others = quoted_signs text in
        ap (λ (c : Bool). read_from Quoted ((if c then codes "'\\''" else sign ∷ []) ++ others)) is
        ∙ (ap (λ (c : Bool). if c then read_from Bare others else onto sign (read_from Quoted others)) is
        ∙ ap (onto sign) rest)

-- a plain sign isn't one that isn't
is_another : (sign odd : ℕ) → is_plain odd ≡ false → is_plain sign ≡ true → (sign == odd) ≡ false
is_another sign odd not_plain plain = by (sign == odd) refl
  where
    by : (c : Bool) → (sign == odd) ≡ c → (sign == odd) ≡ false
    by true is = absurd (cc (sym plain ∙ (ap is_plain (eqb-true sign odd is) ∙ not_plain)))
    by false is = is

plain_read : (text : List ℕ) → list_all is_plain text ≡ true → read_from Bare text ≡ Some text
plain_read [] all = refl
plain_read (sign ∷ text) all =
    let parts = and_parts (is_plain sign) (list_all is_plain text) all in
    rw (is_another sign 39 refl parts.0, is_another sign 92 refl parts.0, parts.0, plain_read text parts.1) refl

bare_read : (text : List ℕ) → read_from Bare (quoted text) ≡ Some text
bare_read text = by (list_all is_plain text) refl
  where
    by : (c : Bool) → list_all is_plain text ≡ c →
        read_from Bare (if c then text else codes "'" ++ quoted_signs text) ≡ Some text
    by true is = plain_read text is
    by false is = quoted_read text

led_read : (c : Bool) (text : List ℕ) →
    read_from Bare ((if c then codes "./" else []) ++ quoted text) ≡ Some ((if c then codes "./" else []) ++ text)
led_read true text = ap (λ (read : Option (List ℕ)). onto 46 (onto 47 read)) (bare_read text)
led_read false text = bare_read text

-- it is that path
pub word_read : (path : List ℕ) → shell_reads (shell_word path) ≡ Some (lead_of path ++ path)
word_read [] = bare_read []
word_read (sign ∷ path) = led_read (sign == 45) (sign ∷ path)
