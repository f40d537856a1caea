-- The lines below the line of a fault: what was expected, and what stood there.
use Rattle.std.specs.Prelude.{◌≡◌, ℕ, Bool, true, List, [], ◌∷◌, ◌++◌, Option, codes, decimal}
use Rattle.std.specs.List.{list_all}
use Rattle.swim_text.specs.Streams.{Puts}
use Rattle.swim_history.specs.Texts.{feed}
use Rattle.swim_history.specs.declared.openings.OpeningFault.{OpeningFault}
use Rattle.swim_history.specs.declared.openings.OpeningFault.TheVariants.{Relays, Timing, TooManyRows, Myself, Twice}
use Rattle.swim_config.specs.declared.config_fault.ConfigFault.{ConfigFault}
use Rattle.swim_config.specs.declared.config_fault.ConfigFault.TheVariants as faults
use Rattle.swim_config.specs.declared.keys.ValueForm.{ValueForm}
use Rattle.swim_config.specs.declared.keys.ValueForm.TheVariants.{Number, Peer, Path, Mode, Seed, Keys, Members}
use Rattle.swim_config.specs.declared.keys.ConfigKey.{ConfigKey}
use Rattle.swim_config.specs.declared.keys.ConfigKey.TheVariants as keys
use Rattle.swim_config.specs.Configuration.{is_printing}
use Rattle.swim_config.specs.Hiding.{hides}
use Rattle.swim_config.specs.Keys.{form_of, about_of}

-- ---- lines

-- a line below another one: it begins with two spaces
abbrev pub indented : List ℕ → List ℕ
indented text = codes "  " ++ (text ++ feed)

abbrev pub indented_lines : List (List ℕ) → List ℕ
indented_lines [] = []
indented_lines (line ∷ lines) = indented line ++ indented_lines lines

-- each byte of each line is a character of ASCII that prints, or a space
abbrev pub are_printing : List (List ℕ) → Bool
are_printing lines = list_all (λ line. list_all is_printing line) lines

-- the text is such lines, and nothing else
pub record AreIndented (text : List ℕ) : Type 0 where
  pub lines : List (List ℕ)
  pub printing : are_printing lines ≡ true
  pub is : text ≡ indented_lines lines

-- the text is such lines of what was found, in none of which a key shows
pub record AreFound (text : List ℕ) : Type 0 where
  pub lines : List (List ℕ)
  pub printing : are_printing lines ≡ true
  pub hiding : list_all hides lines ≡ true
  pub is : text ≡ indented_lines lines

-- such lines were written
pub record PutsLines (old new : Option (List ℕ)) (done : Bool) : Type 0 where
  pub text : List ℕ
  pub lines : AreFound text
  pub puts : Puts old new text done

-- ---- what was expected

-- what the value of a key has to be, and what follows
abbrev pub form_then : ValueForm → List ℕ → List ℕ
form_then (Number least most) rest =
    codes "an integer from " ++ (decimal least ++ (codes " to " ++ (decimal most ++ rest)))
form_then Peer rest = codes "a string IP:PORT, as 10.0.0.1:7000" ++ rest
form_then Path rest = codes "a string of 1 to 100 characters of ASCII that print" ++ rest
form_then Mode rest = codes "a string of a 0 and 3 octal digits, as 0660" ++ rest
form_then Seed rest = codes "a string of 64 hexadecimal digits" ++ rest
form_then Keys rest = codes "an array of 1 to 4 strings of 64 hexadecimal digits" ++ rest
form_then Members rest = codes "an array of tables, each with id and at" ++ rest

-- what a key is for, in brackets
abbrev pub purpose_text : List ℕ → List ℕ
purpose_text about = codes " (" ++ (about ++ codes ")\n")

abbrev pub expected_as : ValueForm → List ℕ → List ℕ
expected_as form about = codes "  expected: " ++ form_then form (purpose_text about)

abbrev pub expected_of : ConfigKey → List ℕ
expected_of key = expected_as (form_of key) (about_of key)

-- the rule that an opening broke
abbrev pub rule_text : OpeningFault → List ℕ
rule_text Relays = codes "  expected: k of at most 8\n"
rule_text Timing = codes "  expected: rtt of at least 1, and period from three times rtt to 65535\n"
rule_text TooManyRows = codes "  expected: at most 128 members\n"
rule_text Myself = codes "  expected: members with other ids than this one\n"
rule_text Twice = codes "  expected: each member once\n"

abbrev pub expected_text : ConfigFault → List ℕ
expected_text faults.Size = codes "  expected: at most 65536 bytes\n"
expected_text faults.Document = codes "  expected: a TOML document, in UTF-8\n"
expected_text faults.UnknownKey = []
expected_text (faults.Missing key) = expected_of key
expected_text (faults.Kind key) = expected_of key
expected_text (faults.Range key) = expected_of key
expected_text (faults.Peer key) = expected_of key
expected_text faults.Seed = expected_of keys.Seed
expected_text (faults.Opening fault) = rule_text fault
expected_text faults.NoMemory = []

-- ---- the whole

-- the text is what was expected, and then lines that tell what stood there, in none of which a key shows
pub record IsCause (fault : ConfigFault) (text : List ℕ) : Type 0 where
  pub found : List ℕ
  pub lines : AreFound found
  pub is : text ≡ expected_text fault ++ found

-- such a text was written
pub record Causes (fault : ConfigFault) (old new : Option (List ℕ)) (done : Bool) : Type 0 where
  pub text : List ℕ
  pub cause : IsCause fault text
  pub puts : Puts old new text done
