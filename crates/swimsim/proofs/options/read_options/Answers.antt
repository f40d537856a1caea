use Rattle.std.proofs.Common.{ap, ◌∙◌, ◌≡◌, ℕ, ◌^◌, ◌<◌, List, [], Option, Some, None, Result, Ok, Err, Bor, map, codes}
use Rattle.std.proofs.Common.{refl, sym, subst}
use Rattle.std.specs.Option.{option_map, unwrap_or}
use Rattle.std.specs.Str.Parse.{ExplainsUnsignedError, HasUnsignedDigitsIfOk, IsNumeral, ParsesUnsigned, digits_value}
use Rattle.std.specs.Str.Parse.{without_leading_plus}
use Rattle.clap.specs.Words.{App, HasKind, ReadsOne, all_of, fault_of, first_of, found_of, is_simple}
use Rattle.clap.specs.Words.{is_simple_and_free, matches_of, one_of, one_text}
use Rattle.clap.proofs.WalkLemmas.{first_value-rows, one_text-rows, raw_values-rows}
use Rattle.swimsim.specs.Options.{command_line}
use Rattle.swimsim.proofs.CommandLine.{is_simple_line, is_free_line, passed_on}
use Rattle.swimsim.proofs.options.read_options.Goals as goal

pub returns-in_err-matches-clause-refused : goal.returns-in_err-matches-clause-refused
returns-in_err-matches-clause-refused g c =
    let words = map g.S.AsStr.text c.args.words.now in
    let has_kind = c.in_err-matches.ensures.kinds (ap is_simple_and_free c.in_ok-command.ensures ∙ is_free_line) in
    passed_on _ c.from_residual-in_err-matches.result c.in_err-matches.field-0.0
    c.from_residual-in_err-matches.ensures.1
    (subst (λ (a : App). HasKind (fault_of a words) c.in_err-matches.field-0.0) c.in_ok-command.ensures has_kind)

pub returns-clause-told : goal.returns-clause-told
returns-clause-told g c =
    let words = map g.S.AsStr.text c.args.words.now in
    let rows = (c.in_ok-matches.ensures.matches (ap is_simple c.in_ok-command.ensures ∙ is_simple_line)).0 in
    c.get_str.ensures ∙ (first_value-rows (found_of c.in_ok-matches.matches) (codes "FILE")
    ∙ ap (first_of (codes "FILE")) (rows ∙ ap (λ (a : App). matches_of a words) c.in_ok-command.ensures))

pub returns-clause-decode : goal.returns-clause-decode
returns-clause-decode g c =
    let words = map g.S.AsStr.text c.args.words.now in
    let rows = (c.in_ok-matches.ensures.matches (ap is_simple c.in_ok-command.ensures ∙ is_simple_line)).0 in
    let written : one_text (found_of c.in_ok-matches.matches) (codes "decode") ≡
    one_of (codes "decode") (matches_of command_line words)
    = one_text-rows (found_of c.in_ok-matches.matches) (codes "decode")
    ∙ ap (one_of (codes "decode")) (rows ∙ ap (λ (a : App). matches_of a words) c.in_ok-command.ensures) in (
      λ e. c.get_flag.ensures.none (written ∙ e),
      λ e. c.get_flag.ensures.value (written ∙ e),
      λ e. c.get_flag.ensures.other (written ∙ e),
    )

pub returns-clause-explain : goal.returns-clause-explain
returns-clause-explain g c =
    let words = map g.S.AsStr.text c.args.words.now in
    let rows = (c.in_ok-matches.ensures.matches (ap is_simple c.in_ok-command.ensures ∙ is_simple_line)).0 in
    let written : one_text (found_of c.in_ok-matches.matches) (codes "explain") ≡
    one_of (codes "explain") (matches_of command_line words)
    = one_text-rows (found_of c.in_ok-matches.matches) (codes "explain")
    ∙ ap (one_of (codes "explain")) (rows ∙ ap (λ (a : App). matches_of a words) c.in_ok-command.ensures) in (
      λ e. c.get_flag-2.ensures.none (written ∙ e),
      λ e. c.get_flag-2.ensures.value (written ∙ e),
      λ e. c.get_flag-2.ensures.other (written ∙ e),
    )

pub returns-clause-timeline : goal.returns-clause-timeline
returns-clause-timeline g c =
    let words = map g.S.AsStr.text c.args.words.now in
    let rows = (c.in_ok-matches.ensures.matches (ap is_simple c.in_ok-command.ensures ∙ is_simple_line)).0 in
    c.get_str-2.ensures ∙ (first_value-rows (found_of c.in_ok-matches.matches) (codes "timeline")
    ∙ ap (first_of (codes "timeline")) (rows ∙ ap (λ (a : App). matches_of a words) c.in_ok-command.ensures))

-- what is read of the text of a number
number_is : (E : Type 0) (gives : List ℕ → Result ℕ E → Type 0) (bits : ℕ) (text : List ℕ) (number : Option ℕ) →
    ((t : List ℕ) (r : Result ℕ E) → gives t r → ParsesUnsigned bits 10 t r) → ReadsOne gives text number →
    IsNumeral 10 (without_leading_plus text) → digits_value 10 (without_leading_plus text) < 2 ^ bits →
    number ≡ Some (digits_value 10 (without_leading_plus text))
number_is E gives bits text None parses read numeral fits = absurd (parses text (Err read.0) read.1 (numeral, fits))
number_is E gives bits text (Some n) parses read numeral fits = ap Some (parses text (Ok n) read).1

pub returns-clause-from : goal.returns-clause-from
returns-clause-from g c =
    let words = map g.S.AsStr.text c.args.words.now in
    let rows = (c.in_ok-matches.ensures.matches (ap is_simple c.in_ok-command.ensures ∙ is_simple_line)).0 in
    let written : one_text (found_of c.in_ok-matches.matches) (codes "from") ≡
    one_of (codes "from") (matches_of command_line words)
    = one_text-rows (found_of c.in_ok-matches.matches) (codes "from")
    ∙ ap (one_of (codes "from")) (rows ∙ ap (λ (a : App). matches_of a words) c.in_ok-command.ensures) in (
      λ e. c.get_one.ensures.none (written ∙ e),
      λ text e numeral positive fits.
          number_is _ (λ bs r. ParsesUnsigned 64 10 bs r × ExplainsUnsignedError 10 bs r × HasUnsignedDigitsIfOk bs r)
          64 text c.get_one.result
          (λ t r g. g.0) (c.get_one.ensures.value text (written ∙ e)) numeral fits,
    )

pub returns-clause-around : goal.returns-clause-around
returns-clause-around g c =
    let words = map g.S.AsStr.text c.args.words.now in
    let rows = (c.in_ok-matches.ensures.matches (ap is_simple c.in_ok-command.ensures ∙ is_simple_line)).0 in
    let written : one_text (found_of c.in_ok-matches.matches) (codes "around") ≡
    one_of (codes "around") (matches_of command_line words)
    = one_text-rows (found_of c.in_ok-matches.matches) (codes "around")
    ∙ ap (one_of (codes "around")) (rows ∙ ap (λ (a : App). matches_of a words) c.in_ok-command.ensures) in (
      λ e. c.id_of.ensures.none (c.get_one-2.ensures.none (written ∙ e)),
      λ text e numeral positive fits. c.id_of.ensures.some (digits_value 10 (without_leading_plus text))
          (number_is _ (λ bs r. ParsesUnsigned 32 10 bs r × ExplainsUnsignedError 10 bs r × HasUnsignedDigitsIfOk bs r)
          32 text c.get_one-2.result
          (λ t r g. g.0) (c.get_one-2.ensures.value text (written ∙ e)) numeral fits) positive,
    )

pub returns-clause-force : goal.returns-clause-force
returns-clause-force g c =
    let words = map g.S.AsStr.text c.args.words.now in
    let rows = (c.in_ok-matches.ensures.matches (ap is_simple c.in_ok-command.ensures ∙ is_simple_line)).0 in
    let written : one_text (found_of c.in_ok-matches.matches) (codes "force") ≡
    one_of (codes "force") (matches_of command_line words)
    = one_text-rows (found_of c.in_ok-matches.matches) (codes "force")
    ∙ ap (one_of (codes "force")) (rows ∙ ap (λ (a : App). matches_of a words) c.in_ok-command.ensures) in (
      λ e. c.get_flag-3.ensures.none (written ∙ e),
      λ e. c.get_flag-3.ensures.value (written ∙ e),
      λ e. c.get_flag-3.ensures.other (written ∙ e),
    )

-- the texts of the values, of which there are none where there is no option
texts_of : (values : Option (Bor (List (Bor (List ℕ))))) →
    map (λ v. v.now) (unwrap_or (option_map (λ all. all.now) values) [])
    ≡ unwrap_or (option_map (λ all. map (λ v. v.now) all.now) values) []
texts_of None = refl
texts_of (Some all) = refl

pub returns-clause-verify : goal.returns-clause-verify
returns-clause-verify g c =
    let words = map g.S.AsStr.text c.args.words.now in
    let rows = (c.in_ok-matches.ensures.matches (ap is_simple c.in_ok-command.ensures ∙ is_simple_line)).0 in
    ap (map (λ v. v.now)) c.in_ok-verify.ensures ∙ (texts_of c.get_strs.result
    ∙ ap (λ (values : Option (List (List ℕ))). unwrap_or values [])
    (c.get_strs.ensures ∙ (raw_values-rows (found_of c.in_ok-matches.matches) (codes "verify")
    ∙ ap (all_of (codes "verify")) (rows ∙ ap (λ (a : App). matches_of a words) c.in_ok-command.ensures))))

pub returns-clause-trace : goal.returns-clause-trace
returns-clause-trace g c =
    let words = map g.S.AsStr.text c.args.words.now in
    let rows = (c.in_ok-matches.ensures.matches (ap is_simple c.in_ok-command.ensures ∙ is_simple_line)).0 in
    ap (map (λ v. v.now)) c.in_ok-trace.ensures ∙ (texts_of c.get_strs-2.result
    ∙ ap (λ (values : Option (List (List ℕ))). unwrap_or values [])
    (c.get_strs-2.ensures ∙ (raw_values-rows (found_of c.in_ok-matches.matches) (codes "trace")
    ∙ ap (all_of (codes "trace")) (rows ∙ ap (λ (a : App). matches_of a words) c.in_ok-command.ensures))))

pub returns-clause-judged : goal.returns-clause-judged
returns-clause-judged g c =
    let words = map g.S.AsStr.text c.args.words.now in
    let rows = (c.in_ok-matches.ensures.matches (ap is_simple c.in_ok-command.ensures ∙ is_simple_line)).0 in
    let written : one_text (found_of c.in_ok-matches.matches) (codes "judged") ≡
    one_of (codes "judged") (matches_of command_line words)
    = one_text-rows (found_of c.in_ok-matches.matches) (codes "judged")
    ∙ ap (one_of (codes "judged")) (rows ∙ ap (λ (a : App). matches_of a words) c.in_ok-command.ensures) in (
      λ e. c.id_of-2.ensures.none (c.get_one-3.ensures.none (written ∙ e)),
      λ text e numeral positive fits. c.id_of-2.ensures.some (digits_value 10 (without_leading_plus text))
          (number_is _ (λ bs r. ParsesUnsigned 32 10 bs r × ExplainsUnsignedError 10 bs r × HasUnsignedDigitsIfOk bs r)
          32 text c.get_one-3.result
          (λ t r g. g.0) (c.get_one-3.ensures.value text (written ∙ e)) numeral fits) positive,
    )

pub returns-clause-period : goal.returns-clause-period
returns-clause-period g c =
    let words = map g.S.AsStr.text c.args.words.now in
    let rows = (c.in_ok-matches.ensures.matches (ap is_simple c.in_ok-command.ensures ∙ is_simple_line)).0 in
    let written : one_text (found_of c.in_ok-matches.matches) (codes "period") ≡
    one_of (codes "period") (matches_of command_line words)
    = one_text-rows (found_of c.in_ok-matches.matches) (codes "period")
    ∙ ap (one_of (codes "period")) (rows ∙ ap (λ (a : App). matches_of a words) c.in_ok-command.ensures) in (
      λ e. c.get_one-4.ensures.none (written ∙ e),
      λ text e numeral positive fits.
          number_is _ (λ bs r. ParsesUnsigned 64 10 bs r × ExplainsUnsignedError 10 bs r × HasUnsignedDigitsIfOk bs r)
          64 text c.get_one-4.result
          (λ t r g. g.0) (c.get_one-4.ensures.value text (written ∙ e)) numeral fits,
    )

pub returns-clause-json : goal.returns-clause-json
returns-clause-json g c =
    let words = map g.S.AsStr.text c.args.words.now in
    let rows = (c.in_ok-matches.ensures.matches (ap is_simple c.in_ok-command.ensures ∙ is_simple_line)).0 in
    let written : one_text (found_of c.in_ok-matches.matches) (codes "json") ≡
    one_of (codes "json") (matches_of command_line words)
    = one_text-rows (found_of c.in_ok-matches.matches) (codes "json")
    ∙ ap (one_of (codes "json")) (rows ∙ ap (λ (a : App). matches_of a words) c.in_ok-command.ensures) in (
      λ e. c.get_flag-4.ensures.none (written ∙ e),
      λ e. c.get_flag-4.ensures.value (written ∙ e),
      λ e. c.get_flag-4.ensures.other (written ∙ e),
    )

pub returns-clause-numbers : goal.returns-clause-numbers
returns-clause-numbers g c =
    let words = map g.S.AsStr.text c.args.words.now in
    let rows = (c.in_ok-matches.ensures.matches (ap is_simple c.in_ok-command.ensures ∙ is_simple_line)).0 in
    let written : one_text (found_of c.in_ok-matches.matches) (codes "numbers") ≡
    one_of (codes "numbers") (matches_of command_line words)
    = one_text-rows (found_of c.in_ok-matches.matches) (codes "numbers")
    ∙ ap (one_of (codes "numbers")) (rows ∙ ap (λ (a : App). matches_of a words) c.in_ok-command.ensures) in (
      λ e. c.get_flag-5.ensures.none (written ∙ e),
      λ e. c.get_flag-5.ensures.value (written ∙ e),
      λ e. c.get_flag-5.ensures.other (written ∙ e),
    )

pub returns-clause-refused : goal.returns-clause-refused
returns-clause-refused g c =
    let words = map g.S.AsStr.text c.args.words.now in
    sym (ap (λ (a : App). fault_of a words) c.in_ok-command.ensures)
    ∙ c.in_ok-matches.ensures.kinds (ap is_simple_and_free c.in_ok-command.ensures ∙ is_free_line)
