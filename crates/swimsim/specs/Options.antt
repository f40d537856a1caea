-- The words of the command line.
use Rattle.std.specs.Prelude.{◌≡◌, ◌⊎◌, ℕ, ◌-◌, ◌^◌, ◌<◌, List, [], length, Option, Some, None, IsSome, Bool, codes}
use Rattle.std.specs.Prelude.{true, false}
use Rattle.std.specs.Option.{unwrap_or}
use Rattle.std.specs.Str.Parse.{IsNumeral, digits_value, without_leading_plus}
use Rattle.swimsim.specs.declared.options.Options.{Options}
use Rattle.clap.specs.Words.{App, Rule, all_of, Shape, Text, first_of, matches_of, new_app, new_rule, one_of, with_rule}
use Rattle.clap.specs.Lexer.{usize_max}
use Rattle.clap.specs.Simple.{on_top}
use Rattle.clap.specs.declared.builder.ArgAction.TheVariants.{SetTrue}
use Rattle.clap.specs.declared.builder.value_parser.ValueParser.TheVariants.{Unsigned}
use Rattle.swim_timeline.specs.declared.spans.View.{View}
use Rattle.swim_timeline.specs.declared.spans.View.TheVariants.{Start, From, Around, At}

-- the path of the script
abbrev pub script_rule : Rule
script_rule = new_rule (codes "FILE")

-- an option that takes no value
abbrev pub flag_rule : Text → Rule
flag_rule name = record (new_rule name) { long = Some name; action = Some SetTrue }

abbrev pub versioned : Shape → Shape
versioned s = record s { has_version = true }

-- an option that takes one value, which help calls by a name
abbrev pub value_rule : Text → Rule
value_rule name = record (new_rule name) { long = Some name; value_names = 1 }

-- an option that takes a number from 1 up to that
abbrev pub number_rule : Text → ℕ → Rule
number_rule name most = record (value_rule name) { parser = Some (Unsigned 1 most) }

-- an option that takes one value or more
abbrev pub values_rule : Text → Rule
values_rule name = record (value_rule name) { range = Some (record { start_inclusive = 1; end_inclusive = usize_max }) }

-- of a script: at most one word that is no option, two flags, and the picture
abbrev pub script_line : App
script_line =
    with_rule (with_rule (with_rule (with_rule (on_top versioned (new_app (codes "swimsim"))) script_rule)
    (flag_rule (codes "decode"))) (flag_rule (codes "explain"))) (value_rule (codes "timeline"))

-- of the picture: with which period it begins, or round whose judgement it lies, and whether it is written over
-- anything
abbrev pub picture_line : App
picture_line =
    with_rule (with_rule (with_rule script_line (number_rule (codes "from") (2 ^ 64 - 1)))
    (number_rule (codes "around") (2 ^ 32 - 1)))
    (flag_rule (codes "force"))

-- of journal files: those to be verified, those in which datagrams are looked for, and for which judgements
abbrev pub file_line : App
file_line =
    with_rule
    (with_rule (with_rule (with_rule picture_line (values_rule (codes "verify"))) (values_rule (codes "trace")))
    (number_rule (codes "judged") (2 ^ 32 - 1)))
    (number_rule (codes "period") (2 ^ 64 - 1))

-- these, whether what is told of files is written as JSON, and whether a script's entries are numbered, beside what
-- clap gives each program that has a version, `--help` and `--version`
abbrev pub command_line : App
command_line = with_rule (with_rule file_line (flag_rule (codes "json"))) (flag_rule (codes "numbers"))

-- the path of the script that the words name, if any
abbrev pub script_in : List Text → Option Text
script_in words = first_of (codes "FILE") (matches_of command_line words)

-- the value of an option, if the words give it one
abbrev pub value_in : Text → List Text → Option Text
value_in name words = first_of name (matches_of command_line words)

-- the values of an option that takes several
abbrev pub values_in : Text → List Text → List Text
values_in name words = unwrap_or (all_of name (matches_of command_line words)) []

-- what the words say of a flag, as clap writes it
abbrev pub flag_in : Text → List Text → Option Text
flag_in name words = one_of name (matches_of command_line words)

-- the flag is as it is written
abbrev pub TellsFlag : Bool → Option Text → Type 0
TellsFlag flag written = (written ≡ None → flag ≡ false) × (written ≡ Some (codes "true") → flag ≡ true)
    × (written ≡ Some (codes "false") → flag ≡ false)

-- the number is that of the text, where that is one from 1 up to below the limit
abbrev pub TellsNumber : ℕ → Option ℕ → Option Text → Type 0
TellsNumber limit number written = (written ≡ None → number ≡ None) × ((text : Text) → written ≡ Some text
    → IsNumeral 10 (without_leading_plus text) → 0 < digits_value 10 (without_leading_plus text)
    → digits_value 10 (without_leading_plus text) < limit → number ≡ Some (digits_value 10 (without_leading_plus text)))

-- which periods the picture shows
abbrev pub view_of : Option ℕ → Option ℕ → Option ℕ → View
view_of (Some number) around period = From number
view_of None (Some member) (Some number) = At member number
view_of None (Some member) None = Around member
view_of None None period = Start

-- something of a picture is asked that stands beside no picture, or both from a period on and round a judgement
abbrev pub IsUnplaced : Options → Type 0
IsUnplaced options = (IsSome options.from ⊎ IsSome options.around) × (options.timeline ≡ None)

abbrev pub IsTwofold : Options → Type 0
IsTwofold options = IsSome options.from × IsSome options.around

-- something is asked that has to do with a script and its picture
abbrev pub AsksForScript : Options → Type 0
AsksForScript options = IsSome options.script ⊎ (options.decode ≡ true) ⊎ (options.explain ≡ true)
    ⊎ (options.numbers ≡ true) ⊎ IsSome options.timeline ⊎ IsSome options.from ⊎ IsSome options.around
    ⊎ (options.force ≡ true)

-- something is asked that has to do with a script, and with no probe that is traced: a picture may be of either
abbrev pub AsksForRun : Options → Type 0
AsksForRun options = IsSome options.script ⊎ (options.decode ≡ true) ⊎ (options.explain ≡ true)
    ⊎ (options.numbers ≡ true) ⊎ IsSome options.from ⊎ IsSome options.around
    ⊎ ((options.force ≡ true) × (options.timeline ≡ None))

-- files are to be verified, and something else is asked beside that; or they are to be traced, and something else than
-- a picture of a probe is asked
abbrev pub IsMixed : Options → Type 0
IsMixed options =
    ((0 < length options.verify.items) × ((0 < length options.trace.items) ⊎ AsksForScript options))
    ⊎ ((0 < length options.trace.items) × AsksForRun options)

-- judgements are named that are to be traced, and no files; a period is named, and neither such files nor a member
-- round whose judgement the picture lies; or JSON is asked for, and no files are to be traced or verified
abbrev pub IsUntraced : Options → Type 0
IsUntraced options = (length options.trace.items ≡ 0)
    × (IsSome options.judged ⊎ (IsSome options.period × (options.around ≡ None))
    ⊎ ((options.json ≡ true) × (length options.verify.items ≡ 0)))
