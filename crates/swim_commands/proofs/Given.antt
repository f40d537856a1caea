-- What `clap` found, and the rows that stand for it.
use Rattle.std.proofs.Common.{◌≡◌, List, Option, Some, None, Box, Global, option_map, refl}
use Rattle.std.specs.Box.{box_value}
use Rattle.clap.specs.Matches.{first_value, found_of, matched_of, raw_values, subcommand_name_of}
use Rattle.clap.specs.Simple.{subcommand_rows, subcommand_rows_of}
use Rattle.clap.specs.Walk.{Row, Text, all_of, first_of, rows_of}
use Rattle.clap.specs.declared.parser.matches.ArgMatches.{ArgMatches}
use Rattle.clap.specs.declared.parser.matches.ArgMatches.TheViews.{out-ArgMatches, out-SubCommand}
use Rattle.clap.specs.declared.parser.matches.Found.{Found}
use Rattle.clap.specs.declared.parser.matches.SubCommand.{SubCommand}
use Rattle.clap.proofs.WalkLemmas.{first_value-rows, raw_values-rows}

pub first_given : (f : Found) (id : Text) → first_value f id ≡ first_of id (rows_of f)
first_given f id = first_value-rows f id

pub all_given : (f : Found) (id : Text) → option_map raw_values (matched_of f id) ≡ all_of id (rows_of f)
all_given f id = raw_values-rows f id

-- a command of that name was met, with these rows
met_at : (s : Option (Box SubCommand Global)) (name : Text) (rows : List Row) →
    Some name ≡ option_map (λ b. (out-SubCommand (box_value b)).name.now) s →
    Some rows ≡ option_map (λ p. p.1) (subcommand_rows s) → subcommand_rows s ≡ Some (name, rows)
met_at None name rows e f = absurd cc
met_at (Some b) name rows e f =
    let n : name ≡ (out-SubCommand (box_value b)).name.now = cc in
    let r : rows ≡ rows_of (found_of (out-SubCommand (box_value b)).matches) = cc in
    rw (n, r) refl

pub met : (m : ArgMatches) (name : Text) (rows : List Row) → Some name ≡ subcommand_name_of m →
    Some rows ≡ option_map (λ p. p.1) (subcommand_rows_of m) → subcommand_rows_of m ≡ Some (name, rows)
met m name rows e f = met_at (out-ArgMatches m).subcommand name rows e f
