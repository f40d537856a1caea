-- Worked words: the definitions, evaluated on words that were written down by hand.
use Rattle.std.specs.Prelude.{◌≡◌, [], ◌∷◌, true, false, Some, None, codes, refl}
use Rattle.std.proofs.Common.{inl}
use Rattle.clap.proofs.OnLiterals.{clap_on_literals}
use Rattle.clap.specs.declared.error.kind.ErrorKind.TheVariants.{DisplayHelp, DisplayVersion}
use Rattle.clap.specs.declared.error.kind.ErrorKind.TheVariants.{UnknownArgument}
use Rattle.swim_commands.specs.declared.forms.Form.TheVariants.{Plain, Explained, Tables}
use Rattle.swim_commands.specs.Ages.{span_of}
use Rattle.swim_commands.specs.Answers.{is_answer_to}
use Rattle.swim_commands.specs.Forms.{explained, is_unmet, shown}
use Rattle.swim_commands.specs.Words.{Around, Check, CheckFile, Run, Ask, MakeKey, Help, Version, IsAsked}

-- standard input is a terminal, standard output isn't one, and the environment has a path that is no text
abbrev around : Around
around = record {
  control = Some (codes "/run/swimd/control");
  events = None;
  is_typed = true;
  is_shown = false;
}

no_words_check : IsAsked around [] (Some (Check true))
unfolding clap_on_literals
no_words_check = refl

check_checks : IsAsked around (codes "check" ∷ []) (Some (Check true))
unfolding clap_on_literals
check_checks = refl

run_takes_a_file : IsAsked around (codes "run" ∷ codes "--config" ∷ codes "swimd.toml" ∷ [])
    (Some (Run (codes "swimd.toml") false))
unfolding clap_on_literals
run_takes_a_file = refl

run_may_be_quiet : IsAsked around (codes "run" ∷ codes "--quiet" ∷ codes "--config" ∷ codes "swimd.toml" ∷ [])
    (Some (Run (codes "swimd.toml") true))
unfolding clap_on_literals
run_may_be_quiet = refl

ask_takes_a_path : IsAsked around (codes "ask" ∷ codes "--control" ∷ codes "/run/swimd" ∷ [])
    (Some (Ask (codes "/run/swimd") None 5 Plain))
unfolding clap_on_literals
ask_takes_a_path = refl

ask_takes_words : IsAsked around (codes "ask" ∷ codes "--control" ∷ codes "/run/swimd" ∷ codes "gap" ∷ codes "2" ∷ [])
    (Some (Ask (codes "/run/swimd") (Some (codes "gap 2\n")) 5 Plain))
unfolding clap_on_literals
ask_takes_words = refl

ask_takes_one_line : IsAsked around
    (codes "ask" ∷ codes "--control" ∷ codes "/run/swimd" ∷ codes "gap 2\nstop" ∷ []) None
unfolding clap_on_literals
ask_takes_one_line = refl

ask_knows_a_path : IsAsked around (codes "ask" ∷ codes "list" ∷ [])
    (Some (Ask (codes "/run/swimd/control") (Some (codes "list\n")) 5 Plain))
unfolding clap_on_literals
ask_knows_a_path = refl

ask_may_explain : IsAsked around (codes "ask" ∷ codes "--explain" ∷ codes "list" ∷ [])
    (Some (Ask (codes "/run/swimd/control") (Some (codes "list\n")) 5 Explained))
unfolding clap_on_literals
ask_may_explain = refl

ask_makes_tables_of_a_list : IsAsked around (codes "ask" ∷ codes "list" ∷ codes "--toml" ∷ [])
    (Some (Ask (codes "/run/swimd/control") (Some (codes "list\n")) 5 Tables))
unfolding clap_on_literals
ask_makes_tables_of_a_list = refl

ask_makes_no_tables_of_counts : IsAsked around (codes "ask" ∷ codes "stats" ∷ codes "--toml" ∷ []) None
unfolding clap_on_literals
ask_makes_no_tables_of_counts = refl

watch_knows_no_path : IsAsked around (codes "watch" ∷ []) None
unfolding clap_on_literals
watch_knows_no_path = refl

run_wants_a_file : IsAsked around (codes "run" ∷ []) None
unfolding clap_on_literals
run_wants_a_file = refl

run_wants_one_file : IsAsked around (codes "run" ∷ codes "a" ∷ codes "--config" ∷ codes "b" ∷ []) None
unfolding clap_on_literals
run_wants_one_file = refl

run_takes_a_word : IsAsked around (codes "run" ∷ codes "swimd.toml" ∷ []) (Some (Run (codes "swimd.toml") false))
unfolding clap_on_literals
run_takes_a_word = refl

check_takes_a_word : IsAsked around (codes "check" ∷ codes "swimd.toml" ∷ []) (Some (CheckFile (codes "swimd.toml")))
unfolding clap_on_literals
check_takes_a_word = refl

check_takes_no_more : IsAsked around (codes "check" ∷ codes "a" ∷ codes "b" ∷ []) None
unfolding clap_on_literals
check_takes_no_more = (UnknownArgument, inl refl, refl)

key_makes_a_key : IsAsked around (codes "key" ∷ []) (Some MakeKey)
unfolding clap_on_literals
key_makes_a_key = refl

helps_who_asks : IsAsked around (codes "--help" ∷ []) (Some Help)
unfolding clap_on_literals
helps_who_asks = (DisplayHelp, inl refl, refl)

tells_the_version : IsAsked around (codes "run" ∷ codes "--version" ∷ []) (Some Version)
unfolding clap_on_literals
tells_the_version = (DisplayVersion, inl refl, refl)

-- ---- what is written of an answer

a_refusal_has_a_name : explained [] (codes "refused 4\n") ≡ codes "refused 4 unknown\n"
a_refusal_has_a_name = refl

a_join_has_a_name : explained [] (codes "joined 2\n") ≡ codes "joined 2 the place in the round\n"
a_join_has_a_name = refl

a_gap_has_none : explained [] (codes "gap none\n") ≡ codes "gap none\n"
a_gap_has_none = refl

a_reload_is_told_by_one_line : is_answer_to (codes "reload\n") (codes "reloaded; tick_ms needs a start\n") ≡ true
a_reload_is_told_by_one_line = refl

a_reload_is_met : is_unmet Explained (codes "reloaded; tick_ms needs a start\n") ≡ false
a_reload_is_met = refl

a_refused_configuration_is_unmet : is_unmet Plain (codes "configuration 6 keys\n") ≡ true
a_refused_configuration_is_unmet = refl

what_is_no_list_makes_none : shown Tables [] (codes "closed\n") ≡ codes "closed\n"
what_is_no_list_makes_none = refl

a_span_has_two_units_at_least : span_of 119 ∷ span_of 120 ∷ span_of 7199 ∷ span_of 7200 ∷ span_of 172800 ∷ [] ≡
    (119, codes "s") ∷ (2, codes "min") ∷ (119, codes "min") ∷ (2, codes "h") ∷ (2, codes "days") ∷ []
a_span_has_two_units_at_least = refl
