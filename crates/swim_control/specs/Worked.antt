-- Worked lines: the definitions, evaluated on texts that were written down by hand.
use Rattle.std.specs.Prelude.{◌≡◌, ℕ, List, [], ◌∷◌, ◌++◌, None, Ok, Err, codes, refl}
use Rattle.swim_control.specs.declared.desks.DeskCommand.TheVariants.{List as Lists, Reload}
use Rattle.swim_control.specs.declared.commands.Said.TheVariants.{Stop, Asks}
use Rattle.swim_control.specs.declared.faults.WordFault.TheVariants.{UnknownWord, BadId, Extra}
use Rattle.swim_control.specs.declared.faults.Fault.TheVariants as faults
use Rattle.swim_control.specs.Commands.{said, said_after}
use Rattle.swim_control.specs.Desks.{Shows}
use Rattle.swim_control.specs.Texts.{fault_text}
use Rattle.swim_control.specs.Serving.{lines_of, commands_in, output_of}

-- lines without arguments, and their faults
says_list : said (codes "list\n") ≡ Ok (Asks Lists)
unfolding said_after
says_list = refl

says_stop : said (codes "stop\n") ≡ Ok Stop
unfolding said_after
says_stop = refl

says_reload : said (codes "reload\n") ≡ Ok (Asks Reload)
unfolding said_after
says_reload = refl

says_no_file : said (codes "reload swimd.toml\n") ≡ Err (faults.Words Extra)
unfolding said_after
says_no_file = refl

says_too_much : said (codes "list \n") ≡ Err (faults.Words Extra)
unfolding said_after
says_too_much = refl

says_nothing_known : said (codes "List\n") ≡ Err (faults.Words UnknownWord)
says_nothing_known = refl

says_nothing : said (codes "\n") ≡ Err (faults.Words UnknownWord)
says_nothing = refl

names_nobody : said (codes "gap\n") ≡ Err (faults.Words BadId)
unfolding said_after
names_nobody = refl

is_unended : said (codes "lis") ≡ Err faults.Unended
is_unended = refl

-- a table is shown, a line is unknown, and a line says that serving is to end
abbrev text : List ℕ
text = codes "list\nlis\nstop\n"

asks_once : commands_in (lines_of text) ≡ Lists ∷ []
unfolding said_after
asks_once = refl

answers_in_order : output_of (lines_of text) (Shows None ∷ []) ≡ codes "closed\n" ++ fault_text
    (faults.Words UnknownWord) ++ codes "stopping\n"
unfolding said_after
answers_in_order = refl
