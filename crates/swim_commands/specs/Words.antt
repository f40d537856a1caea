-- What the words after the program's name ask, as `clap` takes them.
use Rattle.std.specs.Prelude.{◌≡◌, ◌==◌, ◌||◌, ℕ, Bool, true, false, List, [], ◌∷◌, ◌++◌, take, Option, Some, None}
use Rattle.std.specs.Prelude.{codes, option_map, option_and_then, if◌then◌else◌, length, map, nat_le}
use Rattle.std.specs.List.{list_any}
use Rattle.std.specs.Option.{option_map_or}
use Rattle.std.specs.Str.{bytes_eq}
use Rattle.clap.specs.Faults.{fault_of}
use Rattle.clap.specs.Kinds.{IsAmong, Kinds}
use Rattle.clap.specs.Simple.{App, new_app, new_rule, new_shape, subcommand_of, with_rule, with_subcommand}
use Rattle.clap.specs.Walk.{Row, Rule, Text, all_of, first_of}
use Rattle.clap.specs.declared.builder.action.ArgAction.TheVariants.{Append, Set, SetTrue}
use Rattle.clap.specs.declared.error.kind.ErrorKind.{ErrorKind}
use Rattle.clap.specs.declared.error.kind.ErrorKind.TheVariants.{DisplayHelp, DisplayVersion, OutOfMemory}
use Rattle.swim_text.specs.Lines.{has_feed}
use Rattle.swim_text.specs.Numbers.{number_of}
use Rattle.swim_wire.specs.Address.{Address, address_of}
use Rattle.swim_commands.specs.Asking.{joined}
use Rattle.swim_commands.specs.declared.forms.Form.{Form}
use Rattle.swim_commands.specs.declared.forms.Form.TheVariants.{Plain, Explained, Tables}
use Rattle.swim_commands.specs.declared.surroundings.Surroundings.{Surroundings}
use Rattle.swim_commands.specs.declared.words.Asked.{Asked}
use Rattle.swim_commands.specs.declared.words.Asked.TheVariants as asked
use Rattle.swim_commands.specs.declared.words.Unasked.{Unasked}
use Rattle.swim_commands.specs.declared.words.Unasked.TheVariants.{Usage, NoMemory}

-- a check of standard input, and whether people are told that it is waited for; a check of a file; a daemon with the
-- configuration of a file, and whether it tells no starts; the daemon at a path is asked a line, or those on standard
-- input, each answer may take so many seconds, and is written in a form; what the daemon at a path tells is
-- written, and whether as JSON; what the daemon at a path answers is served at an address, with what is told at
-- another path or without, to who asks for that address or one of these names; a key; help; the version
pub data Wanted : Type 0 where
  Check : (is_prompted : Bool) → Wanted
  CheckFile : (file : List ℕ) → Wanted
  Run : (file : List ℕ) → (is_quiet : Bool) → Wanted
  Ask : (path : List ℕ) → (line : Option (List ℕ)) → (seconds : ℕ) → (form : Form) → Wanted
  Watch : (path : List ℕ) → (is_json : Bool) → Wanted
  Web : (listen : Address) → (control : List ℕ) → (events : Option (List ℕ)) → (journals : Option (List ℕ)) →
      (names : List (List ℕ)) → Wanted
  MakeKey : Wanted
  Help : Wanted
  Version : Wanted

abbrev pub wanted : Asked → Wanted
wanted (asked.Check is_prompted) = Check is_prompted
wanted (asked.CheckFile file) = CheckFile file.now
wanted (asked.Run file is_quiet) = Run file.now is_quiet
wanted (asked.Ask request) =
    Ask request.path.now (option_map (λ line. line.items) request.line) request.seconds request.form
wanted (asked.Watch path is_json) = Watch path.now is_json
wanted (asked.Web request) =
    Web request.listen request.control.now (option_map (λ path. path.now) request.events)
    (option_map (λ path. path.now) request.journals)
    (map (λ name. name.now) request.names.items)
wanted asked.MakeKey = MakeKey
wanted (asked.Help text) = Help
wanted asked.Version = Version

-- ---- the program as clap knows it

-- an option that takes one value
abbrev pub option_rule : Text → Rule
option_rule name = record (new_rule name) { long = Some name; value_names = 1; action = Some Set }

-- an option that has to be given
abbrev pub needed_rule : Text → Rule
needed_rule name = record (option_rule name) { required = true }

-- an option that takes no value
abbrev pub flag_rule : Text → Rule
flag_rule name = record (new_rule name) { long = Some name; action = Some SetTrue }

-- an option that takes one value, as often as it is given
abbrev pub repeated_rule : Text → Rule
repeated_rule name = record (option_rule name) { action = Some Append }

-- words that are no options, as many as there are
abbrev pub words_rule : Text → Rule
words_rule name = record (new_rule name) { action = Some Append }

-- a word that is no option
abbrev pub word_rule : Text → Rule
word_rule name = record (new_rule name) { action = Some Set }

abbrev pub check_app : App
check_app = with_rule (new_app (codes "check")) (word_rule (codes "FILE"))

abbrev pub run_app : App
run_app = with_rule (with_rule (with_rule (new_app (codes "run")) (word_rule (codes "FILE")))
    (option_rule (codes "config"))) (flag_rule (codes "quiet"))

abbrev pub ask_app : App
ask_app = with_rule (with_rule (with_rule (with_rule (with_rule (new_app (codes "ask"))
    (option_rule (codes "control"))) (option_rule (codes "timeout"))) (flag_rule (codes "explain")))
    (flag_rule (codes "toml"))) (words_rule (codes "WORDS"))

abbrev pub watch_app : App
watch_app = with_rule (with_rule (new_app (codes "watch")) (option_rule (codes "events"))) (flag_rule (codes "json"))

abbrev pub web_app : App
web_app = with_rule (with_rule (with_rule (with_rule (with_rule (new_app (codes "web")) (needed_rule (codes "listen")))
    (needed_rule (codes "control"))) (option_rule (codes "events"))) (repeated_rule (codes "name")))
    (option_rule (codes "journals"))

-- the program: the words are those after its name, and each command has a version
abbrev pub program_alone : App
program_alone = record {
  top = record (new_shape (codes "swimd")) {
    no_binary_name = true;
    has_version = true;
    propagate_version = true;
    disable_help_subcommand = true;
  };
  subs = [];
}

abbrev pub program : App
program =
    with_subcommand
    (with_subcommand
    (with_subcommand
    (with_subcommand
    (with_subcommand
    (with_subcommand program_alone check_app.top)
    run_app.top)
    ask_app.top)
    watch_app.top)
    web_app.top)
    (new_shape (codes "key"))

-- ---- what the words leave out

-- the paths that are taken where no word says another, none where one is no text; whether a terminal is at standard
-- input, and whether at standard output
pub record Around : Type 0 where
  pub control : Option Text
  pub events : Option Text
  pub is_typed : Bool
  pub is_shown : Bool

abbrev pub around_of : Surroundings → Around
around_of s = record {
  control = option_map (λ path. path.now) s.control;
  events = option_map (λ path. path.now) s.events;
  is_typed = s.is_typed;
  is_shown = s.is_shown;
}

-- ---- what is asked

-- whether a word was given, as clap writes it
abbrev pub flag_of : Text → List Row → Bool
flag_of name rows = option_map_or (λ text. bytes_eq text (codes "true")) (first_of name rows) false

-- what an option says, or what is usual without it
abbrev pub path_in : Text → Option Text → List Row → Option Text
path_in name usual rows = option_map_or (λ path. Some path) (first_of name rows) usual

-- one of two, where just one is given
abbrev pub only_one : Option Text → Option Text → Option Text
only_one (Some one) None = Some one
only_one None other = other
only_one (Some one) (Some other) = None

-- the file, behind an option or alone
abbrev pub file_in : List Row → Option Text
file_in rows = only_one (first_of (codes "config") rows) (first_of (codes "FILE") rows)

-- the line that words make, as much of it as is sent; a word with a line feed would make several
abbrev pub line_of : List Text → Option (Option (List ℕ))
line_of words =
    if list_any has_feed words then None else Some (Some (take 129 (joined words) ++ 10 ∷ []))

abbrev pub line_in : List Row → Option (Option (List ℕ))
line_in rows = option_map_or line_of (all_of (codes "WORDS") rows) (Some None)

abbrev pub nonzero : ℕ → Option ℕ
nonzero n = if n == 0 then None else Some n

-- 1 to 86400 seconds, and 5 where no word says how many
abbrev pub seconds_in : List Row → Option ℕ
seconds_in rows =
    option_map_or (λ text. option_and_then nonzero (number_of 86400 text)) (first_of (codes "timeout") rows) (Some 5)

-- tables where that is said, else names where that is said or a terminal gets them
abbrev pub form_in : Bool → List Row → Form
form_in is_shown rows =
    if flag_of (codes "toml") rows then Tables
    else if flag_of (codes "explain") rows || is_shown then Explained
    else Plain

-- tables are made of a list alone
abbrev pub suits : Form → Option (List ℕ) → Bool
suits Tables line = option_map_or (λ text. bytes_eq text (codes "list\n")) line false
suits form line = true

abbrev pub asked_as : Text → Option (List ℕ) → Form → ℕ → Option Wanted
asked_as path line form seconds = if suits form line then Some (Ask path line seconds form) else None

-- what the arguments of each command ask
abbrev pub check_in : Bool → List Row → Wanted
check_in is_typed rows = option_map_or CheckFile (first_of (codes "FILE") rows) (Check is_typed)

abbrev pub run_in : List Row → Option Wanted
run_in rows = option_map (λ file. Run file (flag_of (codes "quiet") rows)) (file_in rows)

abbrev pub request_at : Around → List Row → Text → Option Wanted
request_at around rows path =
    option_and_then (λ line. option_and_then (asked_as path line (form_in around.is_shown rows)) (seconds_in rows))
    (line_in rows)

abbrev pub request_in : Around → List Row → Option Wanted
request_in around rows =
    option_and_then (request_at around rows) (path_in (codes "control") around.control rows)

abbrev pub watch_in : Around → List Row → Option Wanted
watch_in around rows =
    option_map (λ path. Watch path (flag_of (codes "json") rows)) (path_in (codes "events") around.events rows)

-- names, of which there are at most eight
abbrev pub names_of : List Text → Option (List Text)
names_of names = if nat_le (length names) 8 then Some names else None

abbrev pub names_in : List Row → Option (List Text)
names_in rows = option_map_or names_of (all_of (codes "name") rows) (Some [])

-- a folder of journal files, whose path has at most 100 bytes
abbrev pub folder_of : Text → Option (Option Text)
folder_of path = if nat_le (length path) 100 then Some (Some path) else None

abbrev pub folder_in : List Row → Option (Option Text)
folder_in rows = option_map_or folder_of (first_of (codes "journals") rows) (Some None)

abbrev pub web_with : Address → List Row → Text → List Text → Option Wanted
web_with listen rows control names =
    option_map (λ journals. Web listen control (first_of (codes "events") rows) journals names) (folder_in rows)

abbrev pub web_by : Address → List Row → Option Wanted
web_by listen rows =
    option_and_then (λ control. option_and_then (web_with listen rows control) (names_in rows))
    (first_of (codes "control") rows)

abbrev pub web_in : List Row → Option Wanted
web_in rows = option_and_then (λ text. option_and_then (λ listen. web_by listen rows) (address_of text))
    (first_of (codes "listen") rows)

-- what is asked by the command that was met, and its arguments
abbrev pub asked_in : Around → Option (Text × List Row) → Option Wanted
asked_in around None = Some (Check around.is_typed)
asked_in around (Some met) =
    if bytes_eq met.0 (codes "run") then run_in met.1
    else if bytes_eq met.0 (codes "ask") then request_in around met.1
    else if bytes_eq met.0 (codes "watch") then watch_in around met.1
    else if bytes_eq met.0 (codes "web") then web_in met.1
    else if bytes_eq met.0 (codes "key") then Some MakeKey
    else Some (check_in around.is_typed met.1)

-- what is asked where clap answers by an error of this kind
abbrev pub answer_to : ErrorKind → Option Wanted
answer_to DisplayHelp = Some Help
answer_to DisplayVersion = Some Version
answer_to kind = None

-- why words for which clap has an error of this kind ask nothing
abbrev pub unasked_by : ErrorKind → Unasked
unasked_by OutOfMemory = NoMemory
unasked_by kind = Usage

-- what is asked where these faults are found: of several kinds, of which one is told, any
abbrev pub IsAskedBy : Around → Kinds → Option (Text × List Row) → Option Wanted → Type 0
IsAskedBy around [] met asked = asked ≡ asked_in around met
IsAskedBy around (first ∷ kinds) met asked =
    (kind : ErrorKind) × IsAmong kind (first ∷ kinds) × (asked ≡ answer_to kind)

-- what the words ask in these surroundings, nothing where they are refused
abbrev pub IsAsked : Around → List (List ℕ) → Option Wanted → Type 0
IsAsked around words asked = IsAskedBy around (fault_of program words) (subcommand_of program words) asked
