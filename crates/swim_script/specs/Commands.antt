-- What a line of a script says.
use Rattle.std.specs.Prelude.{◌≡◌, ℕ, Bool, true, ◌==◌, ◌&&◌, List, [], ◌∷◌, Option, Some, None, Result, Ok, Err, codes}
use Rattle.std.specs.Prelude.{if◌then◌else◌}
use Rattle.std.specs.Str.{bytes_eq}
use Rattle.swim_wire.specs.Arguments.{◌>>=◌, nothing_left}
use Rattle.swim_text.specs.Words.{words_of}
use Rattle.swim_script.specs.declared.commands.LineFault.{LineFault}
use Rattle.swim_script.specs.declared.commands.LineFault.TheVariants as faults
use Rattle.swim_script.specs.declared.commands.Draws.TheVariants.{Scripted, Seeded}
use Rattle.swim_script.specs.declared.commands.Stage.{Stage}
use Rattle.swim_script.specs.declared.commands.Stage.TheVariants.{Blank, Header, Events}
use Rattle.swim_script.specs.declared.commands.Word.{Word}
use Rattle.swim_script.specs.declared.commands.Word.TheVariants as words
use Rattle.swim_script.specs.declared.commands.Command.{Command}
use Rattle.swim_script.specs.declared.commands.Command.TheVariants.{Open, Row as RowLine, Order, Place, Seed, Wire}
use Rattle.swim_script.specs.declared.commands.Command.TheVariants.{Tick, Hear, Join}
use Rattle.swim_script.specs.declared.commands.Command.TheVariants.{Remove, Table, Gap, Answer}
use Rattle.swim_script.specs.Arguments.{take_id, take_number, take_peer, take_order, take_seed, take_life, take_state}
use Rattle.swim_script.specs.Arguments.{take_datagram}
use Rattle.swim_script.specs.Arguments.{open_arguments, take_version}
use Rattle.swim_script.specs.declared.forms.Form.{Form}
use Rattle.swim_script.specs.declared.forms.Form.TheVariants.{Script, Journal}

-- the word that tells a fault of a line's words
abbrev pub fault_name : LineFault → List ℕ
fault_name faults.Word = codes "word"
fault_name faults.Seed = codes "seed"
fault_name faults.Number = codes "number"
fault_name faults.Peer = codes "peer"
fault_name faults.Hex = codes "hex"
fault_name faults.Order = codes "order"
fault_name faults.Extra = codes "extra"

-- the first word of a line, if it is known
abbrev pub word_of : List ℕ → Option Word
word_of text =
    if bytes_eq text (codes "tick") then Some words.Tick
    else (if bytes_eq text (codes "hear") then Some words.Hear
    else (if bytes_eq text (codes "join") then Some words.Join
    else (if bytes_eq text (codes "remove") then Some words.Remove
    else (if bytes_eq text (codes "table") then Some words.Table
    else (if bytes_eq text (codes "gap") then Some words.Gap
    else (if bytes_eq text (codes "row") then Some words.Row
    else (if bytes_eq text (codes "order") then Some words.Order
    else (if bytes_eq text (codes "place") then Some words.Place
    else (if bytes_eq text (codes "seed") then Some words.Seed
    else (if bytes_eq text (codes "wire") then Some words.Wire
    else (if bytes_eq text (codes "open") then Some words.Open else None)))))))))))

-- why a word can't stand at that stage, if it can't: the opening stands first and once, header lines stand
-- before event lines, a seed stands once, with no order and no place, and a version once
abbrev pub fault_of_word : Stage → Word → Option LineFault
fault_of_word Blank words.Open = None
fault_of_word Blank word = Some faults.Word
fault_of_word stage words.Open = Some faults.Word
fault_of_word (Header draws wired) words.Answer = Some faults.Word
fault_of_word Events words.Row = Some faults.Word
fault_of_word Events words.Order = Some faults.Word
fault_of_word Events words.Place = Some faults.Word
fault_of_word Events words.Seed = Some faults.Word
fault_of_word Events words.Wire = Some faults.Word
fault_of_word (Header draws true) words.Wire = Some faults.Word
fault_of_word (Header Scripted wired) words.Seed = Some faults.Seed
fault_of_word (Header Seeded wired) words.Seed = Some faults.Seed
fault_of_word (Header Seeded wired) words.Order = Some faults.Seed
fault_of_word (Header Seeded wired) words.Place = Some faults.Seed
fault_of_word stage word = None

-- the command, where no words are left over
abbrev pub alone : Command → List (List ℕ) → Result Command LineFault
alone command after = nothing_left faults.Extra after >>= λ done. Ok command

-- what the words after the first say in a script of that form
unfoldable pub command_after : Form → Word → List (List ℕ) → Result Command LineFault
command_after form words.Open given = do
  arguments ← open_arguments given
  alone (Open arguments.0) arguments.1
command_after form words.Row given = do
  id ← take_id given
  peer ← take_peer id.1
  state ← take_state form peer.1
  alone (RowLine (record { id = id.0; peer = peer.0; state = state.0 })) state.1
command_after form words.Order given = do
  order ← take_order given
  alone (Order order.0) order.1
command_after form words.Place given = do
  place ← take_number 4294967295 given
  alone (Place place.0) place.1
command_after form words.Seed given = do
  seed ← take_seed given
  life ← take_life form seed.1
  alone (Seed seed.0 life.0) life.1
command_after form words.Wire given = do
  version ← take_version given
  alone (Wire version.0) version.1
command_after form words.Tick given = alone Tick given
command_after form words.Hear given = do
  peer ← take_peer given
  datagram ← take_datagram peer.1
  alone (Hear peer.0 datagram.0) datagram.1
command_after form words.Join given = do
  id ← take_id given
  peer ← take_peer id.1
  alone (Join id.0 peer.0) peer.1
command_after form words.Remove given = do
  id ← take_id given
  alone (Remove id.0) id.1
command_after form words.Table given = alone Table given
command_after form words.Gap given = do
  id ← take_id given
  alone (Gap id.0) id.1
command_after form words.Answer given = Err faults.Word

-- what the words after a known first word say, where it may stand
abbrev pub word_read : Form → Option LineFault → Word → List (List ℕ) → Result Command LineFault
word_read form None word after = command_after form word after
word_read form (Some fault) word after = Err fault

-- what the words after the first say, if that is known
abbrev pub known_read : Form → Stage → Option Word → List (List ℕ) → Result Command LineFault
known_read form stage None after = Err faults.Word
known_read form stage (Some word) after = word_read form (fault_of_word stage word) word after

-- what the words of a line say
abbrev pub words_read : Form → Stage → List (List ℕ) → Result Command LineFault
words_read form stage [] = Err faults.Word
words_read form stage (word ∷ after) = known_read form stage (word_of word) after

-- an empty line or a comment
abbrev pub is_skipped : List ℕ → Bool
is_skipped [] = true
is_skipped (first ∷ others) = first == 35

-- what a line says at that stage; nothing where it is skipped
abbrev pub said_by : Result Command LineFault → Result (Option Command) LineFault
said_by (Ok command) = Ok (Some command)
said_by (Err fault) = Err fault

-- what stands behind `= ` in a line that begins so
abbrev pub behind_sign : List ℕ → Option (List ℕ)
behind_sign [] = None
behind_sign (first ∷ []) = None
behind_sign (first ∷ second ∷ text) = if first == 61 && second == 32 then Some text else None

-- in a journal file such a line tells what was answered, and stands among event lines
abbrev pub answer_in : Form → List ℕ → Option (List ℕ)
answer_in Script line = None
answer_in Journal line = behind_sign line

abbrev pub answer_read : Stage → List ℕ → Result (Option Command) LineFault
answer_read Events text = Ok (Some (Answer text))
answer_read stage text = Err faults.Word

abbrev pub unskipped_read : Form → Stage → List ℕ → Option (List ℕ) → Result (Option Command) LineFault
unskipped_read form stage line (Some text) = answer_read stage text
unskipped_read form stage line None = said_by (words_read form stage (words_of line))

abbrev pub line_read : Form → Stage → List ℕ → Result (Option Command) LineFault
line_read form stage line = if is_skipped line then Ok None else unskipped_read form stage line (answer_in form line)

-- the first word of a line that says this
abbrev pub word_for : Command → Word
word_for (Open arguments) = words.Open
word_for (RowLine row) = words.Row
word_for (Order order) = words.Order
word_for (Place place) = words.Place
word_for (Seed key life) = words.Seed
word_for (Wire version) = words.Wire
word_for Tick = words.Tick
word_for (Hear peer datagram) = words.Hear
word_for (Join id peer) = words.Join
word_for (Remove id) = words.Remove
word_for Table = words.Table
word_for (Gap id) = words.Gap
word_for (Answer text) = words.Answer

-- what a line says may stand at that stage
abbrev pub LineStandsAt : Stage → Result (Option Command) LineFault → Type 0
LineStandsAt stage (Ok (Some command)) = fault_of_word stage (word_for command) ≡ None
LineStandsAt stage (Ok None) = Unit {0}
LineStandsAt stage (Err fault) = Unit {0}
