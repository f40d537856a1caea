-- What a control line says.
use Rattle.std.specs.Prelude.{ℕ, nat_lt, List, [], ◌∷◌, length, Option, Some, None, Result, Ok, Err, codes}
use Rattle.std.specs.Prelude.{if◌then◌else◌}
use Rattle.std.specs.Str.{bytes_eq}
use Rattle.swim_wire.specs.Address.{Address, address_of}
use Rattle.swim_wire.specs.Arguments.{◌>>=◌, argument, nothing_left}
use Rattle.swim_text.specs.Lines.{bare, has_feed}
use Rattle.swim_wire.specs.Ids.{id_of}
use Rattle.swim_text.specs.Words.{words_of}
use Rattle.swim_control.specs.declared.faults.WordFault.{WordFault}
use Rattle.swim_control.specs.declared.faults.WordFault.TheVariants.{UnknownWord, BadId, BadPeer, Extra}
use Rattle.swim_control.specs.declared.faults.Fault.{Fault}
use Rattle.swim_control.specs.declared.faults.Fault.TheVariants.{LongLine, Unended, Words}
use Rattle.swim_control.specs.declared.desks.DeskCommand.TheVariants.{List as Lists, Join, Remove, Gap, Stats, Reload}
use Rattle.swim_control.specs.declared.commands.ControlWord.{ControlWord}
use Rattle.swim_control.specs.declared.commands.ControlWord.TheVariants as words
use Rattle.swim_control.specs.declared.commands.Said.{Said}
use Rattle.swim_control.specs.declared.commands.Said.TheVariants.{Stop, Asks}

-- the number of a fault
abbrev pub fault_number : Fault → ℕ
fault_number LongLine = 1
fault_number (Words UnknownWord) = 2
fault_number (Words BadId) = 3
fault_number (Words BadPeer) = 4
fault_number (Words Extra) = 5
fault_number Unended = 6

-- the first word of a line, if it is known
abbrev pub word_of : List ℕ → Option ControlWord
word_of text =
    if bytes_eq text (codes "list") then Some words.List
    else (if bytes_eq text (codes "join") then Some words.Join
    else (if bytes_eq text (codes "remove") then Some words.Remove
    else (if bytes_eq text (codes "gap") then Some words.Gap
    else (if bytes_eq text (codes "stats") then Some words.Stats
    else (if bytes_eq text (codes "reload") then Some words.Reload
    else (if bytes_eq text (codes "stop") then Some words.Stop else None))))))

-- an id, an address
abbrev pub take_id : List (List ℕ) → Result (ℕ × List (List ℕ)) WordFault
take_id = argument BadId id_of

abbrev pub take_peer : List (List ℕ) → Result (Address × List (List ℕ)) WordFault
take_peer = argument BadPeer address_of

-- what a line says, where no words are left over
abbrev pub alone : Said → List (List ℕ) → Result Said WordFault
alone said after = nothing_left Extra after >>= λ done. Ok said

-- what the words after the first say
unfoldable pub said_after : ControlWord → List (List ℕ) → Result Said WordFault
said_after words.List given = alone (Asks Lists) given
said_after words.Join given = do
  id ← take_id given
  peer ← take_peer id.1
  alone (Asks (Join id.0 peer.0)) peer.1
said_after words.Remove given = do
  id ← take_id given
  alone (Asks (Remove id.0)) id.1
said_after words.Gap given = do
  id ← take_id given
  alone (Asks (Gap id.0)) id.1
said_after words.Stats given = alone (Asks Stats) given
said_after words.Reload given = alone (Asks Reload) given
said_after words.Stop given = alone Stop given

-- what the words after the first say, if that is known
abbrev pub known_said : Option ControlWord → List (List ℕ) → Result Said WordFault
known_said None after = Err UnknownWord
known_said (Some word) after = said_after word after

abbrev pub words_said : List (List ℕ) → Result Said WordFault
words_said [] = Err UnknownWord
words_said (word ∷ after) = known_said (word_of word) after

-- what a line says, that has at most 128 bytes
abbrev pub line_said : List ℕ → Result Said WordFault
line_said line = words_said (words_of line)

abbrev pub said_by : Result Said WordFault → Result Said Fault
said_by (Ok said) = Ok said
said_by (Err fault) = Err (Words fault)

-- what a line says, or the first fault that applies to it; it has its line feed, if the input did not end before it
abbrev pub said : List ℕ → Result Said Fault
said line =
    if nat_lt 128 (length (bare line)) then Err LongLine
    else (if has_feed line then said_by (line_said (bare line)) else Err Unended)
