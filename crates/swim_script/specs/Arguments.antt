-- What the arguments of a line say.
use Rattle.std.specs.Prelude.{ℕ, nat_lt, List, [], ◌∷◌, length, Option, Some, None, Result, Ok, Err, if◌then◌else◌}
use Rattle.std.specs.Prelude.{option_and_then, codes, ◌==◌}
use Rattle.std.specs.Option.{option_map}
use Rattle.std.specs.Str.{bytes_eq}
use Rattle.std.specs.Result.{result_ok}
use Rattle.arrayvec.specs.ArrayVec.{ArrayVec}
use Rattle.hex.specs.Hex.{decode_of, decode_sized}
use Rattle.swim_wire.specs.Address.{Address, address_of}
use Rattle.swim_wire.specs.Arguments.{◌>>=◌, argument}
use Rattle.swim_text.specs.Numbers.{number_of}
use Rattle.swim_wire.specs.Ids.{id_of}
use Rattle.swim_wire.specs.Layout.{decoded}
use Rattle.swim_text.specs.Words.{words_by}
use Rattle.swim_wire.specs.Messages.{Message}
use Rattle.swim_wire.specs.declared.codec.WireFault.{WireFault}
use Rattle.swim_wire.specs.declared.messages.Version.{Version}
use Rattle.swim_wire.specs.declared.messages.Version.TheVariants.{One, Two}
use Rattle.swim_history.specs.declared.rows.RowState.{RowState}
use Rattle.swim_history.specs.declared.rows.RowState.TheVariants.{Up, Failed}
use Rattle.swim_script.specs.declared.commands.LineFault.{LineFault}
use Rattle.swim_script.specs.declared.commands.LineFault.TheVariants.{Number, Peer, Hex, Order, Extra}
use Rattle.swim_script.specs.declared.arguments.OpenArguments.{OpenArguments}
use Rattle.swim_script.specs.declared.forms.Form.{Form}
use Rattle.swim_script.specs.declared.forms.Form.TheVariants.{Script, Journal}

-- the datagram that the digits spell, or its fault
abbrev pub datagram_of : List ℕ → Option (Result Message WireFault)
datagram_of text = option_map decoded (result_ok (decode_of text))

-- the 32 bytes that 64 digits spell
abbrev pub seed_of : List ℕ → Option (List ℕ)
seed_of text = result_ok (decode_sized text 32)

-- the ids that the words are, if each of them is one
abbrev pub ids_of : List (List ℕ) → Option (List ℕ)
ids_of [] = Some []
ids_of (word ∷ words) = option_and_then (λ id. option_map (λ ids. id ∷ ids) (ids_of words)) (id_of word)

-- the order of these ids, at most 128
abbrev pub order_within : Option (List ℕ) → Result (ArrayVec ℕ) LineFault
order_within None = Err Number
order_within (Some ids) = if nat_lt 128 (length ids) then Err Order else Ok (record { items = ids })

-- the order of the ids that stand in the text with commas between
abbrev pub order_of : List ℕ → Result (ArrayVec ℕ) LineFault
order_of text = order_within (ids_of (words_by 44 text))

-- the order that was read, and an empty one where it was not
abbrev pub order_read : Result (ArrayVec ℕ) LineFault → ArrayVec ℕ
order_read (Ok order) = order
order_read (Err fault) = record { items = [] }

-- an id, numbers of 32 and 64 bits, an address, a datagram, a seed
abbrev pub take_id : List (List ℕ) → Result (ℕ × List (List ℕ)) LineFault
take_id = argument Number id_of

abbrev pub take_number : ℕ → List (List ℕ) → Result (ℕ × List (List ℕ)) LineFault
take_number limit = argument Number (number_of limit)

abbrev pub take_peer : List (List ℕ) → Result (Address × List (List ℕ)) LineFault
take_peer = argument Peer address_of

abbrev pub take_datagram : List (List ℕ) → Result (Result Message WireFault × List (List ℕ)) LineFault
take_datagram = argument Hex datagram_of

abbrev pub take_seed : List (List ℕ) → Result (List ℕ × List (List ℕ)) LineFault
take_seed = argument Hex seed_of

-- the version of that number
abbrev pub version_of : ℕ → Option Version
version_of number = if number == 1 then Some One else (if number == 2 then Some Two else None)

-- a version, by its number
abbrev pub take_version : List (List ℕ) → Result (Version × List (List ℕ)) LineFault
take_version = argument Number (λ text. option_and_then version_of (number_of 2 text))

-- the life of a detector that a seed is followed in: a journal file may tell it, and 0 where none is told
abbrev pub take_life : Form → List (List ℕ) → Result (ℕ × List (List ℕ)) LineFault
take_life Script given = Ok (0, given)
take_life Journal [] = Ok (0, [])
take_life Journal (word ∷ after) = take_number 18446744073709551615 (word ∷ after)

-- the state of a row's member, of which the first word is this one: it failed in the period of the number behind it
abbrev pub state_told : List ℕ → List (List ℕ) → Result (RowState × List (List ℕ)) LineFault
state_told word after = if bytes_eq word (codes "failed") then (do
  number ← take_number 18446744073709551615 after
  Ok (Failed number.0, number.1)) else Err Extra

-- a journal file may tell it, and the member is up where nothing is told
abbrev pub take_state : Form → List (List ℕ) → Result (RowState × List (List ℕ)) LineFault
take_state Script given = Ok (Up, given)
take_state Journal [] = Ok (Up, [])
take_state Journal (word ∷ after) = state_told word after

-- an order
abbrev pub take_order : List (List ℕ) → Result (ArrayVec ℕ × List (List ℕ)) LineFault
take_order [] = Err Number
take_order (word ∷ after) = do
  order ← order_of word
  Ok (order, after)

-- the arguments of an `open` line
unfoldable pub open_arguments : List (List ℕ) → Result (OpenArguments × List (List ℕ)) LineFault
open_arguments given = do
  me ← take_id given
  k ← take_number 4294967295 me.1
  rtt ← take_number 4294967295 k.1
  period ← take_number 4294967295 rtt.1
  last ← take_number 18446744073709551615 period.1
  limit ← take_number 4294967295 last.1
  Ok (record { me = me.0; k = k.0; rtt = rtt.0; period = period.0; last = last.0; limit = limit.0 }, limit.1)
