-- The texts of answers.
use Rattle.std.specs.Prelude.{ℕ, List, [], ◌∷◌, ◌++◌, length, Option, Some, None, codes, decimal}
use Rattle.hex.specs.Hex.{encode_lower}
use Rattle.swim_wire.specs.Address.{Address, address_text}
use Rattle.swim_wire.specs.Layout.{text_of, fault_number}
use Rattle.swim_wire.specs.Messages.{Message}
use Rattle.swim_wire.specs.declared.codec.WireFault.{WireFault}
use Rattle.swim_history.specs.declared.replies.Reply.{Reply}
use Rattle.swim_history.specs.declared.entries.Entry.{Entry}
use Rattle.swim_history.specs.declared.replies.Reply.TheVariants.{Quiet, Started, Asked, Heard, Send, Dropped, Joined}
use Rattle.swim_history.specs.declared.replies.Reply.TheVariants.{Removed, Refused}
use Rattle.swim_history.specs.declared.replies.Probe.{Probe}
use Rattle.swim_history.specs.declared.replies.Relay.{Relay}
use Rattle.swim_history.specs.Reasons.{drop_number, refusal_number}
use Rattle.swim_history.specs.Sends.{sends_of}
use Rattle.swim_history.specs.Setting.{Setting}
use Rattle.swim_history.specs.Texts.{feed}

-- an id, or `-` for none
abbrev pub id_text : Option ℕ → List ℕ
id_text None = codes "-"
id_text (Some id) = decimal id

-- whom a period probes, and its number
abbrev pub probe_text : Option Probe → List ℕ
probe_text None = codes "-"
probe_text (Some probe) = decimal probe.target ++ (codes " " ++ decimal probe.number)

-- the relays' ids separated by commas, or `-` for none
abbrev pub more_relays_text : List Relay → List ℕ
more_relays_text [] = []
more_relays_text (relay ∷ relays) = codes "," ++ (decimal relay.id ++ more_relays_text relays)

abbrev pub relays_text : List Relay → List ℕ
relays_text [] = codes "-"
relays_text (relay ∷ relays) = decimal relay.id ++ more_relays_text relays

-- the text of a reply, without its line feed
abbrev pub reply_text : Reply → List ℕ
reply_text Quiet = codes "quiet"
reply_text (Started judged probe) = codes "started judged " ++ (id_text judged ++ (codes " probe " ++ probe_text probe))
reply_text (Asked target peer number relays) =
    codes "asked " ++ (decimal target ++ (codes " " ++ (decimal number ++ (codes " by " ++ relays_text relays.items))))
reply_text Heard = codes "heard"
reply_text (Send peer message) = codes "sent"
reply_text (Dropped why) = codes "dropped " ++ decimal (drop_number why)
reply_text (Joined place) = codes "joined " ++ decimal place
reply_text Removed = codes "removed"
reply_text (Refused why) = codes "refused " ++ decimal (refusal_number why)

-- what is told of the newest entry: its place, and what was answered
abbrev pub placed_text : ℕ → Reply → List ℕ
placed_text place reply = decimal place ++ (codes " " ++ reply_text reply)

abbrev pub newest_text : List Entry → Option (List ℕ)
newest_text [] = None
newest_text (e ∷ before) = Some (placed_text (length before) e.reply)

-- the line of a message that is sent: its address and its datagram
abbrev pub datagram_text : Message → List ℕ
datagram_text message = codes " " ++ (encode_lower (text_of message) ++ feed)

abbrev pub send_text : Address × Message → List ℕ
send_text sent = codes "> " ++ (address_text sent.0 ++ datagram_text sent.1)

abbrev pub sends_text : List (Address × Message) → List ℕ
sends_text [] = []
sends_text (sent ∷ others) = send_text sent ++ sends_text others

-- the lines of a reply: its text, and a line for each message that it sends
abbrev pub answer_text : Setting → Reply → List ℕ
answer_text o reply = reply_text reply ++ (feed ++ sends_text (sends_of reply o))

-- the line of a datagram that is none
abbrev pub wire_text : WireFault → List ℕ
wire_text fault = codes "wire " ++ (decimal (fault_number fault) ++ feed)

abbrev pub full_text : List ℕ
full_text = codes "journal full\n"

abbrev pub no_memory_text : List ℕ
no_memory_text = codes "no memory\n"
