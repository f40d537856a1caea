-- Datagrams in words.
use Rattle.std.specs.Prelude.{ℕ, List, [], ◌++◌, Option, Some, None, codes, decimal}
use Rattle.swim_wire.specs.declared.messages.Kind.{Kind}
use Rattle.swim_wire.specs.declared.messages.Kind.TheVariants.{Ping, PingReq, Ack}
use Rattle.swim_wire.specs.declared.messages.Version.{Version}
use Rattle.swim_wire.specs.declared.messages.Version.TheVariants.{One, Two}
use Rattle.swim_wire.specs.Address.{Address, address_text}
use Rattle.swim_wire.specs.Messages.{Message}
use Rattle.swim_history.specs.Texts.{feed}

abbrev pub kind_name : Kind → List ℕ
kind_name Ping = codes "ping"
kind_name PingReq = codes "ping-req"
kind_name Ack = codes "ack"

-- the version, if it isn't the first
abbrev pub version_words : Version → List ℕ
version_words One = []
version_words Two = codes ", version 2"

-- where the target is, if the message says so
abbrev pub place_words : Option Address → List ℕ
place_words None = []
place_words (Some peer) = codes ", at " ++ address_text peer

-- the fields that each message has
abbrev pub field_words : Message → List ℕ
field_words message = codes "  "
    ++ (kind_name message.kind ++ (codes ": sender "
    ++ (decimal message.sender ++ (codes ", initiator "
    ++ (decimal message.initiator ++ (codes ", target "
    ++ (decimal message.target ++ (codes ", number " ++ decimal message.number))))))))

-- the line of a message
abbrev pub message_words : Message → List ℕ
message_words message =
    field_words message ++ (version_words message.version ++ (place_words message.at ++ feed))
