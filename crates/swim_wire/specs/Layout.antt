-- The layout of a datagram: the one text of a message, and the first fault of bytes that are none.
use Rattle.std.specs.Prelude.{◌≡◌, ℕ, ◌+◌, ◌<◌, ◌^◌, Bool, not, ◌&&◌, ◌||◌, ◌==◌, nat_lt, List, [], ◌∷◌, ◌++◌, length}
use Rattle.std.specs.Prelude.{take, drop, slice_index, Option, find, if◌then◌else◌, Some, None, IfSome, Result, Ok, Err}
use Rattle.std.specs.Int.{w16, w32, w64, to_be_bytes, from_be_bytes}
use Rattle.swim_wire.specs.Address.{Address, IsAddress}
use Rattle.swim_wire.specs.Messages.{Message, carries, IsFormed}
use Rattle.swim_wire.specs.declared.messages.Kind.{Kind}
use Rattle.swim_wire.specs.declared.messages.Kind.TheVariants.{Ping, PingReq, Ack}
use Rattle.swim_wire.specs.declared.messages.Version as versions
use Rattle.swim_wire.specs.declared.messages.Version.TheVariants.{One, Two}
use Rattle.swim_wire.specs.declared.codec.WireFault.{WireFault}
use Rattle.swim_wire.specs.declared.codec.WireFault.TheVariants.{Length, Magic, Version, UnknownKind, Form, ZeroId}
use Rattle.swim_wire.specs.declared.codec.WireFault.TheVariants.{ZeroNumber, ZeroPort}

-- the byte that says the version
abbrev pub version_code : versions.Version → ℕ
version_code One = 1
version_code Two = 2

-- the byte that says the kind
abbrev pub code_of : Kind → ℕ
code_of Ping = 1
code_of PingReq = 2
code_of Ack = 3

-- the bytes of an address, if there is one: four octets and the port, big-endian
abbrev pub address_bytes : Option Address → List ℕ
address_bytes None = []
address_bytes (Some peer) = peer.ip ++ to_be_bytes w16 peer.port

-- the bytes of a message: the magic bytes, the version, the kind, three ids and the period's number, big-endian, and
-- where the target is, if the message says so
abbrev pub text_of : Message → List ℕ
text_of m = 0x53 ∷ 0x57 ∷ version_code m.version ∷ code_of m.kind ∷
    (to_be_bytes w32 m.sender ++ (to_be_bytes w32 m.initiator ++ (to_be_bytes w32 m.target ++
    (to_be_bytes w64 m.number ++ address_bytes m.at))))

-- how many bytes a datagram has, by its version and kind
abbrev pub length_of : versions.Version → Kind → ℕ
length_of version kind = if carries version kind then 30 else 24

-- the address stands where one is carried; ids and number are in range, and none is 0
pub record IsSound (m : Message) : Type 0 where
  pub form : IsFormed m
  pub sender : (0 < m.sender) × (m.sender < 2 ^ 32)
  pub initiator : (0 < m.initiator) × (m.initiator < 2 ^ 32)
  pub target : (0 < m.target) × (m.target < 2 ^ 32)
  pub number : (0 < m.number) × (m.number < 2 ^ 64)
  pub at : IfSome m.at IsAddress

-- the bytes are the text of the message
pub record IsTextOf (text : List ℕ) (m : Message) : Type 0 where
  pub layout : text ≡ text_of m
  pub sound : IsSound m

-- the version of a byte that is 1 or 2
abbrev pub version_of : ℕ → versions.Version
version_of byte = if byte == 1 then One else Two

-- the kind of a byte from 1 to 3
abbrev pub kind_of : ℕ → Kind
kind_of byte = if byte == 1 then Ping else (if byte == 2 then PingReq else Ack)

-- the version and the kind, by their bytes
abbrev pub version_at : List ℕ → versions.Version
version_at bytes = version_of (slice_index bytes 2)

abbrev pub kind_at : List ℕ → Kind
kind_at bytes = kind_of (slice_index bytes 3)

-- the id at an offset
abbrev pub id_at : List ℕ → ℕ → ℕ
id_at bytes at = from_be_bytes w32 (take 4 (drop at bytes))

-- the number at an offset
abbrev pub number_at : List ℕ → ℕ → ℕ
number_at bytes at = from_be_bytes w64 (take 8 (drop at bytes))

-- the address at an offset
abbrev pub address_at : List ℕ → ℕ → Address
address_at bytes at = record { ip = take 4 (drop at bytes); port = from_be_bytes w16 (take 2 (drop (at + 4) bytes)) }

-- bytes of this version and kind carry an address
abbrev pub has_address : List ℕ → Bool
has_address bytes = carries (version_at bytes) (kind_at bytes)

-- the fault applies to the bytes
abbrev pub has_fault : List ℕ → WireFault → Bool
has_fault bytes Length = not (length bytes == 24 || length bytes == 30)
has_fault bytes Magic = not (slice_index bytes 0 == 0x53 && slice_index bytes 1 == 0x57)
has_fault bytes Version = not (slice_index bytes 2 == 1 || slice_index bytes 2 == 2)
has_fault bytes UnknownKind = slice_index bytes 3 == 0 || nat_lt 3 (slice_index bytes 3)
has_fault bytes Form = not (length bytes == length_of (version_at bytes) (kind_at bytes))
has_fault bytes ZeroId = id_at bytes 4 == 0 || id_at bytes 8 == 0 || id_at bytes 12 == 0
has_fault bytes ZeroNumber = number_at bytes 16 == 0
has_fault bytes ZeroPort = has_address bytes && (address_at bytes 24).port == 0

-- the first that applies
abbrev pub first_fault : List ℕ → Option WireFault
first_fault bytes = find (has_fault bytes)
    (Length ∷ Magic ∷ Version ∷ UnknownKind ∷ Form ∷ ZeroId ∷ ZeroNumber ∷ ZeroPort ∷ [])

-- the first that applies to bytes that have the form of a datagram
abbrev pub later_fault : List ℕ → Option WireFault
later_fault bytes = find (has_fault bytes) (ZeroId ∷ ZeroNumber ∷ ZeroPort ∷ [])

-- the fields at their offsets
abbrev pub message_at : List ℕ → Message
message_at bytes = record {
  version = version_at bytes;
  kind = kind_at bytes;
  sender = id_at bytes 4;
  initiator = id_at bytes 8;
  target = id_at bytes 12;
  number = number_at bytes 16;
  at = if has_address bytes then Some (address_at bytes 24) else None;
}

-- the number of a fault
abbrev pub fault_number : WireFault → ℕ
fault_number Length = 1
fault_number Magic = 2
fault_number Version = 3
fault_number UnknownKind = 4
fault_number ZeroId = 5
fault_number ZeroNumber = 6
fault_number Form = 7
fault_number ZeroPort = 8

-- what bytes are read as: the fields at their offsets, where no fault applies
abbrev pub read_as : Option WireFault → List ℕ → Result Message WireFault
read_as None bytes = Ok (message_at bytes)
read_as (Some fault) bytes = Err fault

abbrev pub decoded : List ℕ → Result Message WireFault
decoded bytes = read_as (first_fault bytes) bytes
