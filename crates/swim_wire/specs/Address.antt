-- An address, as contracts see a `Peer`, and how it is written.
use Rattle.std.specs.Prelude.{ℕ, ◌<◌, ◌^◌, ◌≡◌, List, [], ◌∷◌, ◌++◌, length, map, Option, Some, decimal}
use Rattle.std.specs.List.{All, join_with_byte}
use Rattle.std.specs.Option.{option_and_then}
use Rattle.swim_text.specs.Numbers.{number_of, positive_of}
use Rattle.swim_text.specs.Parts.{cut}

-- the octets of an IPv4 address, and a port
pub record Address : Type 0 where
  pub ip : List ℕ
  pub port : ℕ

-- four octets, and a port other than 0
pub record IsAddress (a : Address) : Type 0 where
  pub four : length a.ip ≡ 4
  pub octets : All (λ octet. octet < 256) a.ip
  pub port : (0 < a.port) × (a.port < 2 ^ 16)

-- the byte `.`
abbrev pub dot : ℕ
dot = 46

-- the byte `:`
abbrev pub colon : ℕ
colon = 58

-- the octets with a `.` between them, a `:` and the port, each in decimal
abbrev pub address_text : Address → List ℕ
address_text a = join_with_byte dot (map decimal a.ip) ++ colon ∷ decimal a.port

-- what the second step gives of what the first gave, and nothing where either gives nothing
infixl 10 ◌>>=◌
abbrev pub ◌>>=◌ : {A B : Type 0} → Option A → (A → Option B) → Option B
o >>= f = option_and_then f o

-- the four octets that the text is
abbrev pub ip_of : List ℕ → Option (List ℕ)
ip_of text = do
  a ← cut dot text
  b ← cut dot a.1
  c ← cut dot b.1
  first ← number_of 255 a.0
  second ← number_of 255 b.0
  third ← number_of 255 c.0
  fourth ← number_of 255 c.1
  Some (first ∷ second ∷ third ∷ fourth ∷ [])

-- the address that the text is
abbrev pub address_of : List ℕ → Option Address
address_of text = do
  parts ← cut colon text
  ip ← ip_of parts.0
  port ← positive_of 65535 parts.1
  Some (record { ip = ip; port = port })
