-- HMAC with SHA-256 (RFC 2104), as a function on lists of bytes.
use Rattle.std.specs.Prelude.{ℕ, ◌-◌, List, ◌++◌, length, map, replicate, bit_xor, nat_lt, if◌then◌else◌}
use Rattle.sha2.specs.Sha256.{sha256}

-- the bytes of a block of SHA-256
abbrev pub block_bytes : ℕ
block_bytes = 64

-- ipad
abbrev pub inner_mask : ℕ
inner_mask = 0x36

-- opad
abbrev pub outer_mask : ℕ
outer_mask = 0x5c

-- a key of a block at most; of a longer one the digest
abbrev pub short_key : List ℕ → List ℕ
short_key key = if nat_lt block_bytes (length key) then sha256 key else key

-- bytes with zeros behind them up to a block
abbrev pub filled : List ℕ → List ℕ
filled bytes = bytes ++ replicate (block_bytes - length bytes) 0

-- the key, filled up to a block
abbrev pub block_of : List ℕ → List ℕ
block_of key = filled (short_key key)

-- each byte of a block, masked
abbrev pub masked : ℕ → List ℕ → List ℕ
masked mask block = map (λ byte. bit_xor byte mask) block

-- H(K XOR opad, H(K XOR ipad, text)), of a key K that is filled up to a block
unfoldable pub hmac_by : List ℕ → List ℕ → List ℕ
hmac_by block text = sha256 (masked outer_mask block ++ sha256 (masked inner_mask block ++ text))

-- the HMAC of a text by a key
abbrev pub hmac : List ℕ → List ℕ → List ℕ
hmac key text = hmac_by (block_of key) text
