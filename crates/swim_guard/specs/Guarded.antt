-- What is handed on where a group has keys.
use Rattle.std.specs.Prelude.{◌≡◌, ℕ, ◌<◌, ◌≤◌, Bool, false, List, [], ◌∷◌, ◌++◌, length, take, map, flat_map}
use Rattle.std.specs.Prelude.{Option, Some, None, nat_lt, if◌then◌else◌, option_and_then}
use Rattle.std.specs.Option.{option_map, option_to_list}
use Rattle.swim_wire.specs.Address.{Address}
use Rattle.swim_trail.specs.Growing.{Grows}
use Rattle.swim_keys.specs.Sealing.{Keyring, opened, sealed}
use Rattle.swim_work.specs.declared.lines.Got.{Got}
use Rattle.swim_work.specs.declared.lines.Got.TheVariants.{Datagram, Idle}
use Rattle.swim_work.specs.Gates.{Received}
use Rattle.swim_work.specs.Posts.{Posted}
use Rattle.swim_guard.specs.declared.thrown.Thrown.{Thrown}
use Rattle.swim_guard.specs.Each.{all_by, in_front}
use Rattle.swim_guard.specs.Thrown.{one_thrown}

-- the text of a datagram's bytes: all of them where there are no keys; else those in front of a tag by one of the keys
abbrev pub text_by : Option Keyring → List ℕ → Option (List ℕ)
text_by None bytes = Some bytes
text_by (Some ring) bytes = opened ring bytes

-- the bytes that are sent for a text: itself where there are no keys, else with its tag by the first key
abbrev pub signed_by : Option Keyring → List ℕ → List ℕ
signed_by None text = text
signed_by (Some ring) text = sealed ring.signing text

-- a datagram of this text, if there is one
abbrev pub with_text : Address → Option (List ℕ) → Got
with_text source None = Idle
with_text source (Some text) = Datagram (length text) source

-- the bytes of the longest datagram
abbrev pub longest_datagram_bytes : ℕ
longest_datagram_bytes = 30

-- what is given of what was got: a datagram with its text in front of the buffer, and without a text nothing
abbrev pub given : Option Keyring → Got → List ℕ → Got
given keys (Datagram count source) bytes = with_text source (text_by keys (take count bytes))
given keys got bytes = got

-- the same, with the buffer, which stays as it is
abbrev pub handed_on : Option Keyring → Received → Received
handed_on keys r = record { got = given keys r.got r.bytes; bytes = r.bytes }

-- what the line below got, and the keys by which it was judged
pub record Judged : Type 0 where
  pub keys : Option Keyring
  pub below : Received

-- what is handed on of it
abbrev pub handed : Judged → Received
handed j = handed_on j.keys j.below

-- all that is handed on of what the line below gave so far, each by the keys at its place
abbrev pub heard_by : Option (List Received) → List (Option Keyring) → Option (List Received)
heard_by below keys = all_by handed_on below keys

-- the keys by which it was judged
abbrev pub keys_in : List Judged → List (Option Keyring)
keys_in judged = map (λ j. j.keys) judged

-- where a datagram without a text came from
abbrev pub stranger_of : Address → Option (List ℕ) → Option Address
stranger_of source None = Some source
stranger_of source (Some text) = None

-- where what was got came from, if it is a datagram that is thrown away
abbrev pub stranger : Option Keyring → Got → List ℕ → Option Address
stranger keys (Datagram count source) bytes = stranger_of source (text_by keys (take count bytes))
stranger keys got bytes = None

-- the keys that were answered, and what asked for them, as it was then
pub record AnsweredKeys (B : Type 0) : Type 0 where
  pub keys : Option Keyring
  pub by : B

-- what a contract sees of who looks up the keys that are in force: those that it has, and what it answered so far,
-- oldest first
pub record AtKeys (B : Type 0) : Type 0 where
  pub keys : Option Keyring
  pub answered : List (AnsweredKeys B)

-- it was asked once, when what asks was like that, and answered these
abbrev pub Answers : {B : Type 0} → AtKeys B → B → Option Keyring → AtKeys B → Type 0
Answers old by keys new = new.answered ≡ old.answered ++ record { keys = keys; by = by } ∷ []

-- what a contract sees of a line over another: that one, who looks up its keys, what was thrown away, and what the line
-- below got so far, oldest first
pub record AtLine (L : Type 0) : Type 0 where
  pub line : L
  pub keys : AtKeys L
  pub forged : Thrown
  pub judged : List Judged

-- the text of bytes that were sent for it by these keys
abbrev pub unsigned_by : Option Keyring → List ℕ → Option (List ℕ)
unsigned_by None bytes = Some bytes
unsigned_by (Some ring) bytes = opened (record { signing = ring.signing; others = [] }) bytes

-- longer than a datagram
abbrev pub is_too_long : List ℕ → Bool
is_too_long text = nat_lt longest_datagram_bytes (length text)

-- what became of what a post was handed: a text that was kept back; or one that was handed on by these keys
pub data Sent : Type 0 where
  Kept : (text : List ℕ) → (to : Address) → Sent
  Signed : (keys : Option Keyring) → Sent

abbrev pub sent_by : List ℕ → Address → Option (Option Keyring) → Sent
sent_by text to None = Kept text to
sent_by text to (Some keys) = Signed keys

-- a text that was handed over and not taken
abbrev pub untaken : List ℕ → Address → Posted
untaken text to = record { bytes = text; to = to; is_taken = false }

-- what a post was handed that it kept back: only what is longer than a datagram is, and it isn't taken
abbrev pub kept_back : List ℕ → Address → Option Posted
kept_back text to = if is_too_long text then Some (untaken text to) else None

-- the same with this text, if it is no longer than a datagram
abbrev pub with_bytes : Posted → List ℕ → Option Posted
with_bytes p text = if is_too_long text then None else Some (record p { bytes = text })

-- what a post was handed that it handed on so by these keys
abbrev pub handed_as : Option Keyring → Posted → Option Posted
handed_as keys p = option_and_then (with_bytes p) (unsigned_by keys p.bytes)

-- all that a post was handed so far, by all that the post below was handed, each in its place. Nothing is known of it
-- where that isn't just what became of it
abbrev pub sent_each : List Sent → List Posted → Option (List Posted)
sent_each [] [] = Some []
sent_each (Kept text to ∷ rest) below = in_front (kept_back text to) (sent_each rest below)
sent_each (Signed keys ∷ rest) (p ∷ below) = in_front (handed_as keys p) (sent_each rest below)
sent_each sent below = None

-- the same, where it is known what the post below was handed
abbrev pub posted_by : Option (List Posted) → List Sent → Option (List Posted)
posted_by None sent = None
posted_by (Some below) sent = sent_each sent below

-- what a contract sees of a post over another: that one, who looks up its keys, and what it was handed so far, oldest
-- first, and what became of it
pub record AtPost (O : Type 0) : Type 0 where
  pub post : O
  pub keys : AtKeys O
  pub handed : List Posted
  pub sent : List Sent

-- what the line below got was judged by the keys that were had: it is handed on, and counted where it is thrown away
abbrev pub Judges : {L : Type 0} → AtLine L → AtLine L → Got → List ℕ → Got → Type 0
Judges old new below bytes got =
    (got ≡ given old.keys.keys below bytes)
    × (new ≡ record old {
      forged = one_thrown (stranger old.keys.keys below bytes) old.forged;
      judged = old.judged ++ record { keys = old.keys.keys; below = record { got = below; bytes = bytes } } ∷ [];
    })

-- the line below was asked once, and once it had got what it got the keys were asked for: that is judged by these
pub record HandsOn {L : Type 0} (received : L → Option (List Received)) (old new : AtLine L) (got : Got)
    (bytes : List ℕ)
    : Type 0 where
  pub below : Got
  pub keys : Option Keyring
  pub grows : Grows (received old.line) (received new.line) (record { got = below; bytes = bytes } ∷ [])
  pub asked : Answers old.keys new.line keys new.keys
  pub is : got ≡ given keys below bytes
  pub forged : new.forged ≡ one_thrown (stranger keys below bytes) old.forged
  pub judged : new.judged
      ≡ old.judged ++ record { keys = keys; below = record { got = below; bytes = bytes } } ∷ []

-- the keys were asked for once, and then the post below was handed the text as it is sent by these, as is noted
pub record HandsSigned {O : Type 0} (posted : O → Option (List Posted)) (old new : AtPost O) (text : List ℕ)
    (to : Address) (is_taken : Bool) : Type 0 where
  pub keys : Option Keyring
  pub asked : Answers old.keys old.post keys new.keys
  pub grows : Grows (posted old.post) (posted new.post)
      (record { bytes = signed_by keys text; to = to; is_taken = is_taken } ∷ [])
  pub noted : new.sent ≡ old.sent ++ Signed keys ∷ []

-- the text was kept back, as is noted: nobody was asked for keys, and the post below was handed nothing
pub record KeepsBack {O : Type 0} (old new : AtPost O) (text : List ℕ) (to : Address) (is_taken : Bool)
    : Type 0 where
  pub post : new.post ≡ old.post
  pub keys : new.keys ≡ old.keys
  pub not_taken : is_taken ≡ false
  pub noted : new.sent ≡ old.sent ++ Kept text to ∷ []

-- the post below was handed a text as it is sent; one that is longer than a datagram was kept back
abbrev pub Hands : {O : Type 0} → (O → Option (List Posted)) → AtPost O → AtPost O → List ℕ → Address → Bool → Type 0
Hands posted old new text to is_taken =
    (length text ≤ longest_datagram_bytes → HandsSigned posted old new text to is_taken)
    × (longest_datagram_bytes < length text → KeepsBack old new text to is_taken)

-- the datagram that was got, and where it came from
abbrev pub datagram_in : Got → List ℕ → Option (Address × List ℕ)
datagram_in (Datagram count source) bytes = Some (source, take count bytes)
datagram_in got bytes = None

-- the text of a datagram, and where it came from
abbrev pub text_of : Option Keyring → Address × List ℕ → Option (Address × List ℕ)
text_of keys d = option_map (λ text. (d.0, text)) (text_by keys d.1)

-- the datagrams that were got
abbrev pub datagrams : List Received → List (Address × List ℕ)
datagrams rs = flat_map (λ r. option_to_list (datagram_in r.got r.bytes)) rs

-- the texts of datagrams, without those that have none
abbrev pub texts_of : Option Keyring → List (Address × List ℕ) → List (Address × List ℕ)
texts_of keys ds = flat_map (λ d. option_to_list (text_of keys d)) ds

-- the texts of what the line below got, each by the keys by which it was judged
abbrev pub texts_judged : List Judged → List (Address × List ℕ)
texts_judged js = flat_map (λ j. texts_of j.keys (option_to_list (datagram_in j.below.got j.below.bytes))) js
