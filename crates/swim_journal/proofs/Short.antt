-- The lines of a journal file are no longer than a line may be.
use Rattle.std.proofs.Common.{◌≡◌, ℕ, zero, suc, ◌+◌, ◌*◌, ◌≤◌, ◌/◌, ◌%◌, Bool, true, false, cond, List, [], ◌∷◌, ◌++◌}
use Rattle.std.proofs.Common.{length, Option, Some, None, Ok, codes, decimal, get_or, refl, sym, subst, arith}
use Rattle.std.proofs.Common.{length-append}
use Rattle.std.specs.Prelude.{◌==◌, ◌||◌}
use Rattle.std.specs.Fmt.{digits, digits_onto, digit_glyph}
use Rattle.hex.specs.Hex.{encode_lower, lower_digits}
use Rattle.hex.proofs.HexLemmas.{length-encode_with}
use Rattle.swim_wire.specs.Address.{Address, IsAddress, dot, colon, address_text}
use Rattle.swim_wire.specs.AddressLaws.{four_of}
use Rattle.std.proofs.lemmas.Bool.{eqb-true, not-false}
use Rattle.swim_wire.specs.First.{find_none}
use Rattle.swim_wire.specs.Layout.{text_of, decoded, read_as, first_fault, has_fault}
use Rattle.swim_wire.specs.declared.codec.WireFault.{WireFault}
use Rattle.swim_wire.specs.declared.codec.WireFault.TheVariants.{Length, Magic, Version, UnknownKind, Form, ZeroId}
use Rattle.swim_wire.specs.declared.codec.WireFault.TheVariants.{ZeroNumber, ZeroPort}
use Rattle.swim_wire.specs.Messages.{Message}
use Rattle.swim_history.specs.declared.calls.Call.{Call}
use Rattle.swim_history.specs.declared.calls.Call.TheVariants.{Tick, Hear, Join, Remove}
use Rattle.swim_history.specs.declared.entries.Choice.{Choice}
use Rattle.swim_history.specs.declared.entries.Choice.TheVariants.{Nothing}
use Rattle.swim_history.specs.declared.entries.Entry.{Entry}
use Rattle.swim_history.specs.declared.replies.Probe.{Probe}
use Rattle.swim_history.specs.declared.replies.Relay.{Relay}
use Rattle.swim_history.specs.declared.replies.Reply.{Reply}
use Rattle.swim_history.specs.declared.replies.Reply.TheVariants.{Quiet, Started, Asked, Heard, Send, Dropped, Joined}
use Rattle.swim_history.specs.declared.replies.Reply.TheVariants.{Removed, Refused}
use Rattle.swim_history.specs.Reasons.{drop_number, refusal_number}
use Rattle.swim_history.specs.Setting.{Setting}
use Rattle.swim_history.specs.Run.{Answers}
use Rattle.swim_wire.specs.declared.messages.Kind.{Kind}
use Rattle.swim_wire.specs.declared.messages.Kind.TheVariants.{Ping, PingReq, Ack}
use Rattle.swim_script.specs.Texts.{id_text, probe_text, more_relays_text, relays_text, reply_text}
use Rattle.swim_journal.specs.Lines.{call_text, answer_text, IsDecoded, IsSpoken}

-- ---- numbers

digits_short : (count n : ℕ) (after : List ℕ) → length (digits_onto count 10 false n after) ≤ count + length after
digits_short zero n after = omega arith
digits_short (suc count) n after =
    by (n / 10 == 0) (digits_short count (n / 10) (digit_glyph false (n % 10) ∷ after))
  where
    by : (is_last : Bool) → length (digits_onto count 10 false (n / 10) (digit_glyph false (n % 10) ∷ after)) ≤
        count + length (digit_glyph false (n % 10) ∷ after) →
        length (cond is_last (digit_glyph false (n % 10) ∷ after)
        (digits_onto count 10 false (n / 10) (digit_glyph false (n % 10) ∷ after))) ≤ suc count + length after
    by true more = omega arith
    by false more = omega (arith, more)

pub number_short : (n : ℕ) → length (decimal n) ≤ 64
unfolding digits
number_short n = digits_short 64 n []

-- ---- calls

pub address_short : (p : Address) → IsAddress p → length (address_text p) ≤ 400
address_short p is = subst (λ (ip : List ℕ). length (address_text (record { ip = ip; port = p.port })) ≤ 400)
    (sym (four_of p.ip is.four)) (by (get_or p.ip 0 0) (get_or p.ip 1 0) (get_or p.ip 2 0) (get_or p.ip 3 0))
  where
    by : (a b c d : ℕ) → length (address_text (record { ip = a ∷ b ∷ c ∷ d ∷ []; port = p.port })) ≤ 400
    by a b c d =
        omega (
          arith,
          number_short a,
          number_short b,
          number_short c,
          number_short d,
          number_short p.port,
          length-append (decimal a ++ (dot ∷ (decimal b ++ (dot ∷ (decimal c ++ (dot ∷ decimal d))))))
              (colon ∷ decimal p.port),
          length-append (decimal a) (dot ∷ (decimal b ++ (dot ∷ (decimal c ++ (dot ∷ decimal d))))),
          length-append (decimal b) (dot ∷ (decimal c ++ (dot ∷ decimal d))),
          length-append (decimal c) (dot ∷ decimal d),
        )

-- what is read as a message has no more bytes than any datagram
text_short : (text : List ℕ) (m : Message) → decoded text ≡ Ok m → length text ≤ 30
text_short text m read = by (first_fault text) refl read
  where
    either : (short long : Bool) → (length text == 24) ≡ short → (length text == 30) ≡ long → (short || long) ≡ true →
        length text ≤ 30
    either true long is other some = omega (arith, eqb-true (length text) 24 is)
    either false true is other some = omega (arith, eqb-true (length text) 30 other)
    either false false is other some = absurd cc

    by : (fault : Option WireFault) → first_fault text ≡ fault → read_as fault text ≡ Ok m → length text ≤ 30
    by (Some fault) found read = absurd cc
    by None none read =
        let parts = find_none (has_fault text) Length
        (Magic ∷ Version ∷ UnknownKind ∷ Form ∷ ZeroId ∷ ZeroNumber ∷ ZeroPort ∷ []) none in
        either (length text == 24) (length text == 30) refl refl (not-false _ parts.0)

datagram_short : (m : Message) → IsDecoded m → length (encode_lower (text_of m)) ≤ 60
datagram_short m is = omega (arith, length-encode_with lower_digits (text_of m), text_short (text_of m) m is.0)

pub call_short : (call : Call) → IsSpoken call → length (call_text call) ≤ 1024
call_short Tick is = omega arith
call_short (Hear source m) is =
    omega (
      arith,
      address_short source is.1,
      length-append (address_text source) (codes " " ++ encode_lower (text_of m)),
      datagram_short m is.0,
    )
call_short (Join id peer) is =
    omega (arith, number_short id, address_short peer is.1, length-append (decimal id) (codes " " ++ address_text peer))
call_short (Remove id) is = omega (arith, number_short id)

-- ---- what was answered

id_short : (id : Option ℕ) → length (id_text id) ≤ 64
id_short None = omega arith
id_short (Some id) = number_short id

probe_short : (probe : Option Probe) → length (probe_text probe) ≤ 129
probe_short None = omega arith
probe_short (Some probe) =
    omega (
      arith,
      number_short probe.target,
      number_short probe.number,
      length-append (decimal probe.target) (codes " " ++ decimal probe.number),
    )

more_short : (relays : List Relay) → length (more_relays_text relays) ≤ 65 * length relays
more_short [] = omega arith
more_short (relay ∷ relays) =
    omega (arith, more_short relays, number_short relay.id, length-append (decimal relay.id) (more_relays_text relays))

relays_short : (relays : List Relay) → length relays ≤ 8 → length (relays_text relays) ≤ 520
relays_short [] few = omega arith
relays_short (relay ∷ relays) few =
    omega (
      arith,
      few,
      more_short relays,
      number_short relay.id,
      length-append (decimal relay.id) (more_relays_text relays),
    )

-- no more relays than may be asked
abbrev AsksFew : Reply → Type 0
AsksFew (Asked m peer number relays) = length relays.items ≤ 8
AsksFew reply = Unit {0}

asks_few : (o : Setting) (h : List Entry) (call : Call) (reply : Reply) (choice : Choice) → o.k ≤ 8 →
    Answers o h call reply choice → AsksFew reply
asks_few o h Tick (Asked m peer number relays) Nothing k given = omega (arith, given.3.count, k)
asks_few o h (Hear source m) (Asked target peer number relays) Nothing k given = by m.kind given
  where
    by : (kind : Kind) → Rattle.swim_history.specs.Run.Hears o h m source kind (Asked target peer number relays) →
        length relays.items ≤ 8
    by Ping given = absurd given
    by PingReq given = absurd given
    by Ack given = absurd given
asks_few o h call (Asked m peer number relays) choice k given = absurd given
asks_few o h call Quiet choice k given = tt
asks_few o h call (Started judged probe) choice k given = tt
asks_few o h call Heard choice k given = tt
asks_few o h call (Send peer message) choice k given = tt
asks_few o h call (Dropped why) choice k given = tt
asks_few o h call (Joined place) choice k given = tt
asks_few o h call Removed choice k given = tt
asks_few o h call (Refused why) choice k given = tt

reply_short : (reply : Reply) → AsksFew reply → length (reply_text reply) ≤ 1024
reply_short Quiet few = omega arith
reply_short (Started judged probe) few =
    omega (
      arith,
      id_short judged,
      probe_short probe,
      length-append (id_text judged) (codes " probe " ++ probe_text probe),
    )
reply_short (Asked target peer number relays) few =
    omega (
      arith,
      number_short target,
      number_short number,
      relays_short relays.items few,
      length-append (decimal target) (codes " " ++ (decimal number ++ (codes " by " ++ relays_text relays.items))),
      length-append (decimal number) (codes " by " ++ relays_text relays.items),
    )
reply_short Heard few = omega arith
reply_short (Send peer message) few = omega arith
reply_short (Dropped why) few = omega (arith, number_short (drop_number why))
reply_short (Joined place) few = omega (arith, number_short place)
reply_short Removed few = omega arith
reply_short (Refused why) few = omega (arith, number_short (refusal_number why))

pub answer_short : (o : Setting) (h : List Entry) (call : Call) (reply : Reply) (choice : Choice) (place : ℕ) →
    o.k ≤ 8 → Answers o h call reply choice → length (answer_text place reply) ≤ 2048
answer_short o h call reply choice place k given =
    omega (
      arith,
      number_short place,
      reply_short reply (asks_few o h call reply choice k given),
      length-append (decimal place) (codes " " ++ reply_text reply),
    )
