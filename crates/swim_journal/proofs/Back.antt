-- The line of a call reads back as the call.
use Rattle.std.proofs.Common.{◌≡◌, ℕ, false, List, [], ◌∷◌, ◌++◌, Some, None, Ok, codes, decimal, refl, sym, ap, ◌∙◌}
use Rattle.std.proofs.Common.{arith, append_assoc, append-nil}
use Rattle.hex.specs.Hex.{encode_lower}
use Rattle.hex.proofs.HexLemmas.{decode_of-encode_lower}
use Rattle.swim_wire.specs.Address.{Address, IsAddress, address_text}
use Rattle.swim_wire.specs.AddressLaws.{address_read}
use Rattle.swim_wire.specs.AddressWithout.{address_without}
use Rattle.swim_text.specs.Cutting.{pieces_at, bare_at}
use Rattle.swim_wire.specs.Layout.{text_of}
use Rattle.swim_text.specs.Lines.{pieces, has_feed}
use Rattle.swim_text.specs.Numbers.{positive_read}
use Rattle.swim_text.specs.Without.{both_without, number_without}
use Rattle.swim_text.specs.Words.{words_of}
use Rattle.swim_text.specs.WordLaws.{words_at, words_last}
use Rattle.swim_wire.specs.Messages.{Message}
use Rattle.swim_history.specs.declared.calls.Call.{Call}
use Rattle.swim_history.specs.declared.calls.Call.TheVariants.{Tick, Hear, Join, Remove}
use Rattle.swim_history.specs.Texts.{feed}
use Rattle.swim_script.specs.Texts.{datagram_text}
use Rattle.swim_script.specs.Arguments.{datagram_of}
use Rattle.swim_script.specs.declared.commands.Stage.{Stage}
use Rattle.swim_script.specs.declared.commands.Word.TheVariants as words
use Rattle.swim_script.specs.declared.forms.Form.TheVariants.{Journal}
use Rattle.swim_script.specs.Commands.{fault_of_word, line_read, words_read, said_by, command_after, word_for}
use Rattle.swim_journal.specs.Lines.{call_text, call_line, command_of, IsId, IsDecoded, IsSpoken, IsReadBack}
use Rattle.swim_journal.proofs.Short.{call_short}
use Rattle.swim_journal.proofs.Without.{hex_without}

-- ---- calls

tick_says : (stage : Stage) → fault_of_word stage words.Tick ≡ None →
    line_read Journal stage (call_text Tick) ≡ Ok (Some (command_of Tick))
unfolding command_after
tick_says stage may = rw may refl

remove_says : (stage : Stage) (id : ℕ) → fault_of_word stage words.Remove ≡ None → IsId id →
    line_read Journal stage (call_text (Remove id)) ≡ Ok (Some (command_of (Remove id)))
unfolding command_after
remove_says stage id may is =
    let words : words_of (call_text (Remove id)) ≡ codes "remove" ∷ decimal id ∷ [] =
    words_at (codes "remove") (decimal id) refl ∙
    ap (λ l. codes "remove" ∷ l) (words_last (decimal id) (number_without 32 id (omega arith))) in
    ap (λ l. said_by (words_read Journal stage l)) words ∙
    rw (may, positive_read 4294967295 id is.0 (omega (arith, is.1)) (omega (arith, is.1))) refl

join_says : (stage : Stage) (id : ℕ) (peer : Address) → fault_of_word stage words.Join ≡ None → IsId id →
    IsAddress peer → line_read Journal stage (call_text (Join id peer)) ≡ Ok (Some (command_of (Join id peer)))
unfolding command_after
join_says stage id peer may is address =
    let words : words_of (call_text (Join id peer)) ≡ codes "join" ∷ decimal id ∷ address_text peer ∷ [] =
    words_at (codes "join") (decimal id ++ (codes " " ++ address_text peer)) refl
    ∙ ap (λ l. codes "join" ∷ l) (words_at (decimal id) (address_text peer) (number_without 32 id (omega arith))
    ∙ ap (λ l. decimal id ∷ l) (words_last (address_text peer) (address_without 32 peer (omega arith)))) in
    ap (λ l. said_by (words_read Journal stage l)) words
    ∙ rw (may, positive_read 4294967295 id is.0 (omega (arith, is.1)) (omega (arith, is.1)), address_read peer address)
    refl

hear_says : (stage : Stage) (m : Message) (source : Address) → fault_of_word stage words.Hear ≡ None → IsDecoded m →
    IsAddress source → line_read Journal stage (call_text (Hear source m)) ≡ Ok (Some (command_of (Hear source m)))
unfolding command_after
hear_says stage m source may is address =
    let digits = encode_lower (text_of m) in
    let read : datagram_of digits ≡ Some (Ok m) = rw (decode_of-encode_lower (text_of m) is.1, is.0) refl in
    let words : words_of (call_text (Hear source m)) ≡ codes "hear" ∷ address_text source ∷ digits ∷ [] =
    words_at (codes "hear") (address_text source ++ (codes " " ++ digits)) refl
    ∙ ap (λ l. codes "hear" ∷ l) (words_at (address_text source) digits (address_without 32 source (omega arith))
    ∙ ap (λ l. address_text source ∷ l) (words_last digits (hex_without 32 (text_of m) (omega arith) is.1))) in
    ap (λ l. said_by (words_read Journal stage l)) words
    ∙ rw (may, address_read source address, read) refl

says : (call : Call) → IsSpoken call → (stage : Stage) → fault_of_word stage (word_for (command_of call)) ≡ None →
    line_read Journal stage (call_text call) ≡ Ok (Some (command_of call))
says Tick is stage may = tick_says stage may
says (Hear source m) is stage may = hear_says stage m source may is.0 is.1
says (Join id peer) is stage may = join_says stage id peer may is.0 is.1
says (Remove id) is stage may = remove_says stage id may is

-- ---- lines

unfed : (call : Call) → IsSpoken call → has_feed (call_text call) ≡ false
unfed Tick is = refl
unfed (Hear source m) is =
    both_without 10 (address_text source) (codes " " ++ encode_lower (text_of m))
    (address_without 10 source (omega arith)) (hex_without 10 (text_of m) (omega arith) is.0.1)
unfed (Join id peer) is =
    both_without 10 (decimal id) (codes " " ++ address_text peer) (number_without 10 id (omega arith))
    (address_without 10 peer (omega arith))
unfed (Remove id) is = number_without 10 id (omega arith)

pub read_back : (call : Call) → IsSpoken call → IsReadBack call
read_back call is = record {
  line = λ rest. ap (λ l. pieces l) (append_assoc (call_text call) feed rest) ∙
      pieces_at (call_text call) rest (unfed call is);
  bare = bare_at (call_text call) (unfed call is);
  short = omega (arith, call_short call is);
  says = says call is;
}

-- ---- lines as code writes them

pub join_line : (id : ℕ) (peer : Address) →
    codes "join " ++ (decimal id ++ (codes " " ++ (address_text peer ++ feed))) ≡ call_line (Join id peer)
join_line id peer = ap (λ l. codes "join " ++ l) (sym (append_assoc (decimal id) (codes " " ++ address_text peer) feed))

pub hear_line : (m : Message) (source : Address) →
    codes "hear " ++ (address_text source ++ (datagram_text m ++ [])) ≡ call_line (Hear source m)
hear_line m source =
    ap (λ l. codes "hear " ++ (address_text source ++ l)) (append-nil (datagram_text m))
    ∙ ap (λ l. codes "hear " ++ l)
    (sym (append_assoc (address_text source) (codes " " ++ encode_lower (text_of m)) feed))
