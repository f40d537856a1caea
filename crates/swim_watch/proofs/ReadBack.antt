-- The line of an event reads back as the event.
use Rattle.std.proofs.Common.{◌≡◌, ℕ, ◌-◌, ◌<◌, ◌^◌, false, List, [], ◌∷◌, ◌++◌, map, Ok, codes, decimal}
use Rattle.std.proofs.Common.{refl, sym, ap, ◌∙◌, arith, append_assoc}
use Rattle.swim_text.specs.Cutting.{pieces_at, bare_at}
use Rattle.swim_text.specs.Lines.{pieces, bare, has_feed}
use Rattle.swim_text.specs.Numbers.{number_read, positive_read}
use Rattle.swim_text.specs.Without.{both_without, number_without}
use Rattle.swim_text.specs.Words.{words_of}
use Rattle.swim_text.specs.WordLaws.{words_at, words_last}
use Rattle.swim_wire.specs.Address.{Address, IsAddress, address_text}
use Rattle.swim_wire.specs.AddressLaws.{address_read}
use Rattle.swim_wire.specs.AddressWithout.{address_without}
use Rattle.swim_history.specs.declared.rows.Row.{Row}
use Rattle.swim_history.specs.declared.rows.Change.TheVariants as changes
use Rattle.swim_history.specs.Texts.{feed}
use Rattle.swim_events.specs.declared.events.Event.{Event as Happened}
use Rattle.swim_events.specs.declared.events.Event.TheVariants as events
use Rattle.swim_events.specs.Texts.{event_text, rows_text, table_text, shown}
use Rattle.swim_watch.specs.declared.feed_events.FeedEvent.TheVariants.{TableEnds}
use Rattle.swim_watch.specs.Lines.{said_of, said_after, words_said}
use Rattle.swim_watch.specs.ReadBack.{IsReadBack, said_in, event_said, events_text, row_said, told_said}

-- ---- a line

-- a text without a line feed that says the event, and is its line but for that
back_by : (event : Happened) (xs : List ℕ) → event_text event ≡ xs ++ feed → has_feed xs ≡ false →
    said_of xs ≡ event_said event → IsReadBack event
back_by event xs is none says = record {
  says = ap (λ l. said_of (bare l)) is ∙ ap said_of (bare_at xs none) ∙ says;
  line = λ rest. ap (λ l. pieces (l ++ rest)) is ∙ ap pieces (append_assoc xs feed rest) ∙ pieces_at xs rest none ∙
      ap (λ l. l ∷ pieces rest) (sym is);
}

pub lost_back : IsReadBack events.Lost
unfolding said_after
lost_back = back_by events.Lost (codes "lost") refl refl refl

pub ended_back : IsReadBack events.Ended
unfolding said_after
ended_back = back_by events.Ended (codes "ended") refl refl refl

pub life_back : (number : ℕ) → number < 2 ^ 64 → IsReadBack (events.Life number)
unfolding said_after
life_back number small =
    let words : words_of (codes "life " ++ decimal number) ≡ codes "life" ∷ decimal number ∷ [] =
    words_at (codes "life") (decimal number) refl ∙
    ap (λ l. codes "life" ∷ l) (words_last (decimal number) (number_without 32 number (omega arith))) in
    back_by (events.Life number) (codes "life " ++ decimal number) refl (number_without 10 number (omega arith))
    (ap words_said words ∙ rw (number_read (2 ^ 64 - 1) number (omega (arith, small)) small) refl)

pub gone_back : (id : ℕ) → 0 < id → id < 2 ^ 32 → IsReadBack (events.Changed (changes.Gone id))
unfolding said_after
gone_back id some small =
    let words : words_of (codes "gone " ++ decimal id) ≡ codes "gone" ∷ decimal id ∷ [] =
    words_at (codes "gone") (decimal id) refl ∙
    ap (λ l. codes "gone" ∷ l) (words_last (decimal id) (number_without 32 id (omega arith))) in
    back_by (events.Changed (changes.Gone id)) (codes "gone " ++ decimal id) refl (number_without 10 id (omega arith))
    (ap words_said words ∙ rw (positive_read 4294967295 id some (omega (arith, small)) (omega (arith, small))) refl)

pub failed_back : (id number : ℕ) → 0 < id → id < 2 ^ 32 → number < 2 ^ 64 →
    IsReadBack (events.Changed (changes.Failed id number))
unfolding said_after
failed_back id number some small fits =
    let tail = decimal id ++ (codes " " ++ decimal number) in
    let words : words_of (codes "failed " ++ tail) ≡ codes "failed" ∷ decimal id ∷ decimal number ∷ [] =
    words_at (codes "failed") tail refl
    ∙ ap (λ l. codes "failed" ∷ l) (words_at (decimal id) (decimal number) (number_without 32 id (omega arith))
    ∙ ap (λ l. decimal id ∷ l) (words_last (decimal number) (number_without 32 number (omega arith)))) in
    back_by (events.Changed (changes.Failed id number)) (codes "failed " ++ tail)
    (ap (λ l. codes "failed " ++ l) (sym (append_assoc (decimal id) (codes " " ++ decimal number) feed)))
    (both_without 10 (decimal id) (codes " " ++ decimal number) (number_without 10 id (omega arith))
    (number_without 10 number (omega arith)))
    (ap words_said words
    ∙ rw (
      positive_read 4294967295 id some (omega (arith, small)) (omega (arith, small)),
      number_read (2 ^ 64 - 1) number (omega (arith, fits)) fits,
    ) refl)

pub up_back : (id : ℕ) (peer : Address) → 0 < id → id < 2 ^ 32 → IsAddress peer →
    IsReadBack (events.Changed (changes.Up id peer))
unfolding said_after
up_back id peer some small is =
    let tail = decimal id ++ (codes " " ++ address_text peer) in
    let words : words_of (codes "up " ++ tail) ≡ codes "up" ∷ decimal id ∷ address_text peer ∷ [] =
    words_at (codes "up") tail refl
    ∙ ap (λ l. codes "up" ∷ l) (words_at (decimal id) (address_text peer) (number_without 32 id (omega arith))
    ∙ ap (λ l. decimal id ∷ l) (words_last (address_text peer) (address_without 32 peer (omega arith)))) in
    back_by (events.Changed (changes.Up id peer)) (codes "up " ++ tail)
    (ap (λ l. codes "up " ++ l) (sym (append_assoc (decimal id) (codes " " ++ address_text peer) feed)))
    (both_without 10 (decimal id) (codes " " ++ address_text peer) (number_without 10 id (omega arith))
    (address_without 10 peer (omega arith)))
    (ap words_said words
    ∙ rw (positive_read 4294967295 id some (omega (arith, small)) (omega (arith, small)), address_read peer is) refl)

-- ---- lines

pub said_more : (event : Happened) (rest : List ℕ) → IsReadBack event →
    said_in (event_text event ++ rest) ≡ event_said event ∷ said_in rest
said_more event rest back =
    ap (map (λ line. said_of (bare line))) (back.line rest) ∙ ap (λ said. said ∷ said_in rest) back.says

pub rows_more : (row : Row) (rows : List Row) → IsReadBack (events.Changed (shown row)) →
    ((rest : List ℕ) → said_in (rows_text rows ++ rest) ≡ map row_said rows ++ said_in rest) →
    (rest : List ℕ) → said_in (rows_text (row ∷ rows) ++ rest) ≡ map row_said (row ∷ rows) ++ said_in rest
rows_more row rows back more rest =
    let event = events.Changed (shown row) in
    ap said_in (append_assoc (event_text event) (rows_text rows) rest) ∙
    said_more event (rows_text rows ++ rest) back ∙ ap (λ said. row_said row ∷ said) (more rest)

pub events_more : (event : Happened) (later : List Happened) → IsReadBack event →
    said_in (events_text later) ≡ map event_said later →
    said_in (events_text (event ∷ later)) ≡ map event_said (event ∷ later)
events_more event later back more =
    said_more event (events_text later) back ∙ ap (λ said. event_said event ∷ said) more

dot_said : (rest : List ℕ) → said_in (codes ".\n" ++ rest) ≡ Ok TableEnds ∷ said_in rest
unfolding said_after
dot_said rest = refl

pub told_back : (rows : List Row) (later : List Happened) →
    ((rest : List ℕ) → said_in (rows_text rows ++ rest) ≡ map row_said rows ++ said_in rest) →
    said_in (events_text later) ≡ map event_said later →
    said_in (table_text rows ++ events_text later) ≡ told_said rows later
told_back rows later said happened =
    ap said_in (append_assoc (rows_text rows) (codes ".\n") (events_text later)) ∙
    said (codes ".\n" ++ events_text later) ∙
    ap (λ l. map row_said rows ++ l) (dot_said (events_text later) ∙ ap (λ l. Ok TableEnds ∷ l) happened)
