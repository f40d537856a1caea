-- One turn of the receiver after the other, by what it is told of members that come back.
use Rattle.std.proofs.Common.{◌≡◌, ℕ, List, [], ◌∷◌, ◌++◌, take, Option, Some, None, refl, sym, subst, ap, ◌∙◌}
use mathlib.Core.List.{IsPrefix}
use Rattle.swim_wire.specs.Address.{Address}
use Rattle.swim_history.specs.declared.rows.Change.{Change}
use Rattle.swim_history.specs.declared.seats.Kept.{Kept}
use Rattle.swim_history.specs.Setting.{Setting}
use Rattle.swim_trail.specs.Growing.{Grows, grows_both, grows_none}
use Rattle.swim_node.specs.Seats.{Seated}
use Rattle.swim_node.proofs.Prefixes.{begins_itself}
use Rattle.swim_work.specs.declared.counts.Counts.{Counts}
use Rattle.swim_work.specs.declared.counts.Why.{Why}
use Rattle.swim_work.specs.declared.lines.Got.{Got}
use Rattle.swim_work.specs.declared.lines.Got.TheVariants.{Datagram, Idle, Fault}
use Rattle.swim_work.specs.declared.workers.End.{End}
use Rattle.swim_work.specs.Ends.{end_at, one_fault_more}
use Rattle.swim_work.specs.Gates.{Received}
use Rattle.swim_work.specs.Callers.{SendsOn, fresh_seat, nothing}
use Rattle.swim_work.specs.Posts.{AtSender, Posted, at_sender}
use Rattle.swim_work.specs.Turns.{EndsSo, HasWorked}
use Rattle.swim_work.proofs.Sent.{none_sent}
use Rattle.swim_work.proofs.Turning.{last_turned, one_more_turned}
use Rattle.swim_receiver.specs.declared.rejoining.Returning.{Returning}
use Rattle.swim_receiver.specs.Receiving.{AtReceiver, AtTurn, HasHeard, HasTurned, HearsGot, HearsLife}
use Rattle.swim_receiver.specs.Receiving.{HearsNext, Owned}
use Rattle.swim_receiver.specs.Receiving.{at_receiver, at_turn}
use Rattle.swim_receiver.specs.Happenings.{Happening}
use Rattle.swim_receiver.specs.Rejoining.{HearsAndJoins, IsOfSame, IsReturning, Learns, LearnsOn}
use Rattle.swim_receiver.specs.Showing.{AreShown}
use Rattle.swim_receiver.proofs.Learning.{more_on, none_on}

pub none_heard : {O : Type 0} (o : Setting) (limit : ℕ) (old : AtTurn O) → HasHeard o limit old None old
none_heard o limit old = record { given = []; grown = grows_none old.received; ends = λ h is. (h, is, refl) }

-- turns for these answers, as a gate's whole work, and back
worked : {S : Type 0} (turn : Received → S → Option Why → S → Type 0) (given : List Received) (old : S)
    (end : Option Why) (new : S) → EndsSo turn given old end new → HasWorked turn (Some []) (Some given) old end new
worked turn given old end new ends = record { given = given; grown = refl; ends = ends }

answered : {S : Type 0} (turn : Received → S → Option Why → S → Type 0) (given : List Received) (old : S)
    (end : Option Why) (new : S) → HasWorked turn (Some []) (Some given) old end new → EndsSo turn given old end new
answered turn given old end new is = subst (λ (l : List Received). EndsSo turn l old end new) (sym is.grown) is.ends

pub one_more_heard : {O : Type 0} (o : Setting) (limit : ℕ) (first old new : AtTurn O) →
    HasHeard o limit first None old → IsOfSame first.returning old.returning → HasTurned o limit old None new →
    HasHeard o limit first None new
one_more_heard o limit first old new heard same is = record {
  given = heard.given ++ is.given ∷ [];
  grown = grows_both first.received old.received new.received heard.given (is.given ∷ []) heard.grown is.grown;
  ends = λ h was.
      let a = heard.ends h was in
      let b = is.turned a.0 a.1 in
      let turn = HearsNext o limit first.returning.rejoiner.me in
      let then = at_receiver old.sender old.row a.0 old.seen in
      let now = at_receiver new.sender new.row b.0 new.seen in
      let from = at_receiver first.sender first.row h first.seen in
      let last = subst (λ n. HearsNext o limit n is.given then None now) same b.2 in
      let all = heard.given ++ is.given ∷ [] in (
        b.0,
        b.1,
        answered turn all from None now (one_more_turned turn (Some []) (Some heard.given) (Some all) from then now
            (worked turn heard.given from None then a.2) (record { given = is.given; grown = refl; turned = last })),
      );
}

pub last_heard : {O : Type 0} (o : Setting) (limit : ℕ) (first old new : AtTurn O) (why : Why) →
    HasHeard o limit first None old → IsOfSame first.returning old.returning → HasTurned o limit old (Some why) new →
    HasHeard o limit first (Some why) new
last_heard o limit first old new why heard same is = record {
  given = heard.given ++ is.given ∷ [];
  grown = grows_both first.received old.received new.received heard.given (is.given ∷ []) heard.grown is.grown;
  ends = λ h was.
      let a = heard.ends h was in
      let b = is.turned a.0 a.1 in
      let turn = HearsNext o limit first.returning.rejoiner.me in
      let then = at_receiver old.sender old.row a.0 old.seen in
      let now = at_receiver new.sender new.row b.0 new.seen in
      let from = at_receiver first.sender first.row h first.seen in
      let last = subst (λ n. HearsNext o limit n is.given then (Some why) now) same b.2 in
      let all = heard.given ++ is.given ∷ [] in (
        b.0,
        b.1,
        answered turn all from (Some why) now (last_turned turn (Some []) (Some heard.given) (Some all) from then now
            why (worked turn heard.given from None then a.2)
            (record { given = is.given; grown = refl; turned = last })),
      );
}

-- ---- within a turn

-- what comes of an answer of the line doesn't depend on what was told, or seen, before
got_from : {O : Type 0} (o : Setting) (limit me : ℕ) (h a b : List Happening) (saw seen : List Change) (got : Got)
    (bytes : List ℕ) (s : AtSender O) (row : ℕ) (end : Option Why) (new : AtReceiver O) →
    HearsGot o limit me h got bytes (at_receiver s row a saw) end new →
    HearsGot o limit me h got bytes (at_receiver s row b seen) end new
got_from o limit me h a b saw seen (Datagram count source) bytes s row end new is = is
got_from o limit me h a b saw seen Idle bytes s row end new is = is
got_from o limit me h a b saw seen Fault bytes s row end new is = is

-- it learns of something, and then there is a turn, before which nothing else changed
pub learnt_first : {O : Type 0} (o : Setting) (limit : ℕ) (old mid : AtTurn O) (end : Option Why) (new : AtTurn O) →
    Learns o old.seen mid.seen old.returning mid.returning → IsOfSame old.returning mid.returning →
    mid.received ≡ old.received → mid.sender ≡ old.sender → mid.row ≡ old.row → HasTurned o limit mid end new →
    HasTurned o limit old end new
learnt_first {O} o limit old mid end new learns same received sender row is = record {
  given = is.given;
  grown = subst (λ (r : Option (List Received)). Grows r new.received (is.given ∷ [])) received is.grown;
  turned = λ h was.
      let a = learns h was in
      let b = is.turned a.0 a.2 in
      let me = old.returning.rejoiner.me in
      let now = at_receiver new.sender new.row b.0 new.seen in
      let by : AtSender O → ℕ → ℕ → Type 0 =
      λ s n me. HearsGot o limit me b.2.0 is.given.got is.given.bytes (at_receiver s n a.0 mid.seen) end now in
      let of_same : by mid.sender mid.row me = subst (λ n. by mid.sender mid.row n) same b.2.2 in
      let with_sender : by old.sender mid.row me = subst (λ s. by s mid.row me) sender of_same in
      let got : by old.sender old.row me = subst (λ n. by old.sender n me) row with_sender in (
        b.0,
        b.1,
        (
          b.2.0,
          more_on o old.seen mid.seen new.seen h a.0 b.2.0 a.1 b.2.1,
          got_from o limit me b.2.0 a.0 h mid.seen old.seen is.given.got is.given.bytes old.sender old.row end now got,
        ),
      );
}

-- a datagram came, and then it learnt of something, before it was heard
pub datagram_turned : {O : Type 0} (o : Setting) (limit : ℕ) (old : AtTurn O) (mid : Returning) (end : Option Why)
    (new : AtTurn O) (given : Received) (count : ℕ) (source : Address) (bytes : List ℕ) (sender : AtSender O) →
    Grows old.received new.received (given ∷ []) → given.got ≡ Datagram count source →
    bytes ≡ take count given.bytes → new.row ≡ 0 → sender ≡ old.sender →
    Learns o old.seen new.seen old.returning mid → IsOfSame old.returning mid →
    ((h : List Happening) → IsReturning mid h → (told : List Happening) × IsReturning new.returning told
    × HearsAndJoins o limit mid.rejoiner.me h bytes source sender end new.sender told) →
    HasTurned o limit old end new
datagram_turned o limit old mid end new given count source bytes sender grows got is_bytes none is_sender learns same
    hears = record {
      given = given;
      grown = grows;
      turned = λ h is.
          let a = learns h is in
          let b = hears a.0 a.2 in
          let me = old.returning.rejoiner.me in
          let heard : HearsAndJoins o limit me a.0 (take count given.bytes) source old.sender end new.sender b.0 =
          subst (λ s. HearsAndJoins o limit me a.0 (take count given.bytes) source s end new.sender b.0) is_sender
          (subst (λ (bs : List ℕ). HearsAndJoins o limit me a.0 bs source sender end new.sender b.0) is_bytes
          (subst (λ n. HearsAndJoins o limit n a.0 bytes source sender end new.sender b.0) same b.2)) in
          let of : HearsGot o limit me a.0 given.got given.bytes (at_receiver old.sender old.row h old.seen) end
          (at_receiver new.sender new.row b.0 new.seen) =
          subst (λ (g : Got). HearsGot o limit me a.0 g given.bytes (at_receiver old.sender old.row h old.seen) end
          (at_receiver new.sender new.row b.0 new.seen)) (sym got) (heard, none) in
          (b.0, b.1, (a.0, a.1, of));
    }

no_more : (o : Setting) (saw seen : List Change) (h : List Happening) → seen ≡ saw → LearnsOn o saw seen h h
no_more o saw seen h unseen = none_on o saw seen h (subst (IsPrefix saw) (sym unseen) (begins_itself saw))

-- nothing came
pub idle_turned : {O : Type 0} (o : Setting) (limit : ℕ) (old : AtTurn O) (end : Option Why) (new : AtTurn O)
    (given : Received) →
    Grows old.received new.received (given ∷ []) → given.got ≡ Idle → new.sender ≡ old.sender →
    new.returning ≡ old.returning → new.seen ≡ old.seen → new.row ≡ 0 → end ≡ None →
    HasTurned o limit old end new
idle_turned o limit old end new given grows got same still unseen none goes_on = record {
  given = given;
  grown = grows;
  turned = λ h is.
      let me = old.returning.rejoiner.me in
      let of : HearsGot o limit me h given.got given.bytes (at_receiver old.sender old.row h old.seen) end
      (at_receiver new.sender new.row h new.seen) =
      subst (λ (g : Got). HearsGot o limit me h g given.bytes (at_receiver old.sender old.row h old.seen) end
      (at_receiver new.sender new.row h new.seen)) (sym got) (same, refl, none, goes_on) in (
        h,
        subst (λ (r : Returning). IsReturning r h) (sym still) is,
        (h, no_more o old.seen new.seen h unseen, of),
      );
}

-- the line is out of order
pub fault_turned : {O : Type 0} (o : Setting) (limit : ℕ) (old : AtTurn O) (end : Option Why) (new : AtTurn O)
    (given : Received) →
    Grows old.received new.received (given ∷ []) → given.got ≡ Fault → new.sender ≡ old.sender →
    new.returning ≡ old.returning → new.seen ≡ old.seen → new.row ≡ one_fault_more old.row → end ≡ end_at new.row →
    HasTurned o limit old end new
fault_turned o limit old end new given grows got same still unseen more ends = record {
  given = given;
  grown = grows;
  turned = λ h is.
      let me = old.returning.rejoiner.me in
      let of : HearsGot o limit me h given.got given.bytes (at_receiver old.sender old.row h old.seen) end
      (at_receiver new.sender new.row h new.seen) =
      subst (λ (g : Got). HearsGot o limit me h g given.bytes (at_receiver old.sender old.row h old.seen) end
      (at_receiver new.sender new.row h new.seen)) (sym got) (same, refl, more, ends) in (
        h,
        subst (λ (r : Returning). IsReturning r h) (sym still) is,
        (h, no_more o old.seen new.seen h unseen, of),
      );
}

-- ---- a life

abbrev seated : ℕ → List Kept → ℕ → Seated
seated number calls full = record { number = number; calls = calls; full = full }

pub life_heard : {O : Type 0} (posted : O → Option (List Posted)) (o : Setting) (limit : ℕ) (old new : Owned O)
    (first seat : Seated) (none counts : Counts) (begins row : ℕ) (why : Option Why) (end : End)
    (before seen : List Change) →
    first.calls ≡ [] → first.full ≡ 0 → none ≡ nothing → begins ≡ 0 → before ≡ [] → seat.number ≡ first.number →
    end ≡ record { why = why; counts = counts } →
    HasHeard o limit (at_turn (at_sender first old.post none) begins old.received old.returning before) why
    (at_turn (at_sender seat new.post counts) row new.received new.returning seen) →
    SendsOn posted o (at_sender first old.post none) (at_sender seat new.post counts) →
    IsOfSame old.returning new.returning → AreShown o before seen old.listed new.listed →
    HearsLife posted o limit old seat seen end new
life_heard {O} posted o limit old new first seat none counts begins row why end before seen no_calls unmet zero at_none
    unseen same is heard sends of_same are_shown =
    let first_is : first ≡ fresh_seat seat.number =
    ap (λ (cs : List Kept). seated first.number cs first.full) no_calls
    ∙ (ap (λ (n : ℕ). seated first.number [] n) unmet ∙ sym (ap fresh_seat same)) in
    let from : Seated → Counts → ℕ → List Change → Type 0 =
    λ s c n v. HasHeard o limit (at_turn (at_sender s old.post c) n old.received old.returning v) why
    (at_turn (at_sender seat new.post counts) row new.received new.returning seen) in
    let from_none : from first none 0 before = subst (λ (n : ℕ). from first none n before) at_none heard in
    let from_nothing : from first nothing 0 before = subst (λ (c : Counts). from first c 0 before) zero from_none in
    let from_unseen : from first nothing 0 [] =
    subst (λ (v : List Change). from first nothing 0 v) unseen from_nothing in
    rw is (record {
      row = row;
      heard = subst (λ (s : Seated). from s nothing 0 []) first_is from_unseen;
      sent = sends (posted old.post) (rw zero (none_sent o first.calls (posted old.post) no_calls));
      same = of_same;
      shown = subst (λ (v : List Change). AreShown o v seen old.listed new.listed) unseen are_shown;
    })
