-- What the ticker did in a life, of what it did turn by turn.
use Rattle.std.proofs.Common.{◌≡◌, ℕ, List, [], Option, None, refl, sym, ap, ◌∙◌}
use Rattle.swim_history.specs.declared.rows.Change.{Change}
use Rattle.swim_history.specs.declared.seats.Kept.{Kept}
use Rattle.swim_history.specs.Setting.{Setting}
use Rattle.swim_node.specs.Seats.{Seated}
use Rattle.swim_work.specs.declared.counts.Counts.{Counts}
use Rattle.swim_work.specs.declared.counts.Why.{Why}
use Rattle.swim_work.specs.declared.workers.End.{End}
use Rattle.swim_work.specs.Callers.{fresh_seat, nothing}
use Rattle.swim_work.specs.Ends.{both}
use Rattle.swim_work.specs.Posts.{Posted, at_sender, starts_in}
use Rattle.swim_work.specs.Turns.{HasTicked}
use Rattle.swim_work.proofs.Sent.{none_sent}
use Rattle.swim_ticker.specs.Knocking.{AtKnocking, IsKnocking}
use Rattle.swim_ticker.specs.Ticking.{AtTicker, GoesOn, Owned, TicksLife, at_ticker}
use Rattle.swim_ticker.proofs.Knocked.{knocked_later}

abbrev seated : ℕ → List Kept → ℕ → Seated
seated number calls full = record { number = number; calls = calls; full = full }

-- ---- some ticks, and then others

pub still_on : {O : Type 0} (posted : O → Option (List Posted)) (o : Setting) (now : AtTicker O) →
    GoesOn posted o now None now
still_on posted o now = record {
  sent = λ start is. is;
  knocks = λ asked before is. is;
  number = refl;
  earlier = refl;
  full = λ is. absurd (cc is);
}

pub on_and_on : {O : Type 0} (posted : O → Option (List Posted)) (o : Setting) (old mid : AtTicker O)
    (end : Option Why) (new : AtTicker O) → GoesOn posted o old None mid → GoesOn posted o mid end new →
    GoesOn posted o old end new
on_and_on posted o old mid end new p q = record {
  sent = λ start is. q.sent start (p.sent start is);
  knocks = λ asked before is. q.knocks asked before (p.knocks asked before is);
  number = q.number ∙ p.number;
  earlier = q.earlier ∙ p.earlier;
  full = q.full;
}

-- ---- a life

pub life_ticked : {O : Type 0} (posted : O → Option (List Posted)) (o : Setting) (limit : ℕ) (old new : Owned O)
    (first seat : Seated) (none counts : Counts) (why : Option Why) (end : End) (began knocking : AtKnocking)
    (seen : List Change) (earlier : ℕ) →
    first.calls ≡ [] → first.full ≡ 0 → none ≡ nothing → end ≡ record { why = why; counts = counts } →
    new.knocks ≡ both earlier knocking.knocks → new.answered ≡ knocking.answered → new.knocked ≡ knocking.posted →
    seen ≡ knocking.seen → IsKnocking o 0 old.answered old.knocked began →
    HasTicked o limit old.beats new.beats (at_sender first old.post none) why (at_sender seat new.post counts) →
    GoesOn posted o (at_ticker (at_sender first old.post none) began old.knocks) why
    (at_ticker (at_sender seat new.post counts) knocking earlier) →
    TicksLife posted o limit old seat seen end new
life_ticked posted o limit old new first seat none counts why end began knocking seen earlier no_calls unmet zero is
    counted answered knocked seen_is begins ticked on =
    let first_is : first ≡ fresh_seat seat.number =
    ap (λ (cs : List Kept). seated first.number cs first.full) no_calls
    ∙ (ap (λ (n : ℕ). seated first.number [] n) unmet ∙ sym (ap fresh_seat on.number)) in
    let done = on.knocks old.answered old.knocked (rw no_calls begins) in
    rw is (record {
      ticked = rw (sym first_is, sym zero) ticked;
      sent = on.sent (posted old.post) (rw zero (none_sent o first.calls (posted old.post) no_calls));
      knocks = knocking.knocks;
      knocked = rw (answered, knocked, seen_is) (knocked_later o (starts_in seat.calls) done.shown knocking.seen
          old.answered knocking.answered old.knocked knocking.posted knocking.knocks done.later done.has);
      counted = counted ∙ ap (λ (n : ℕ). both n knocking.knocks) on.earlier;
    })
