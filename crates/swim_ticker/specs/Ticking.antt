-- What the ticker does in a life.
use Rattle.std.specs.Prelude.{◌≡◌, ℕ, ◌<◌, List, Option, Some}
use Rattle.swim_history.specs.declared.rows.Change.{Change}
use Rattle.swim_history.specs.Setting.{Setting}
use Rattle.swim_node.specs.Seats.{Seated}
use Rattle.swim_work.specs.declared.counts.Why.{Why}
use Rattle.swim_work.specs.declared.counts.Why.TheVariants.{JournalFull}
use Rattle.swim_work.specs.declared.paces.Beat.{Beat}
use Rattle.swim_work.specs.declared.workers.End.{End}
use Rattle.swim_work.specs.Callers.{SendsOn, fresh_seat, nothing}
use Rattle.swim_work.specs.Ends.{both}
use Rattle.swim_work.specs.Posts.{AtSender, HasSent, Posted, at_sender, starts_in}
use Rattle.swim_work.specs.Turns.{HasTicked}
use Rattle.swim_ticker.specs.Knocking.{AtKnocking, HasKnocked, KnocksAtStarts}

-- what it owns: what its pace gave so far, its post, what the post of its knocks was handed so far, what its lookup
-- answered so far, and how many knocks there were over all lives
pub record Owned (O : Type 0) : Type 0 where
  pub beats : Option (List Beat)
  pub post : O
  pub knocked : Option (List Posted)
  pub answered : List ℕ
  pub knocks : ℕ

abbrev pub owned : {O : Type 0} → Option (List Beat) → O → Option (List Posted) → List ℕ → ℕ → Owned O
owned beats post knocked answered knocks =
    record { beats = beats; post = post; knocked = knocked; answered = answered; knocks = knocks }

-- what the ticker has done in a life: a turn for each beat of its pace. Its post was handed the datagrams of the
-- replies to its seat's calls, and the other one the knocks at the starts of periods that these calls began, by what
-- its viewer saw and its lookup answered at these, which were counted. The viewer had seen these changes in the end
pub record TicksLife {O : Type 0} (posted : O → Option (List Posted)) (o : Setting) (limit : ℕ) (old : Owned O)
    (seat : Seated) (seen : List Change) (end : End) (new : Owned O) : Type 0 where
  pub ticked : HasTicked o limit old.beats new.beats (at_sender (fresh_seat seat.number) old.post nothing) end.why
      (at_sender seat new.post end.counts)
  pub sent : HasSent o seat.calls (posted old.post) (posted new.post) end.counts.unsent
  pub knocks : ℕ
  pub knocked : HasKnocked o (starts_in seat.calls) seen old.answered new.answered old.knocked new.knocked knocks
  pub counted : new.knocks ≡ both old.knocks knocks

-- ---- within a life

-- what the ticker is at a moment of a life: its caller with its post, who knocks with the other post, and how many
-- knocks there were in the lives before
pub record AtTicker (O : Type 0) : Type 0 where
  pub sender : AtSender O
  pub knocking : AtKnocking
  pub earlier : ℕ

abbrev pub at_ticker : {O : Type 0} → AtSender O → AtKnocking → ℕ → AtTicker O
at_ticker sender knocking earlier = record { sender = sender; knocking = knocking; earlier = earlier }

-- some ticks later, and why it ends then, if it does: by now its post was handed the datagrams of the replies, and the
-- other one the knocks at the starts that the calls began, if that was so before. It ends at a full journal only if its
-- seat has met one
pub record GoesOn {O : Type 0} (posted : O → Option (List Posted)) (o : Setting) (old : AtTicker O)
    (end : Option Why) (new : AtTicker O) : Type 0 where
  pub sent : SendsOn posted o old.sender new.sender
  pub knocks : KnocksAtStarts o old.sender.seat.calls old.knocking new.sender.seat.calls new.knocking
  pub number : new.sender.seat.number ≡ old.sender.seat.number
  pub earlier : new.earlier ≡ old.earlier
  pub full : end ≡ Some JournalFull → 0 < new.sender.seat.full
