-- Lives that went on one from the other, step by step.
use Rattle.std.proofs.Common.{◌≡◌, ℕ, ◌+◌, ◌-◌, ◌^◌, min, Bool, true, false, List, [], ◌∷◌, length, Some, None}
use Rattle.std.proofs.Common.{refl, subst, inl, inr, arith}
use Rattle.swim_history.specs.After.{setting_after}
use Rattle.swim_history.specs.Setting.{Setting}
use Rattle.swim_node.specs.declared.receipts.OpenFault.{OpenFault}
use Rattle.swim_work.specs.declared.counts.Why.{Why}
use Rattle.swim_work.specs.declared.counts.Why.TheVariants.{JournalFull, NoMemory, Socket, Stopped}
use Rattle.swim_crew.specs.declared.pasts.LivesEnd.{LivesEnd}
use Rattle.swim_crew.specs.declared.pasts.Past.{Past}
use Rattle.swim_crew.specs.Crews.{Rules, Stand}
use Rattle.swim_crew.specs.Ends.{end_after, end_by, is_stopped}
use Rattle.swim_crew.specs.Lives.{AreFull, AreLived, AreLives, HasOpened, IsKeptLife, end_without, number_after}
use Rattle.swim_crew.specs.Lives.{opening_after}

-- all lives so far were ended by a full journal; the next one begins so, and has this number
pub record HaveLived {A B C D K : Type 0} (r : Rules A B C D K) (first : Setting) (limit : ℕ) (seed : List ℕ)
    (next : Setting) (n : ℕ) (old new : Stand A B C D K) : Type 0 where
  pub lives : List Past
  pub lived : AreLives r first limit seed old lives new
  pub full : AreFull lives
  pub next_is : next ≡ opening_after first lives
  pub number_is : n ≡ number_after lives

pub none_lived : {A B C D K : Type 0} (r : Rules A B C D K) (first : Setting) (limit : ℕ) (seed : List ℕ)
    (old : Stand A B C D K) → HaveLived r first limit seed first 0 old old
none_lived r first limit seed old = record { lives = []; lived = refl; full = tt; next_is = refl; number_is = refl }

-- a life more
with_one : {A B C D K : Type 0} (r : Rules A B C D K) (first : Setting) (limit : ℕ) (seed : List ℕ) (next : Setting)
    (n : ℕ) (old mid new : Stand A B C D K) (past : Past) (so : HaveLived r first limit seed next n old mid) →
    IsKeptLife r next limit seed n mid past new → AreLives r first limit seed old (past ∷ so.lives) new
with_one r first limit seed next n old mid new past so is = (
  mid,
  so.lived,
  subst (λ o. IsKeptLife r o limit seed (number_after so.lives) mid past new) so.next_is
      (subst (λ k. IsKeptLife r next limit seed k mid past new) so.number_is is),
)

-- a life is followed by another one only if its journal was full and no worker was told to stop
followed : (why : Why) (stopped : Bool) → end_by why stopped ≡ None → (why ≡ JournalFull) × (stopped ≡ false)
followed JournalFull false is = (refl, refl)
followed JournalFull true is = absurd (cc is)
followed NoMemory stopped is = absurd (cc is)
followed Socket stopped is = absurd (cc is)
followed Stopped stopped is = absurd (cc is)

pub one_more_lived : {A B C D K : Type 0} (r : Rules A B C D K) (first : Setting) (limit : ℕ) (seed : List ℕ)
    (next after : Setting) (n count : ℕ) (old mid new : Stand A B C D K) (past : Past) →
    HaveLived r first limit seed next n old mid → IsKeptLife r next limit seed n mid past new →
    end_after past ≡ None → after ≡ setting_after past.journal.opening past.journal.past →
    count ≡ min (n + 1) (2 ^ 64 - 1) → HaveLived r first limit seed after count old new
one_more_lived r first limit seed next after n count old mid new past so is goes_on after_is count_is = record {
  lives = past ∷ so.lives;
  lived = with_one r first limit seed next n old mid new past so is;
  full = (followed past.why (is_stopped past.ends) goes_on, so.full);
  next_is = after_is;
  number_is = let was : n ≡ min (length so.lives) (2 ^ 64 - 1) = so.number_is in omega arith;
}

-- the last one
pub last_lived : {A B C D K : Type 0} (r : Rules A B C D K) (first : Setting) (limit : ℕ) (seed : List ℕ)
    (next : Setting) (n : ℕ) (old mid new : Stand A B C D K) (past : Past) (end : LivesEnd) →
    HaveLived r first limit seed next n old mid → IsKeptLife r next limit seed n mid past new →
    end_after past ≡ Some end → AreLived r first limit seed old new end
last_lived r first limit seed next n old mid new past end so is ends = record {
  lives = past ∷ so.lives;
  after_lives = new;
  lived = with_one r first limit seed next n old mid new past so is;
  ended = inl (refl, (so.full, ends));
}

-- and none more, as it got no node
pub last_opened : {A B C D K : Type 0} (r : Rules A B C D K) (first : Setting) (limit : ℕ) (seed : List ℕ)
    (next : Setting) (n : ℕ) (old mid new : Stand A B C D K) (fault : OpenFault) (end : LivesEnd) →
    HaveLived r first limit seed next n old mid → HasOpened r next n mid new → end ≡ end_without fault →
    AreLived r first limit seed old new end
last_opened r first limit seed next n old mid new fault end so opened is = record {
  lives = so.lives;
  after_lives = mid;
  lived = so.lived;
  ended = inr (
    so.full,
    (fault, is),
    subst (λ o. HasOpened r o (number_after so.lives) mid new) so.next_is
        (subst (λ k. HasOpened r next k mid new) so.number_is opened),
  );
}
