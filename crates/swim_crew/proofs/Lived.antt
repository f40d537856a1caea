-- That what a life left behind is one.
use Rattle.std.proofs.Common.{◌≡◌, ℕ, ◌≤◌, [], ◌∷◌, length, subst}
use Rattle.swim_history.specs.Changes.{changes}
use Rattle.swim_history.specs.Setting.{Setting}
use Rattle.swim_node.specs.Following.{filings_of}
use Rattle.swim_node.specs.OneHistory.{AreFullWhereMet, IsOneHistory}
use Rattle.swim_node.specs.Seats.{Seated, AreTheSeats}
use Rattle.swim_work.specs.declared.counts.Why.TheVariants.{JournalFull}
use Rattle.swim_work.specs.Callers.{fresh_seat}
use Rattle.swim_crew.specs.declared.pasts.Past.{Past}
use Rattle.swim_crew.specs.Crews.{CrewAt, Records, Works}
use Rattle.swim_crew.specs.Ends.{why_ended}
use Rattle.swim_crew.specs.Life.{IsLife, WorkedIn}

-- a life whose fourth seat nobody called with
pub is_life : {A B C D : Type 0} (a : Works A) (b : Works B) (c : Works C) (d : Records D) (from o : Setting)
    (limit l : ℕ) (old : CrewAt A B C D) (past : Past) (new : CrewAt A B C D) (one two three four : Seated) →
    from ≡ o → limit ≡ l → four ≡ fresh_seat 3 → past.journal.opening ≡ o → length past.journal.past ≤ l →
    AreTheSeats (one ∷ two ∷ three ∷ four ∷ []) →
    IsOneHistory o past.journal.past (one ∷ two ∷ three ∷ four ∷ []) (changes o past.journal.past) →
    AreFullWhereMet l past.journal.past (one ∷ two ∷ three ∷ four ∷ []) →
    WorkedIn a o l past.journal.past old.first one past.ends.first new.first →
    WorkedIn b o l past.journal.past old.second two past.ends.second new.second →
    WorkedIn c o l past.journal.past old.third three past.ends.third new.third →
    d old.recorder o (filings_of past.journal.past) new.recorder →
    past.why ≡ why_ended past.ends → (past.why ≡ JournalFull → length past.journal.past ≡ l) →
    IsLife a b c d from limit old past new
is_life a b c d from o limit l old past new one two three four from_is limit_is idle opening within seats history met
    first second third recorder why full =
    rw (from_is, limit_is) (record {
      opening = opening;
      within = within;
      one = one;
      two = two;
      three = three;
      the_seats = subst (λ s. AreTheSeats (one ∷ two ∷ three ∷ s ∷ [])) idle seats;
      history =
          subst (λ s. IsOneHistory o past.journal.past (one ∷ two ∷ three ∷ s ∷ []) (changes o past.journal.past)) idle
          history;
      met = subst (λ s. AreFullWhereMet l past.journal.past (one ∷ two ∷ three ∷ s ∷ [])) idle met;
      by_first = first;
      by_second = second;
      by_third = third;
      by_recorder = recorder;
      why = why;
      full = full;
    })
