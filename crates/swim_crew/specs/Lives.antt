-- Lives, newest first, each of which goes on from the journal of the one before, with the same crew.
use Rattle.std.specs.Prelude.{◌≡◌, ◌⊎◌, ℕ, false, ◌-◌, ◌^◌, min, List, [], ◌∷◌, length, Some}
use Rattle.std.specs.List.{AllByRecursion}
use Rattle.swim_history.specs.After.{setting_after}
use Rattle.swim_history.specs.Setting.{Setting}
use Rattle.swim_node.specs.declared.receipts.OpenFault.{OpenFault}
use Rattle.swim_node.specs.declared.receipts.OpenFault.TheVariants as faults
use Rattle.swim_targets.specs.Draws.{DrawsOrder, DrawsPlace, of_seed}
use Rattle.swim_work.specs.declared.counts.Why.TheVariants.{JournalFull}
use Rattle.swim_crew.specs.declared.pasts.LivesEnd.{LivesEnd}
use Rattle.swim_crew.specs.declared.pasts.LivesEnd.TheVariants.{NoMemory, NoPlace}
use Rattle.swim_crew.specs.declared.pasts.Past.{Past}
use Rattle.swim_crew.specs.Crews.{CrewAt, Rules, Stand}
use Rattle.swim_crew.specs.Draws.{WasDrawn}
use Rattle.swim_crew.specs.Ends.{end_after, is_stopped}
use Rattle.swim_crew.specs.Life.{IsLife}

-- a life from this opening, and what its keeper did before and after it; its choices were drawn from this stream of the
-- seed
pub record IsKeptLife {A B C D K : Type 0} (r : Rules A B C D K) (from : Setting) (limit : ℕ) (seed : List ℕ)
    (number : ℕ) (old : Stand A B C D K) (past : Past) (new : Stand A B C D K) : Type 0 where
  pub keeper : K
  pub recorder : D
  pub opened : r.opens old.keeper old.crew.recorder number from keeper recorder
  pub crew : CrewAt A B C D
  pub life : IsLife r.first r.second r.third r.records from limit (record old.crew { recorder = recorder }) past crew
  pub drawn : WasDrawn DrawsOrder DrawsPlace from (record (of_seed seed) { stream = number }) past.journal.past
  pub closed : r.closes keeper crew.recorder number past new.keeper new.crew.recorder
  pub others : new.crew ≡ record crew { recorder = new.crew.recorder }

-- what the life after these begins with
abbrev pub opening_after : Setting → List Past → Setting
opening_after first [] = first
opening_after first (past ∷ before) = setting_after past.journal.opening past.journal.past

-- the number of the life after these; it stops at 2^64-1
abbrev pub number_after : List Past → ℕ
number_after lives = min (length lives) (2 ^ 64 - 1)

-- the first of these lives began with this opening, and each other one went on from the one before
abbrev pub AreLives : {A B C D K : Type 0} → Rules A B C D K → Setting → ℕ → List ℕ → Stand A B C D K → List Past →
    Stand A B C D K → Type 0
AreLives r first limit seed old [] new = new ≡ old
AreLives {A} {B} {C} {D} {K} r first limit seed old (past ∷ before) new =
    (mid : Stand A B C D K) × AreLives r first limit seed old before mid
    × IsKeptLife r (opening_after first before) limit seed (number_after before) mid past new

-- each of these lives ended with a full journal, and none of their workers was told to stop
abbrev pub AreFull : List Past → Type 0
AreFull lives = AllByRecursion (λ past. (past.why ≡ JournalFull) × (is_stopped past.ends ≡ false)) lives

-- the last life ended them so
abbrev pub AreEndedByLife : List Past → LivesEnd → Type 0
AreEndedByLife [] end = ⊥
AreEndedByLife (past ∷ before) end = AreFull before × (end_after past ≡ Some end)

-- why lives ended whose next one got no node
abbrev pub end_without : OpenFault → LivesEnd
end_without faults.NoMemory = NoMemory
end_without faults.NoPlace = NoPlace

-- a keeper has opened a life that didn't come about
abbrev pub HasOpened : {A B C D K : Type 0} → Rules A B C D K → Setting → ℕ → Stand A B C D K → Stand A B C D K → Type 0
HasOpened r from number old new =
    r.opens old.keeper old.crew.recorder number from new.keeper new.crew.recorder
    × (new.crew ≡ record old.crew { recorder = new.crew.recorder })

-- the last life ended them so; or the next one got no node, after its keeper had opened it
abbrev pub AreEnded : {A B C D K : Type 0} → Rules A B C D K → Setting → List Past → Stand A B C D K → Stand A B C D K →
    LivesEnd → Type 0
AreEnded r first lives then new end =
    ((new ≡ then) × AreEndedByLife lives end)
    ⊎ (AreFull lives × ((fault : OpenFault) × (end ≡ end_without fault))
    × HasOpened r (opening_after first lives) (number_after lives) then new)

-- lives were lived from this opening, with journals of at most so many entries and draws of this seed, and ended so
pub record AreLived {A B C D K : Type 0} (r : Rules A B C D K) (opening : Setting) (limit : ℕ) (seed : List ℕ)
    (old new : Stand A B C D K) (end : LivesEnd) : Type 0 where
  pub lives : List Past
  pub after_lives : Stand A B C D K
  pub lived : AreLives r opening limit seed old lives after_lives
  pub ended : AreEnded r opening lives after_lives new end
