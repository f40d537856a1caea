-- What becomes of lives: who is told of each, and its file.
use Rattle.std.specs.Prelude.{◌≡◌, ◌⊎◌, ◌&&◌, ℕ, ◌≤◌, Bool, false, not, List, [], ◌∷◌, length, Option}
use Rattle.std.specs.Prelude.{Some, None}
use Rattle.swim_history.specs.declared.entries.Entry.{Entry}
use Rattle.swim_history.specs.Changes.{changes}
use Rattle.swim_history.specs.Setting.{Setting}
use Rattle.swim_trail.specs.Growing.{Grows}
use Rattle.swim_node.specs.declared.receipts.OpenFault.{OpenFault}
use Rattle.swim_node.specs.Following.{filings_of}
use Rattle.swim_node.specs.OneHistory.{AreFullWhereMet, IsOneHistory}
use Rattle.swim_node.specs.Seats.{Seated, AreTheSeats}
use Rattle.swim_targets.specs.Draws.{DrawsOrder, DrawsPlace, of_seed}
use Rattle.swim_events.specs.Guests.{AtGuest}
use Rattle.swim_journal.specs.Comments.{without_comments}
use Rattle.swim_journal.specs.Headings.{header_text}
use Rattle.swim_journal.specs.Replays.{file_text}
use Rattle.swim_work.specs.declared.counts.Why.TheVariants.{JournalFull}
use Rattle.swim_work.specs.Callers.{fresh_seat}
use Rattle.swim_recorder.specs.Files.{IsLifeFile}
use Rattle.swim_recorder.specs.Recording.{AtRecorder, IsRecorded}
use Rattle.swim_recorder.specs.Reports.{Report, HasHeardOf}
use Rattle.swim_recorder.specs.Watched.{AreToldLife}
use Rattle.swim_crew.specs.declared.pasts.LivesEnd.{LivesEnd}
use Rattle.swim_crew.specs.declared.pasts.Past.{Past}
use Rattle.swim_crew.specs.declared.pasts.Terms.{Terms}
use Rattle.swim_crew.specs.Draws.{WasDrawn}
use Rattle.swim_crew.specs.Ends.{why_ended}
use Rattle.swim_crew.specs.Lives.{AreEndedByLife, AreFull, end_without, number_after, opening_after}
use Rattle.swim_keeper.specs.Endings.{TellsEnd}
use Rattle.swim_recorder.specs.Filed.{Filed}
use Rattle.swim_keeper.specs.Keeping.{AtKeeper, IsClosed, IsOpened}
use Rattle.swim_telling.specs.Notices.{Notices}

-- of each of these lives, newest first, this is true: of its number, what it began with, what is left of it, and what
-- is seen before and after it. The first began with this opening, and each other one goes on from the one before
abbrev pub EachLife : {X : Type 0} → (ℕ → Setting → Past → X → X → Type 0) → Setting → X → List Past → X → Type 0
EachLife is first old [] new = new ≡ old
EachLife {X} is first old (past ∷ before) new =
    (mid : X) × EachLife is first old before mid × is (number_after before) (opening_after first before) past mid new

-- a life of this number from an opening: its journal is one history, with the calls of three seats, and has at most as
-- many entries as it may, and no fewer if it is what ended the life; and it drew from the stream of its own number
pub record IsDrawnLife (terms : Terms) (life : ℕ) (o : Setting) (past : Past) : Type 0 where
  pub opening : past.journal.opening ≡ o
  pub within : length past.journal.past ≤ terms.limit
  pub one : Seated
  pub two : Seated
  pub three : Seated
  pub the_seats : AreTheSeats (one ∷ two ∷ three ∷ fresh_seat 3 ∷ [])
  pub history : IsOneHistory o past.journal.past (one ∷ two ∷ three ∷ fresh_seat 3 ∷ []) (changes o past.journal.past)
  pub met : AreFullWhereMet terms.limit past.journal.past (one ∷ two ∷ three ∷ fresh_seat 3 ∷ [])
  pub why : past.why ≡ why_ended past.ends
  pub full : past.why ≡ JournalFull → length past.journal.past ≡ terms.limit
  pub drawn : WasDrawn DrawsOrder DrawsPlace o (record (of_seed terms.seed) { stream = life }) past.journal.past

-- bytes without their comments are a text, where they are known
abbrev pub AreBytesOf : Option (List ℕ) → List ℕ → Type 0
AreBytesOf None text = Unit {0}
AreBytesOf (Some bytes) text = without_comments bytes ≡ text

-- the file of that life, or if it isn't whole, a front of it; and the life is told as cut unless it is whole, and is
-- kept. If it isn't told so, and a new file has nothing in it, the bytes that were handed on for it, comments left out,
-- are the life's file
pub record IsFileOf (fresh : Option (List ℕ)) (terms : Terms) (life : ℕ) (o : Setting) (past : List Entry)
    (file : Filed) (is_cut : Bool) : Type 0 where
  pub number : file.number ≡ life
  pub whole : Bool
  pub text : IsLifeFile fresh file.text o terms.limit terms.seed life past whole
  pub cut : is_cut ≡ not (whole && file.is_kept)
  pub bytes : is_cut ≡ false → fresh ≡ Some [] →
      AreBytesOf file.bytes (file_text (header_text o terms.limit terms.seed life) past)

-- the life has no file, or that one was taken back
abbrev pub IsFiled : Option (List ℕ) → Terms → ℕ → Setting → List Entry → Option (List Filed) → Option (List Filed) →
    Bool → Type 0
IsFiled fresh terms life o past old new is_cut =
    ((new ≡ old) × (is_cut ≡ false))
    ⊎ ((file : Filed) × Grows old new (file ∷ []) × IsFileOf fresh terms life o past file is_cut)

-- what is seen of those who are told of lives: the keeper, those who watch, and the reporter
pub record AtLives : Type 0 where
  pub keeper : AtKeeper
  pub gallery : List AtGuest
  pub heard : Option (List Report)

abbrev pub at_lives : {V : Type 0} → AtKeeper → AtRecorder V → AtLives
at_lives keeper d = record { keeper = keeper; gallery = d.gallery; heard = d.heard }

-- a life was lived and told: by a line, to those who watch, and to the reporter; and its file was taken back
pub record IsKept (fresh : Option (List ℕ)) (terms : Terms) (life : ℕ) (o : Setting) (past : Past) (old new : AtLives) :
    Type 0 where
  pub lived : IsDrawnLife terms life o past
  pub is_cut : Bool
  pub lines : TellsEnd life past is_cut old.keeper.lines new.keeper.lines
  pub notices : Notices old.keeper.notices new.keeper.notices
  pub begun : Grows old.keeper.begun new.keeper.begun (life ∷ [])
  pub opened : Grows old.keeper.opened new.keeper.opened (life ∷ [])
  pub filed : IsFiled fresh terms life o past.journal.past old.keeper.filed new.keeper.filed is_cut
  pub watched : AreToldLife life o old.gallery past.journal.past new.gallery
  pub reported : HasHeardOf o past.journal.past old.heard new.heard

-- each life that was opened, recorded and closed was told so
abbrev pub EachIsTold : {V : Type 0} → (V → Option (List ℕ)) → (V → ℕ) → Type 0
EachIsTold {V} written held =
    (fresh : Option (List ℕ)) (terms : Terms) (life : ℕ) (o : Setting) (past : Past) (k l m : AtKeeper)
    (d e f g : AtRecorder V) → IsDrawnLife terms life o past → IsOpened written fresh terms life o k d l e →
    IsRecorded written held life o (filings_of past.journal.past) e f → IsClosed written life past l f m g →
    IsKept fresh terms life o past (at_lives k d) (at_lives m g)

-- the herald was told of a life that didn't come about
pub record IsAnnounced (life : ℕ) (old new : AtLives) : Type 0 where
  pub lines : new.keeper.lines ≡ old.keeper.lines
  pub notices : Notices old.keeper.notices new.keeper.notices
  pub begun : Grows old.keeper.begun new.keeper.begun (life ∷ [])
  pub opened : Grows old.keeper.opened new.keeper.opened (life ∷ [])
  pub filed : new.keeper.filed ≡ old.keeper.filed
  pub gallery : new.gallery ≡ old.gallery
  pub heard : new.heard ≡ old.heard

-- the next life got no node
abbrev pub IsWithout : List Past → LivesEnd → Type 0
IsWithout lives end = AreFull lives × ((fault : OpenFault) × (end ≡ end_without fault))

-- lives, newest first, were lived from this opening and told, each as it went on from the one before; and they ended so
pub record AreKept (fresh : Option (List ℕ)) (terms : Terms) (opening : Setting) (old new : AtLives) (end : LivesEnd) :
    Type 0 where
  pub lives : List Past
  pub after_lives : AtLives
  pub kept : EachLife (IsKept fresh terms) opening old lives after_lives
  pub ended : ((new ≡ after_lives) × AreEndedByLife lives end)
      ⊎ (IsWithout lives end × IsAnnounced (number_after lives) after_lives new)
