-- What a keeper does before a life and after it.
use Rattle.std.specs.Prelude.{◌≡◌, ℕ, Bool, List, [], ◌∷◌, Option, None}
use Rattle.swim_history.specs.Setting.{Setting, IsSetting}
use Rattle.swim_trail.specs.Growing.{Grows}
use Rattle.swim_telling.specs.Notices.{Notices}
use Rattle.swim_telling.specs.Telling.{Written}
use Rattle.swim_recorder.specs.declared.journal_recorder.JournalRecorder.{JournalRecorder}
use Rattle.swim_recorder.specs.Filed.{Filed}
use Rattle.swim_recorder.specs.Recording.{AtRecorder, IsRecorded, at_recorder}
use Rattle.swim_recorder.specs.Reports.{Report}
use Rattle.swim_crew.specs.declared.pasts.Past.{Past}
use Rattle.swim_crew.specs.declared.pasts.Terms.{Terms}
use Rattle.swim_crew.specs.Crews.{Closes, Opens, Records}
use Rattle.swim_keeper.specs.declared.keepers.LifeKeeper.{LifeKeeper}
use Rattle.swim_keeper.specs.Endings.{TellsEnd}
use Rattle.swim_keeper.specs.Filing.{IsBegun, IsPutBack}

-- what a contract sees of all that a keeper and its recorder hand something to: two sinks, a herald, a shelf and its
-- files, and a reporter
pub record Outlets (W F H S V Y : Type 0) : Type 0 where
  pub lines : W → Written
  pub notices : F → Written
  pub begun : H → Option (List ℕ)
  pub opened : S → Option (List ℕ)
  pub filed : S → Option (List Filed)
  pub fresh : Option (List ℕ)
  pub written : V → Option (List ℕ)
  pub held : V → ℕ
  pub heard : Y → Option (List Report)

abbrev pub outlets : {W F H S V Y : Type 0} → (W → Option (List ℕ)) → (W → ℕ) → (F → Option (List ℕ)) → (F → ℕ) →
    (H → Option (List ℕ)) → (S → Option (List ℕ)) → (S → Option (List Filed)) → Option (List ℕ) →
    (V → Option (List ℕ)) → (V → ℕ) → (Y → Option (List Report)) → Outlets W F H S V Y
outlets lines unput notices untold begun opened filed fresh written held heard = record {
  lines = λ w. (lines w, unput w);
  notices = λ f. (notices f, untold f);
  begun = begun;
  opened = opened;
  filed = filed;
  fresh = fresh;
  written = written;
  held = held;
  heard = heard;
}

-- what is seen of a keeper: what was written of lives, what people were told, the numbers of the lives that its herald
-- was told of and its shelf opened files for, and the files that the shelf took back
pub record AtKeeper : Type 0 where
  pub lines : Written
  pub notices : Written
  pub begun : Option (List ℕ)
  pub opened : Option (List ℕ)
  pub filed : Option (List Filed)

abbrev pub at_keeper : {W F H S V Y : Type 0} → Outlets W F H S V Y → LifeKeeper W F H S → AtKeeper
at_keeper out k = record {
  lines = out.lines k.writer.now;
  notices = out.notices k.notices.now;
  begun = out.begun k.herald.now;
  opened = out.opened k.shelf.now;
  filed = out.filed k.shelf.now;
}

-- it has the same sinks, the same herald and the same shelf still, and the same terms
abbrev pub IsSame : {W F H S : Type 0} → LifeKeeper W F H S → LifeKeeper W F H S → Type 0
IsSame k l =
    (l.terms ≡ k.terms) × (l.writer.ghost_name ≡ k.writer.ghost_name)
    × (l.notices.ghost_name ≡ k.notices.ghost_name) × (l.herald.ghost_name ≡ k.herald.ghost_name)
    × (l.shelf.ghost_name ≡ k.shelf.ghost_name)

-- before the life of this number, from an opening: the herald is told of it, and a file is opened for its journal, or
-- lives have none
pub record IsOpened {V : Type 0} (written : V → Option (List ℕ)) (fresh : Option (List ℕ)) (terms : Terms) (life : ℕ)
    (o : Setting) (old : AtKeeper) (before : AtRecorder V) (new : AtKeeper) (after : AtRecorder V) : Type 0 where
  pub setting : IsSetting o
  pub lines : new.lines ≡ old.lines
  pub notices : Notices old.notices new.notices
  pub begun : Grows old.begun new.begun (life ∷ [])
  pub opened : Grows old.opened new.opened (life ∷ [])
  pub filed : new.filed ≡ old.filed
  pub file : IsBegun written fresh terms life o after.transcript
  pub others : after ≡ record before { transcript = after.transcript }

abbrev pub opens_by : {W F H S V Q E I Y : Type 0} → Outlets W F H S V Y →
    Opens (LifeKeeper W F H S) (JournalRecorder V Q E I Y)
opens_by out k d life o l e =
    IsSame k l × (e.number ≡ life)
    × IsOpened out.written out.fresh k.terms life o (at_keeper out k) (at_recorder out.heard d) (at_keeper out l)
    (at_recorder out.heard e)

-- after the life of this number: its file is taken back, if it has one, and a line tells how it ended
pub record IsClosed {V : Type 0} (written : V → Option (List ℕ)) (life : ℕ) (past : Past) (old : AtKeeper)
    (before : AtRecorder V) (new : AtKeeper) (after : AtRecorder V) : Type 0 where
  pub is_cut : Bool
  pub lines : TellsEnd life past is_cut old.lines new.lines
  pub notices : Notices old.notices new.notices
  pub begun : new.begun ≡ old.begun
  pub opened : new.opened ≡ old.opened
  pub filed : IsPutBack written life before.transcript old.filed new.filed is_cut
  pub others : after ≡ record before { transcript = None }

abbrev pub closes_by : {W F H S V Q E I Y : Type 0} → Outlets W F H S V Y →
    Closes (LifeKeeper W F H S) (JournalRecorder V Q E I Y)
closes_by out k d life past l e =
    IsSame k l
    × IsClosed out.written life past (at_keeper out k) (at_recorder out.heard d) (at_keeper out l)
    (at_recorder out.heard e)

-- and what the recorder does in between
abbrev pub records_by : {W F H S V Q E I Y : Type 0} → Outlets W F H S V Y → Records (JournalRecorder V Q E I Y)
records_by out d o read e =
    IsRecorded out.written out.held d.number o read (at_recorder out.heard d) (at_recorder out.heard e)
