-- What contracts see of a `Recorder`, and what a call does to it.
use Rattle.std.specs.Prelude.{◌≡◌, ℕ, List, [], ◌∷◌, Option}
use Rattle.swim_history.specs.declared.calls.Call.{Call}
use Rattle.swim_history.specs.declared.replies.Reply.{Reply}
use Rattle.swim_history.specs.declared.replies.Reply.TheVariants.{Quiet}
use Rattle.swim_history.specs.declared.rows.Change.{Change}
use Rattle.swim_history.specs.declared.entries.Choice.{Choice}
use Rattle.swim_history.specs.declared.entries.Entry.{Entry}
use Rattle.swim_history.specs.Setting.{Setting}
use Rattle.swim_history.specs.Clock.{period_number}
use Rattle.swim_history.specs.Changes.{change_by}
use Rattle.swim_history.specs.Run.{Answers, Continues}
use Rattle.swim_history.specs.Drawn.{DrawsEntry}

pub record Recording (C : Type 0) : Type 0 where
  pub opening : Setting
  -- newest first
  pub past : List Entry
  -- how many entries the journal may have
  pub limit : ℕ
  -- how many more entries take no memory
  pub room : ℕ
  pub chooser : C

-- the reply is that of the newest entry; where there is none, that nothing is to be done
abbrev pub IsLatest : List Entry → Reply → Type 0
IsLatest [] reply = reply ≡ Quiet
IsLatest (e ∷ h) reply = reply ≡ e.reply

-- nothing changed but the room for more entries
abbrev pub IsKept : {C : Type 0} → Recording C → Recording C → Type 0
IsKept old new =
    (new.opening ≡ old.opening) × (new.past ≡ old.past) × (new.limit ≡ old.limit) × (new.chooser ≡ old.chooser)

-- the entry was added: it may follow those before it, its choices are the chooser's answers, and nothing else changed
abbrev pub Records : {C : Type 0} → (C → List ℕ → List ℕ → C → Type 0) → (C → ℕ → ℕ → C → Type 0) → Recording C →
    Recording C → Entry → Type 0
Records orders places old new e =
    Continues old.opening old.past e
    × DrawsEntry orders places old.opening old.past e.call e.reply e.choice old.chooser new.chooser
    × (new.past ≡ e ∷ old.past) × (new.opening ≡ old.opening) × (new.limit ≡ old.limit)

-- an entry of that seat with this call was added
abbrev pub RecordsCall : {C : Type 0} → (C → List ℕ → List ℕ → C → Type 0) → (C → ℕ → ℕ → C → Type 0) → Recording C →
    Recording C → ℕ → Call → Type 0
RecordsCall orders places old new seat call =
    (e : Entry) × (e.seat ≡ seat) × (e.call ≡ call) × Records orders places old new e

-- the change is the one that each entry of the call makes which may follow the history
abbrev pub IsChangeOf : Setting → List Entry → Call → Option Change → Type 0
IsChangeOf o h call change = (reply : Reply) → (choice : Choice) → Answers o h call reply choice →
    change ≡ change_by call reply (period_number o h)
