-- Entries that change nothing: a message is dropped, a call is refused.
use Rattle.std.specs.Prelude.{◌≡◌, ℕ, Bool, true, false, List, ◌∷◌}
use Rattle.swim_history.specs.declared.replies.Reply.{Reply}
use Rattle.swim_history.specs.declared.replies.Reply.TheVariants.{Dropped, Refused}
use Rattle.swim_history.specs.declared.entries.Entry.{Entry}
use Rattle.swim_history.specs.Setting.{Setting}
use Rattle.swim_history.specs.Clock.{ticks}
use Rattle.swim_history.specs.Aim.{aim, unheard}
use Rattle.swim_history.specs.Rows.{row_of}
use Rattle.swim_history.specs.Changes.{table}
use Rattle.swim_history.specs.Round.{lists}
use Rattle.swim_history.specs.Waiting.{waiting}

-- a message is dropped, or a call refused
abbrev pub is_declining : Reply → Bool
is_declining (Dropped why) = true
is_declining (Refused why) = true
is_declining reply = false

-- all that the rules look at is after the entry as it was before: the clock, the round, the rows of the members and
-- their table, the aim and whether it was heard, the requests that wait
pub record IsUnchanged (o : Setting) (h : List Entry) (e : Entry) : Type 0 where
  pub clock : ticks (e ∷ h) ≡ ticks h
  pub round : lists o (e ∷ h) ≡ lists o h
  pub rows : (id : ℕ) → row_of o (e ∷ h) id ≡ row_of o h id
  pub members : table o (e ∷ h) ≡ table o h
  pub aimed : aim (e ∷ h) ≡ aim h
  pub unheard_aim : unheard o (e ∷ h) ≡ unheard o h
  pub requests : waiting o (e ∷ h) ≡ waiting o h
