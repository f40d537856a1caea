-- The numbers by which texts tell why a message was dropped or a call refused.
use Rattle.std.specs.Prelude.{ℕ}
use Rattle.swim_history.specs.declared.replies.DropReason.{DropReason}
use Rattle.swim_history.specs.declared.replies.DropReason.TheVariants.{NotForMe, Borrowed, AboutMe, Unlisted, TableFull}
use Rattle.swim_history.specs.declared.replies.DropReason.TheVariants.{Stray, NoRequest}
use Rattle.swim_history.specs.declared.replies.Refusal.{Refusal}
use Rattle.swim_history.specs.declared.replies.Refusal.TheVariants.{Myself, Listed, Full, Unknown, Spent}

abbrev pub drop_number : DropReason → ℕ
drop_number NotForMe = 1
drop_number Borrowed = 2
drop_number AboutMe = 3
drop_number Unlisted = 4
drop_number TableFull = 5
drop_number Stray = 6
drop_number NoRequest = 7

abbrev pub refusal_number : Refusal → ℕ
refusal_number Myself = 1
refusal_number Listed = 2
refusal_number Full = 3
refusal_number Unknown = 4
refusal_number Spent = 5
