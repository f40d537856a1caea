-- The marks of a history: what a picture of it shows, each at a tick and a member.
use Rattle.std.specs.Prelude.{ℕ, List, [], ◌∷◌, ◌++◌, Option, Some, None}
use Rattle.swim_history.specs.declared.calls.Call.{Call}
use Rattle.swim_history.specs.declared.calls.Call.TheVariants.{Hear, Join, Remove}
use Rattle.swim_history.specs.declared.replies.Reply.{Reply}
use Rattle.swim_history.specs.declared.replies.Reply.TheVariants.{Started, Asked, Heard, Joined, Removed}
use Rattle.swim_history.specs.declared.replies.Probe.{Probe}
use Rattle.swim_history.specs.declared.entries.Entry.{Entry}
use Rattle.swim_history.specs.Setting.{Setting}
use Rattle.swim_history.specs.Clock.{ticks, period_number}
use Rattle.swim_timeline.specs.declared.picture_marks.PictureMark.{PictureMark}
use Rattle.swim_timeline.specs.declared.picture_marks.MarkKind.{MarkKind}
use Rattle.swim_timeline.specs.declared.picture_marks.MarkKind.TheVariants as kind

abbrev pub mark_at : ℕ → ℕ → MarkKind → List PictureMark
mark_at tick member kind = record { tick = tick; member = member; kind = kind } ∷ []

-- the mark of a start's judgement, with the number of the period that it ends
abbrev pub marks_of_judged : ℕ → ℕ → Option ℕ → List PictureMark
marks_of_judged tick ended None = []
marks_of_judged tick ended (Some member) = mark_at tick member (kind.Judged ended)

-- the mark of a start's probe
abbrev pub marks_of_probe : ℕ → Option Probe → List PictureMark
marks_of_probe tick None = []
marks_of_probe tick (Some probe) = mark_at tick probe.target (kind.Probed probe.number)

-- the marks of an entry, by its call and its reply: tick is how many ticks there were with it, and ended the last
-- period number used before it. Every other entry has none
abbrev pub marks_by : ℕ → ℕ → Call → Reply → List PictureMark
marks_by tick ended call (Started judged probe) = marks_of_judged tick ended judged ++ marks_of_probe tick probe
marks_by tick ended call (Asked target peer number relays) = mark_at tick target (kind.Asked number relays)
marks_by tick ended (Hear source message) Heard = mark_at tick message.target (kind.Heard message.number)
marks_by tick ended (Join id peer) (Joined place) = mark_at tick id kind.Joined
marks_by tick ended (Remove id) Removed = mark_at tick id kind.Removed
marks_by tick ended call reply = []

-- the marks of a history, oldest first
abbrev pub marks : Setting → List Entry → List PictureMark
marks o [] = []
marks o (e ∷ before) = marks o before ++ marks_by (ticks (e ∷ before)) (period_number o before) e.call e.reply
