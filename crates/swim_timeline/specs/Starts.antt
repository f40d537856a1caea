-- The starts of periods whose times are known.
use Rattle.std.specs.Prelude.{ℕ, Bool, ◌&&◌, nat_le, List, [], ◌∷◌, ◌++◌, length, Option, Some, None, if◌then◌else◌}
use Rattle.std.specs.Ordering.{nat_cmp}
use Rattle.std.specs.Option.{option_to_list}
use Rattle.std.specs.BTreeMap.{BTreeMap, get}
use Rattle.swim_history.specs.declared.replies.Reply.{Reply}
use Rattle.swim_history.specs.declared.replies.Reply.TheVariants.{Started}
use Rattle.swim_history.specs.declared.entries.Entry.{Entry}
use Rattle.swim_history.specs.Clock.{ticks}
use Rattle.swim_timeline.specs.declared.starts.TimedStart.{TimedStart}
use Rattle.swim_timeline.specs.declared.times.StartTime.{StartTime}

-- a tick is among those from one to another
abbrev pub is_shown : ℕ → ℕ → ℕ → Bool
is_shown first until tick = nat_le first tick && nat_le tick until

abbrev pub start_at : Bool → ℕ → StartTime → Option TimedStart
start_at shown tick time = if shown then Some (record { tick = tick; time = time }) else None

-- the start that an entry is, by its tick and its reply, where its time is known
abbrev pub start_by : ℕ → ℕ → ℕ → Option StartTime → Reply → Option TimedStart
start_by first until tick (Some time) (Started judged probe) = start_at (is_shown first until tick) tick time
start_by first until tick time reply = None

-- those of a history, oldest first: the place of an entry is how many there were before it
abbrev pub starts : ℕ → ℕ → BTreeMap ℕ StartTime → List Entry → List TimedStart
starts first until times [] = []
starts first until times (e ∷ before) =
    starts first until times before
    ++ option_to_list (start_by first until (ticks (e ∷ before)) (get nat_cmp times (length before)) e.reply)
