-- The starts of one entry more whose times are known.
use Rattle.std.proofs.Common.{◌≡◌, ℕ, List, ◌∷◌, ◌++◌, length, Option, refl}
use Rattle.std.specs.Ordering.{nat_cmp}
use Rattle.std.specs.Option.{option_to_list}
use Rattle.std.specs.BTreeMap.{BTreeMap, get}
use Rattle.swim_history.specs.declared.entries.Entry.{Entry}
use Rattle.swim_history.specs.Clock.{ticks}
use Rattle.swim_timeline.specs.declared.starts.TimedStart.{TimedStart}
use Rattle.swim_timeline.specs.declared.times.StartTime.{StartTime}
use Rattle.swim_timeline.specs.Starts.{start_by, starts}

pub starts_more : (first until place tick : ℕ) (times : BTreeMap ℕ StartTime) (e : Entry) (h : List Entry)
    (found : List TimedStart) (start : Option TimedStart) →
    length h ≡ place → tick ≡ ticks (e ∷ h) → found ≡ starts first until times h →
    start ≡ start_by first until tick (get nat_cmp times place) e.reply →
    found ++ option_to_list start ≡ starts first until times (e ∷ h)
starts_more first until place tick times e h found start count now is by = rw (is, by, now, ← count) refl
