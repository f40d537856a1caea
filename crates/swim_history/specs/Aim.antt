-- The aim of a period, and whether an ack of it was heard (section 3.1 of the SWIM paper).
use Rattle.std.specs.Prelude.{ℕ, Bool, List, [], ◌∷◌, Option, Some, None, if◌then◌else◌, find, option_and_then}
use Rattle.std.specs.List.{list_any}
use Rattle.std.specs.Option.{option_map}
use Rattle.swim_history.specs.declared.entries.Entry.{Entry}
use Rattle.swim_history.specs.Setting.{Setting}
use Rattle.swim_history.specs.Events.{is_start, probe_in, removes, acks}
use Rattle.swim_history.specs.Clock.{period_number}

-- the entries since the last one that passes the test, newest first
abbrev pub since : (Entry → Bool) → List Entry → List Entry
since test [] = []
since test (e ∷ before) = if test e then [] else e ∷ since test before

-- the value, unless the test is true
abbrev pub unless : {A : Type 0} → Bool → A → Option A
unless test x = if test then None else Some x

-- whom the last start probed
abbrev pub last_probed : List Entry → Option ℕ
last_probed h = option_map (λ probe. probe.target) (option_and_then (λ e. probe_in e.reply) (find is_start h))

-- the member probed by the last start, unless it was removed since
abbrev pub aim : List Entry → Option ℕ
aim h = option_and_then (λ m. unless (list_any (removes m) (since is_start h)) m) (last_probed h)

-- an ack of that member for this period came in this period
abbrev pub was_heard : Setting → List Entry → ℕ → Bool
was_heard o h m = list_any (acks o.me m (period_number o h)) (since is_start h)

-- the aim, where no ack of it was heard
abbrev pub unheard : Setting → List Entry → Option ℕ
unheard o h = option_and_then (λ m. unless (was_heard o h m) m) (aim h)
