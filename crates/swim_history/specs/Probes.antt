-- The probes of a history, and the orders that were drawn in it.
use Rattle.std.specs.Prelude.{◌≡◌, ℕ, Bool, true, false, List, [], ◌∷◌, ◌++◌, map, Some}
use Rattle.std.specs.List.{concat, list_any}
use Rattle.std.specs.Option.{option_to_list}
use Rattle.swim_history.specs.declared.calls.Call.{Call}
use Rattle.swim_history.specs.declared.calls.Call.TheVariants.{Join, Remove}
use Rattle.swim_history.specs.declared.replies.Probe.{Probe}
use Rattle.swim_history.specs.declared.replies.Reply.{Reply}
use Rattle.swim_history.specs.declared.replies.Reply.TheVariants.{Started, Joined, Removed}
use Rattle.swim_history.specs.declared.entries.Entry.{Entry}
use Rattle.swim_history.specs.declared.probing.Probed.{Probed}
use Rattle.swim_history.specs.Setting.{Setting}
use Rattle.swim_history.specs.Events.{probe_in}
use Rattle.swim_history.specs.Round.{lists, drawn}

-- the probes of a history, oldest first
abbrev pub probes : List Entry → List Probe
probes [] = []
probes (e ∷ before) = probes before ++ option_to_list (probe_in e.reply)

-- the number of a probe's period, and whom it probes
abbrev pub probed_by : Probe → Probed
probed_by probe = record { number = probe.number; member = probe.target }

-- the orders that were drawn in a history, oldest first
abbrev pub drawn_orders : List Entry → List (List ℕ)
drawn_orders [] = []
drawn_orders (e ∷ before) = drawn_orders before ++ option_to_list (drawn e.choice)

-- a member joins, is removed or is judged
abbrev pub is_relisting : Call → Reply → Bool
is_relisting (Join id peer) (Joined place) = true
is_relisting (Remove id) Removed = true
is_relisting call (Started (Some judged) probe) = true
is_relisting call reply = false

abbrev pub relists : Entry → Bool
relists e = is_relisting e.call e.reply

-- as long as nobody joins, is removed or is judged, the members probed are those of the drawn orders, one order
-- after the other; those of the last order that are not probed yet are to be probed next
abbrev pub ProbesAsDrawn : Setting → List Entry → Type 0
ProbesAsDrawn o h =
    list_any relists h ≡ false → let rest = (lists o h).rest in
    map (λ probe. probe.target) (probes h) ++ rest ≡ concat (drawn_orders h)
