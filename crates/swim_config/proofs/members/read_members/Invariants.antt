use Rattle.std.proofs.Common.{◌≡◌, drop}
use Rattle.toml.specs.View.{items_view}
use Rattle.swim_config.specs.Configuration.{members_of}
use Rattle.swim_config.proofs.Views.{after}
use Rattle.swim_config.proofs.members.read_members.Given as goal

abbrev pub invariant-loop-value : goal.invariant-loop-value
invariant-loop-value l =
    members_of (items_view l.values.items) ≡
    after l.members.items (members_of (items_view (drop l.value-index l.values.items)))
