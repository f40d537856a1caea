use Rattle.std.proofs.Common.{◌≡◌, drop, length}
use Rattle.toml.specs.View.{items_view}
use Rattle.swim_config.specs.GroupKeys.{group_keys_of}
use Rattle.swim_config.proofs.Views.{after}
use Rattle.swim_config.proofs.group_keys.read_keys.Given as goal

abbrev pub invariant-loop-value : goal.invariant-loop-value
invariant-loop-value l = record {
  read : group_keys_of (items_view l.values.items)
      ≡ after l.keys.items (group_keys_of (items_view (drop l.value-index l.values.items)));
  count : length l.keys.items ≡ l.value-index;
}
