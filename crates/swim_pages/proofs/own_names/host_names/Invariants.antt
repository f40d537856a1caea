-- The names so far are those of what it listens at, and of what was given so far.
use Rattle.std.proofs.Common.{◌≡◌, ◌++◌, map, string_bytes, take}
use Rattle.std.specs.List.{flat_map}
use Rattle.swim_commands.proofs.Lines.{texts_of}
use Rattle.swim_pages.specs.HostNames.{listened, own_names}
use Rattle.swim_pages.proofs.own_names.host_names.Given as goal

abbrev pub invariant-loop-name : goal.invariant-loop-name
invariant-loop-name l =
    map string_bytes l.names.items ≡
    flat_map own_names (listened l.fn.listen ++ texts_of (take l.name-index l.fn.given))
