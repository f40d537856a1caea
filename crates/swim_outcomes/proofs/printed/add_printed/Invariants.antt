use Rattle.std.proofs.Common.{◌≡◌, true}
use Rattle.std.specs.List.{list_all}
use Rattle.swim_config.specs.Configuration.{is_printing}
use Rattle.swim_outcomes.proofs.printed.add_printed.Given as goal

abbrev pub invariant-loop-byte : goal.invariant-loop-byte
invariant-loop-byte l = list_all is_printing l.text.items ≡ true
