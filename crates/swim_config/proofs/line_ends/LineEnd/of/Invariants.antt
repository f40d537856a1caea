use Rattle.std.proofs.Common.{◌≡◌, ◌≤◌, take}
use Rattle.swim_config.specs.Hiding.{empty_end, ends_at}
use Rattle.swim_config.proofs.line_ends.LineEnd.of.Given as goal

abbrev pub invariant-loop-byte : goal.invariant-loop-byte
invariant-loop-byte l = record {
  end : l.end ≡ ends_at empty_end (take l.byte-index l.line);
  digits : l.end.digits ≤ l.byte-index;
}
