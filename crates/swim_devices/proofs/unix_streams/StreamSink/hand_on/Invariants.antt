-- Nothing is put here, and no write counts as a failure.
use Rattle.std.proofs.Common.{◌≡◌}
use Rattle.swim_devices.proofs.unix_streams.StreamSink.hand_on.Given as goal

abbrev pub invariant-loop-write : goal.invariant-loop-write
invariant-loop-write l = record {
  put : l.self.put ≡ l.initial.self.put;
  failures : l.self.failures ≡ l.initial.self.failures;
}
