-- The bytes so far were taken, and nothing failed.
use Rattle.std.proofs.Common.{◌≡◌, take}
use Rattle.std.specs.Io.KnownBytes.{Appends}
use Rattle.swim_text.specs.Buffers.{written_of}
use Rattle.swim_text.proofs.std_streams.WriteSink.put_each.Given as goal

abbrev pub invariant-loop-byte : goal.invariant-loop-byte
invariant-loop-byte g l = record {
  written : Appends (written_of g.W.Write.contents l.initial.self) (written_of g.W.Write.contents l.self)
      (take l.byte-index l.text);
  unfailed : l.self.failures ≡ l.initial.self.failures;
}
