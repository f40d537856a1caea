-- The bytes so far were taken as a terminal gets them, and nothing failed.
use Rattle.std.proofs.Common.{◌≡◌, true, map, take}
use Rattle.swim_text.specs.Streams.{Puts}
use Rattle.swim_streams.specs.Screens.{shown}
use Rattle.swim_streams.proofs.screens.put_shown.Given as goal

abbrev pub invariant-loop-byte : goal.invariant-loop-byte
invariant-loop-byte g l = record {
  written : Puts (g.W.Sink.written l.initial.writer) (g.W.Sink.written l.writer)
      (map shown (take l.byte-index l.text)) true;
  unfailed : g.W.Sink.failures l.writer ≡ g.W.Sink.failures l.initial.writer;
}
