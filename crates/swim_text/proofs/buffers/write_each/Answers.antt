use Rattle.std.proofs.Common.{arith, length-drop}
use Rattle.std.proofs.lemmas.List.{take_rest}
use Rattle.std.proofs.Math.Seq.{take-add}
use Rattle.swim_text.specs.Streams.{appends_both}
use Rattle.swim_text.proofs.buffers.write_each.Goals as goal

pub loop-sent-preserved : goal.loop-sent-preserved
loop-sent-preserved g c =
    let bytes = c.args.bytes.now in
    let sent = c.loop-sent.sent in
    let count = c.write_some-count.result in
    let within = rw (take_rest bytes sent) at c.write_some-count.ensures.within in
    let written = rw (take_rest bytes sent) at c.write_some-count.ensures.bytes in
    record {
      within = omega (arith, length-drop sent bytes, within);
      written = rw (take-add sent count bytes) (appends_both _ _ _ _ _ c.loop-sent.invariant.written written);
    }
