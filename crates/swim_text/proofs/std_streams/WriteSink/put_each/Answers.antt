use Rattle.swim_text.specs.Streams.{front_put}
use Rattle.swim_text.proofs.std_streams.WriteSink.put_each.Goals as goal

pub returns-then-not-put_byte-clause-bytes : goal.returns-then-not-put_byte-clause-bytes
returns-then-not-put_byte-clause-bytes g c =
    let kept = rw (← c.self.view_is) at c.if-not-put_byte.ensures.bytes in
    front_put _ _ _ c.args.text.now c.loop-byte.byte-index c.loop-byte.invariant.written kept
