use Rattle.std.proofs.Common.{◌≡◌, Some, ap, sym, ◌∙◌}
use Rattle.swim_text.specs.Lines.{failures_sent}
use Rattle.swim_text.proofs.lines.next_line.Goals as goal
use Rattle.swim_text.proofs.lines.next_line.Goals.{then-is_empty, else-is_empty}

pub returns-in-Some-clause-writes : goal.returns-in-Some-clause-writes
returns-in-Some-clause-writes g c =
    let taken = c.in-Some.taken in
    let before = c.loop-reader.invariant.writes in
    elim c.if-is_empty.branch [
      | then-is_empty w ↦
          let met : w.read_byte-met.result ≡ Some taken = cc in
          ap g.W.Sink.failures w.writer-is ∙ (rw met at w.read_byte-met.ensures.writes) ∙
          ap (λ n. failures_sent n taken) before
      | else-is_empty w ↦
          let met : w.read_ready-met.result ≡ Some taken = cc in
          ap g.W.Sink.failures w.writer-is ∙ before ∙
          sym (rw met at (w.read_ready-met.ensures.writes (g.W.Sink.failures c.args.writer.now)))
    ]
