use Rattle.std.proofs.Common.{codes}
use Rattle.swim_text.specs.Streams.{puts_less, puts_then}
use Rattle.swim_chart.specs.Notes.{first_sent, number_fall, number_text}
use Rattle.swim_chart.specs.Spots.{end_of, start_of}
use Rattle.swim_chart.proofs.notes.put_numbers.Goals as goal

pub returns-then-not-put_number_at-clause-bytes : goal.returns-then-not-put_number_at-clause-bytes
returns-then-not-put_number_at-clause-bytes g c =
    let a = c.args.arrow.now in
    puts_less (g.W.Sink.written c.args.writer.now) (g.W.Sink.written c.put_number_at.new.writer)
    (number_text (start_of c.args.relays a.role) (codes "-11") (first_sent a.role a.sent))
    (number_text (end_of c.args.relays a) (number_fall a.role) a.heard)
    (rw (c.start_of.ensures, c.first_sent-sent.ensures) at c.if-not-put_number_at.ensures.bytes)

pub returns-clause-bytes : goal.returns-clause-bytes
returns-clause-bytes g c =
    let a = c.args.arrow.now in
    puts_then (g.W.Sink.written c.args.writer.now) (g.W.Sink.written c.put_number_at.new.writer)
    (g.W.Sink.written c.put_number_at-2.new.writer)
    (number_text (start_of c.args.relays a.role) (codes "-11") (first_sent a.role a.sent))
    (number_text (end_of c.args.relays a) (number_fall a.role) a.heard) c.put_number_at-2.result
    (rw (c.start_of.ensures, c.first_sent-sent.ensures) at c.if-not-put_number_at.ensures.bytes)
    (rw (c.end_of.ensures, c.number_fall-fall.ensures) at c.put_number_at-2.ensures.bytes)
