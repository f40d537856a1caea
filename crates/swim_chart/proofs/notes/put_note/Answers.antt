use Rattle.swim_text.specs.Streams.{puts_less, puts_then}
use Rattle.swim_chart.specs.Notes.{label_text, numbers_text}
use Rattle.swim_chart.proofs.notes.put_note.Goals as goal

pub returns-then-not-put_label-clause-bytes : goal.returns-then-not-put_label-clause-bytes
returns-then-not-put_label-clause-bytes g c =
    puts_less (g.W.Sink.written c.args.writer.now) (g.W.Sink.written c.put_label.new.writer)
    (label_text c.args.relays c.args.arrow.now) (numbers_text c.args.relays c.args.arrow.now)
    c.if-not-put_label.ensures.bytes

pub returns-clause-bytes : goal.returns-clause-bytes
returns-clause-bytes g c =
    puts_then (g.W.Sink.written c.args.writer.now) (g.W.Sink.written c.put_label.new.writer)
    (g.W.Sink.written c.put_numbers.new.writer)
    (label_text c.args.relays c.args.arrow.now) (numbers_text c.args.relays c.args.arrow.now) c.put_numbers.result
    c.if-not-put_label.ensures.bytes c.put_numbers.ensures.bytes
