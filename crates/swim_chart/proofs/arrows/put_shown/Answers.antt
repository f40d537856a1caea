use Rattle.swim_text.specs.Streams.{puts_less, puts_then}
use Rattle.swim_chart.specs.Arrows.{stroke_text, words_text}
use Rattle.swim_chart.specs.Spots.{line_of}
use Rattle.swim_chart.proofs.arrows.put_shown.Goals as goal

pub returns-then-not-put_words-clause-bytes : goal.returns-then-not-put_words-clause-bytes
returns-then-not-put_words-clause-bytes g c =
    puts_less (g.W.Sink.written c.args.writer.now) (g.W.Sink.written c.put_words.new.writer)
    (words_text c.args.arrow.now)
    (stroke_text c.args.arrow.now.way.fate (line_of c.args.relays c.args.arrow.now))
    c.if-not-put_words.ensures.bytes

pub returns-clause-bytes : goal.returns-clause-bytes
returns-clause-bytes g c =
    puts_then (g.W.Sink.written c.args.writer.now) (g.W.Sink.written c.put_words.new.writer)
    (g.W.Sink.written c.put_stroke.new.writer) (words_text c.args.arrow.now)
    (stroke_text c.args.arrow.now.way.fate (line_of c.args.relays c.args.arrow.now)) c.put_stroke.result
    c.if-not-put_words.ensures.bytes (rw c.line_of.ensures at c.put_stroke.ensures.bytes)
