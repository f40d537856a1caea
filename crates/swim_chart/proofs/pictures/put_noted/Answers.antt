use Rattle.std.proofs.Common.{◌++◌, codes, false}
use Rattle.swim_text.specs.Streams.{puts_less, puts_then}
use Rattle.swim_chart.specs.Notes.{notes_text}
use Rattle.swim_chart.proofs.pictures.put_noted.Goals as goal

pub returns-then-not-put-clause-bytes : goal.returns-then-not-put-clause-bytes
returns-then-not-put-clause-bytes g c =
    puts_less (g.W.Sink.written c.args.writer.now) (g.W.Sink.written c.put.new.self)
    (codes "</g>\n<g aria-hidden=\"true\">\n")
    (notes_text c.args.relays c.args.arrows.now ++ codes "</g>\n</svg>\n") c.if-not-put.ensures.bytes

pub returns-then-not-put_notes-clause-bytes : goal.returns-then-not-put_notes-clause-bytes
returns-then-not-put_notes-clause-bytes g c =
    puts_then (g.W.Sink.written c.args.writer.now) (g.W.Sink.written c.put.new.self)
    (g.W.Sink.written c.put_notes.new.writer) (codes "</g>\n<g aria-hidden=\"true\">\n")
    (notes_text c.args.relays c.args.arrows.now ++ codes "</g>\n</svg>\n") false c.if-not-put.ensures.bytes
    (puts_less (g.W.Sink.written c.put.new.self) (g.W.Sink.written c.put_notes.new.writer)
    (notes_text c.args.relays c.args.arrows.now) (codes "</g>\n</svg>\n") c.if-not-put_notes.ensures.bytes)

pub returns-clause-bytes : goal.returns-clause-bytes
returns-clause-bytes g c =
    puts_then (g.W.Sink.written c.args.writer.now) (g.W.Sink.written c.put.new.self)
    (g.W.Sink.written c.put-2.new.self) (codes "</g>\n<g aria-hidden=\"true\">\n")
    (notes_text c.args.relays c.args.arrows.now ++ codes "</g>\n</svg>\n") c.put-2.result c.if-not-put.ensures.bytes
    (puts_then (g.W.Sink.written c.put.new.self) (g.W.Sink.written c.put_notes.new.writer)
    (g.W.Sink.written c.put-2.new.self) (notes_text c.args.relays c.args.arrows.now) (codes "</g>\n</svg>\n")
    c.put-2.result c.if-not-put_notes.ensures.bytes c.put-2.ensures.bytes)
