use Rattle.std.proofs.Common.{◌++◌, codes, false}
use Rattle.swim_text.specs.Streams.{puts_less, puts_then}
use Rattle.swim_chart.specs.Arrows.{entry_text, opening_text}
use Rattle.swim_chart.proofs.arrows.put_words.Goals as goal

pub returns-then-not-put_opening-clause-bytes : goal.returns-then-not-put_opening-clause-bytes
returns-then-not-put_opening-clause-bytes g c =
    let sent = entry_text (codes ", sent at entry ") c.args.arrow.now.sent in
    let heard = entry_text (codes ", heard at entry ") c.args.arrow.now.heard in
    puts_less (g.W.Sink.written c.args.writer.now) (g.W.Sink.written c.put_opening.new.writer)
    (opening_text c.args.arrow.now) (sent ++ heard) c.if-not-put_opening.ensures.bytes

pub returns-then-not-put_entry-clause-bytes : goal.returns-then-not-put_entry-clause-bytes
returns-then-not-put_entry-clause-bytes g c =
    let sent = entry_text (codes ", sent at entry ") c.args.arrow.now.sent in
    let heard = entry_text (codes ", heard at entry ") c.args.arrow.now.heard in
    puts_then (g.W.Sink.written c.args.writer.now) (g.W.Sink.written c.put_opening.new.writer)
    (g.W.Sink.written c.put_entry.new.writer) (opening_text c.args.arrow.now) (sent ++ heard) false
    c.if-not-put_opening.ensures.bytes
    (puts_less (g.W.Sink.written c.put_opening.new.writer) (g.W.Sink.written c.put_entry.new.writer) sent heard
    c.if-not-put_entry.ensures.bytes)

pub returns-clause-bytes : goal.returns-clause-bytes
returns-clause-bytes g c =
    let sent = entry_text (codes ", sent at entry ") c.args.arrow.now.sent in
    let heard = entry_text (codes ", heard at entry ") c.args.arrow.now.heard in
    puts_then (g.W.Sink.written c.args.writer.now) (g.W.Sink.written c.put_opening.new.writer)
    (g.W.Sink.written c.put_entry-2.new.writer) (opening_text c.args.arrow.now) (sent ++ heard) c.put_entry-2.result
    c.if-not-put_opening.ensures.bytes
    (puts_then (g.W.Sink.written c.put_opening.new.writer) (g.W.Sink.written c.put_entry.new.writer)
    (g.W.Sink.written c.put_entry-2.new.writer) sent heard c.put_entry-2.result c.if-not-put_entry.ensures.bytes
    c.put_entry-2.ensures.bytes)
