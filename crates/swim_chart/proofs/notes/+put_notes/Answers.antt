use Rattle.std.proofs.Common.{sym, ap}
use Rattle.swim_text.specs.TwoPuts.{first_failed, both_put, first_and_others, others_of}
use Rattle.swim_chart.specs.Notes.{note_text, notes_text}
use Rattle.swim_chart.proofs.notes.+put_notes.Goals as goal

pub returns-then-not-put_note-clause-bytes : goal.returns-then-not-put_note-clause-bytes
returns-then-not-put_note-clause-bytes g t c =
    first_failed (g.W.Sink.written c.args.writer.now) (g.W.Sink.written c.put_note.new.writer)
    (note_text c.args.relays c.first-item.result) (notes_text c.args.relays (others_of c.args.arrows.now))
    (notes_text c.args.relays c.args.arrows.now)
    (ap (notes_text c.args.relays)
    (sym (first_and_others c.args.arrows.now c.first-item.result c.in-len1-up.len_at_least c.first-item.is)))
    c.if-not-put_note.ensures.bytes

pub returns-clause-bytes : goal.returns-clause-bytes
returns-clause-bytes g t c =
    both_put (g.W.Sink.written c.args.writer.now) (g.W.Sink.written c.put_note.new.writer)
    (g.W.Sink.written c.put_notes.new.writer)
    (note_text c.args.relays c.first-item.result) (notes_text c.args.relays (others_of c.args.arrows.now))
    (notes_text c.args.relays c.args.arrows.now) c.put_notes.result
    (ap (notes_text c.args.relays)
    (sym (first_and_others c.args.arrows.now c.first-item.result c.in-len1-up.len_at_least c.first-item.is)))
    c.if-not-put_note.ensures.bytes c.put_notes.ensures.bytes
