use Rattle.std.proofs.Common.{sym, ap}
use Rattle.swim_wire.specs.Pieces.{piece_text, pieces_text}
use Rattle.swim_text.specs.TwoPuts.{first_failed, both_put, first_and_others, others_of}
use Rattle.swim_wire.proofs.pieces.+put_pieces.Goals as goal

pub returns-then-not-put_piece-clause-bytes : goal.returns-then-not-put_piece-clause-bytes
returns-then-not-put_piece-clause-bytes g t c =
    first_failed (g.W.Sink.written c.args.writer.now) (g.W.Sink.written c.put_piece.new.writer)
    (piece_text c.first-item.result) (pieces_text (others_of c.args.pieces.now)) (pieces_text c.args.pieces.now)
    (ap pieces_text (sym (first_and_others c.args.pieces.now c.first-item.result c.in-len1-up.len_at_least
    c.first-item.is))) c.if-not-put_piece.ensures.bytes

pub returns-clause-bytes : goal.returns-clause-bytes
returns-clause-bytes g t c =
    both_put (g.W.Sink.written c.args.writer.now) (g.W.Sink.written c.put_piece.new.writer)
    (g.W.Sink.written c.put_pieces.new.writer) (piece_text c.first-item.result)
    (pieces_text (others_of c.args.pieces.now)) (pieces_text c.args.pieces.now) c.put_pieces.result
    (ap pieces_text (sym (first_and_others c.args.pieces.now c.first-item.result c.in-len1-up.len_at_least
    c.first-item.is))) c.if-not-put_piece.ensures.bytes c.put_pieces.ensures.bytes
