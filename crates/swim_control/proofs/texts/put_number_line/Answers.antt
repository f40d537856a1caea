use Rattle.std.proofs.Common.{◌++◌, decimal}
use Rattle.std.proofs.lemmas.List.{append_assoc}
use Rattle.swim_history.specs.Texts.{feed}
use Rattle.swim_text.specs.TwoPuts.{first_failed, both_put}
use Rattle.swim_control.proofs.texts.put_number_line.Goals as goal

pub returns-then-not-put_numbered-clause-bytes : goal.returns-then-not-put_numbered-clause-bytes
returns-then-not-put_numbered-clause-bytes g c =
    first_failed (g.W.Sink.written c.args.writer.now) (g.W.Sink.written c.put_numbered.new.writer)
    (c.args.word.now ++ decimal c.args.number) feed (c.args.word.now ++ (decimal c.args.number ++ feed))
    (append_assoc c.args.word.now (decimal c.args.number) feed) c.if-not-put_numbered.ensures.bytes

pub returns-clause-bytes : goal.returns-clause-bytes
returns-clause-bytes g c =
    both_put (g.W.Sink.written c.args.writer.now) (g.W.Sink.written c.put_numbered.new.writer)
    (g.W.Sink.written c.put.new.self) (c.args.word.now ++ decimal c.args.number) feed
    (c.args.word.now ++ (decimal c.args.number ++ feed)) c.put.result
    (append_assoc c.args.word.now (decimal c.args.number) feed) c.if-not-put_numbered.ensures.bytes c.put.ensures.bytes
