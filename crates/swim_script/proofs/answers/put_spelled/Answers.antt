use Rattle.std.proofs.Common.{◌++◌, codes, refl}
use Rattle.swim_wire.specs.Address.{address_text}
use Rattle.swim_text.specs.TwoPuts.{first_failed, both_put}
use Rattle.swim_script.proofs.answers.put_spelled.Goals as goal

pub returns-then-not-put_address-clause-bytes : goal.returns-then-not-put_address-clause-bytes
returns-then-not-put_address-clause-bytes g c =
    first_failed (g.W.Sink.written c.args.writer.now) (g.W.Sink.written c.put_address.new.writer)
    (codes "> " ++ address_text c.args.peer) c.args.spelled.now
    (codes "> " ++ (address_text c.args.peer ++ c.args.spelled.now)) refl c.if-not-put_address.ensures.bytes

pub returns-clause-bytes : goal.returns-clause-bytes
returns-clause-bytes g c =
    both_put (g.W.Sink.written c.args.writer.now) (g.W.Sink.written c.put_address.new.writer)
    (g.W.Sink.written c.put.new.self) (codes "> " ++ address_text c.args.peer) c.args.spelled.now
    (codes "> " ++ (address_text c.args.peer ++ c.args.spelled.now)) c.put.result refl
    c.if-not-put_address.ensures.bytes c.put.ensures.bytes
