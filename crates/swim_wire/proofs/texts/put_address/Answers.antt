use Rattle.std.proofs.Common.{List, ℕ, refl, ap, ◌++◌, ◌-◌, take, drop, replicate, rules}
use Rattle.swim_wire.specs.Address.{address_text}
use Rattle.swim_text.specs.TwoPuts.{first_failed, both_put}
use Rattle.swim_wire.proofs.Addresses.{to_the_end}
use Rattle.swim_wire.proofs.texts.put_address.Goals as goal

pub returns-then-not-put-clause-bytes : goal.returns-then-not-put-clause-bytes
returns-then-not-put-clause-bytes g c =
    first_failed (g.W.Sink.written c.args.writer.now) (g.W.Sink.written c.put.new.self) c.args.word.now
    (address_text c.args.peer.now) (c.args.word.now ++ address_text c.args.peer.now) (refl) c.if-not-put.ensures.bytes

pub returns-clause-bytes : goal.returns-clause-bytes
returns-clause-bytes g c =
    let start = c.write_address-start.result in
    let bytes = c.write_address-start.new.bytes in
    both_put (g.W.Sink.written c.args.writer.now) (g.W.Sink.written c.put.new.self) (g.W.Sink.written c.put-2.new.self)
    c.args.word.now (take (21 - start) (drop start bytes)) (c.args.word.now ++ address_text c.args.peer.now)
    c.put-2.result
    (ap (λ (t : List ℕ). c.args.word.now ++ t)
    (to_the_end 21 start (replicate 21 0) bytes (address_text c.args.peer.now) refl (search rules)
    c.write_address-start.ensures.written)) c.if-not-put.ensures.bytes c.put-2.ensures.bytes
