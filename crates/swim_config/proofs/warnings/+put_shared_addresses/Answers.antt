use Rattle.std.proofs.Common.{sym, ap}
use Rattle.swim_config.specs.Warnings.{shared_address_text, shared_addresses_text}
use Rattle.swim_text.specs.TwoPuts.{first_failed, both_put, first_and_others, others_of}
use Rattle.swim_config.proofs.warnings.+put_shared_addresses.Goals as goal

pub returns-then-not-put_shared_address-clause-bytes : goal.returns-then-not-put_shared_address-clause-bytes
returns-then-not-put_shared_address-clause-bytes g t c =
    first_failed (g.W.Sink.written c.args.writer.now) (g.W.Sink.written c.put_shared_address.new.writer)
    (shared_address_text c.first-item.result (others_of c.args.members.now))
    (shared_addresses_text (others_of c.args.members.now)) (shared_addresses_text c.args.members.now)
    (ap (shared_addresses_text)
    (sym (first_and_others c.args.members.now c.first-item.result c.in-len1-up.len_at_least c.first-item.is)))
    c.if-not-put_shared_address.ensures.bytes

pub returns-clause-bytes : goal.returns-clause-bytes
returns-clause-bytes g t c =
    both_put (g.W.Sink.written c.args.writer.now) (g.W.Sink.written c.put_shared_address.new.writer)
    (g.W.Sink.written c.put_shared_addresses.new.writer)
    (shared_address_text c.first-item.result (others_of c.args.members.now))
    (shared_addresses_text (others_of c.args.members.now)) (shared_addresses_text c.args.members.now)
    c.put_shared_addresses.result
    (ap (shared_addresses_text)
    (sym (first_and_others c.args.members.now c.first-item.result c.in-len1-up.len_at_least c.first-item.is)))
    c.if-not-put_shared_address.ensures.bytes c.put_shared_addresses.ensures.bytes
