use Rattle.std.proofs.Common.{sym, ap}
use Rattle.swim_config.specs.Warnings.{own_address_text, own_addresses_text}
use Rattle.swim_text.specs.TwoPuts.{first_failed, both_put, first_and_others, others_of}
use Rattle.swim_config.proofs.warnings.+put_own_addresses.Goals as goal

pub returns-then-not-put_own_address-clause-bytes : goal.returns-then-not-put_own_address-clause-bytes
returns-then-not-put_own_address-clause-bytes g t c =
    first_failed (g.W.Sink.written c.args.writer.now) (g.W.Sink.written c.put_own_address.new.writer)
    (own_address_text c.args.listen.now c.first-item.result)
    (own_addresses_text c.args.listen.now (others_of c.args.members.now))
    (own_addresses_text c.args.listen.now c.args.members.now)
    (ap (own_addresses_text c.args.listen.now)
    (sym (first_and_others c.args.members.now c.first-item.result c.in-len1-up.len_at_least c.first-item.is)))
    c.if-not-put_own_address.ensures.bytes

pub returns-clause-bytes : goal.returns-clause-bytes
returns-clause-bytes g t c =
    both_put (g.W.Sink.written c.args.writer.now) (g.W.Sink.written c.put_own_address.new.writer)
    (g.W.Sink.written c.put_own_addresses.new.writer) (own_address_text c.args.listen.now c.first-item.result)
    (own_addresses_text c.args.listen.now (others_of c.args.members.now))
    (own_addresses_text c.args.listen.now c.args.members.now) c.put_own_addresses.result
    (ap (own_addresses_text c.args.listen.now)
    (sym (first_and_others c.args.members.now c.first-item.result c.in-len1-up.len_at_least c.first-item.is)))
    c.if-not-put_own_address.ensures.bytes c.put_own_addresses.ensures.bytes
