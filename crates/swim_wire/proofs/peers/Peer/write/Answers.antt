use Rattle.std.proofs.Common.{rules, arith, ap, ◌∙◌}
use Rattle.swim_wire.specs.Address.{address_text}
use Rattle.swim_wire.proofs.Addresses.{is_written}
use Rattle.swim_wire.proofs.peers.Peer.write.Goals as goal

pub returns-clause-text : goal.returns-clause-text
returns-clause-text c =
    rw (
      c.push_str.ensures.bytes,
      c.push-4.ensures.ascii (omega arith),
      c.put_octet-4.ensures.bytes,
      c.push-3.ensures.ascii (omega arith),
      c.put_octet-3.ensures.bytes,
      c.push-2.ensures.ascii (omega arith),
      c.put_octet-2.ensures.bytes,
      c.push.ensures.ascii (omega arith),
      c.put_octet.ensures.bytes,
      c.new-text.ensures,
      c.format.ensures.text,
    )
    (is_written (record { ip = c.self.inside.ip; port = c.self.inside.port }) (search rules) ∙
    ap address_text c.self.view_is)
