use Rattle.std.proofs.Common.{◌++◌, ap, ◌∙◌, rules, arith, drop}
use Rattle.swim_wire.specs.Address.{address_text}
use Rattle.swim_wire.proofs.Addresses.{is_written_back, port_fits, octet_fits}
use Rattle.swim_wire.proofs.texts.write_address.Goals as goal

pub write_marked-start-requires-clause-room : goal.write_marked-start-requires-clause-room
write_marked-start-requires-clause-room c = omega (arith, port_fits c.from.result (omega arith))

pub write_marked-start-requires-2-clause-room : goal.write_marked-start-requires-2-clause-room
write_marked-start-requires-2-clause-room c =
    omega (
      arith,
      port_fits c.from.result (omega arith),
      octet_fits c.from-2.result (omega arith),
    )

pub write_marked-start-requires-3-clause-room : goal.write_marked-start-requires-3-clause-room
write_marked-start-requires-3-clause-room c =
    omega (
      arith,
      port_fits c.from.result (omega arith),
      octet_fits c.from-2.result (omega arith),
      octet_fits c.from-3.result (omega arith),
    )

pub write_marked-start-requires-4-clause-room : goal.write_marked-start-requires-4-clause-room
write_marked-start-requires-4-clause-room c =
    omega (
      arith,
      port_fits c.from.result (omega arith),
      octet_fits c.from-2.result (omega arith),
      octet_fits c.from-3.result (omega arith),
      octet_fits c.from-4.result (omega arith),
    )

pub write_digits-requires : goal.write_digits-requires
write_digits-requires c = (
  omega (
    arith,
    port_fits c.from.result (omega arith),
    octet_fits c.from-2.result (omega arith),
    octet_fits c.from-3.result (omega arith),
    octet_fits c.from-4.result (omega arith),
    octet_fits c.from-5.result (omega arith),
  ),
  search rules,
)

pub returns-clause-start : goal.returns-clause-start
returns-clause-start c =
    omega (
      arith,
      port_fits c.from.result (omega arith),
      octet_fits c.from-2.result (omega arith),
      octet_fits c.from-3.result (omega arith),
      octet_fits c.from-4.result (omega arith),
      octet_fits c.from-5.result (omega arith),
    )

pub returns-clause-within : goal.returns-clause-within
returns-clause-within c = omega (arith)

pub returns-clause-written : goal.returns-clause-written
returns-clause-written c =
    rw (
      c.write_digits.ensures.written,
      c.write_marked-start-4.ensures.written,
      c.write_marked-start-3.ensures.written,
      c.write_marked-start-2.ensures.written,
      c.write_marked-start.ensures.written,
      c.from.ensures,
      c.from-2.ensures,
      c.from-3.ensures,
      c.from-4.ensures,
      c.from-5.ensures,
    )
    (is_written_back (record { ip = c.peer.inside.ip; port = c.peer.inside.port }) (drop c.args.end c.args.bytes.now)
    (search rules) ∙ ap (λ a. address_text a ++ drop c.args.end c.args.bytes.now) c.peer.view_is)
