use Rattle.std.proofs.Common.{◌≡◌, ◌+◌, ◌-◌, refl, rules, arith}
use Rattle.std.proofs.lemmas.Fmt.{length-decimal-le}
use Rattle.std.proofs.lemmas.List.{drop-set}
use Rattle.swim_history.proofs.texts.write_row.Goals as goal

pub write_digits-requires : goal.write_digits-requires
write_digits-requires c =
    (omega (arith, length-decimal-le 10 c.from.result (omega arith) (omega arith) (omega arith)), search rules)

pub returns-clause-written : goal.returns-clause-written
returns-clause-written c =
    let address = c.write_address-start.result in
    let e : address - 1 + 1 ≡ address = omega arith in
    rw (
      c.write_digits.ensures.written,
      drop-set c.write_address-start.new.bytes (address - 1) 32 (omega arith),
      e,
      c.write_address-start.ensures.written,
      c.write_state-start.ensures.written,
      c.from.ensures,
      c.get.ensures.value,
    ) refl
