use Rattle.std.proofs.Common.{◌≡◌, ◌+◌, ◌-◌, drop, refl, rules, arith}
use Rattle.std.proofs.lemmas.Fmt.{length-decimal-le}
use Rattle.std.proofs.lemmas.List.{length-drop, length-take, drop-set, drop_all}
use Rattle.swim_history.proofs.Overwriting.{drop_from_put}
use Rattle.swim_history.proofs.texts.write_failed.Goals as goal

pub write_digits-digits-requires : goal.write_digits-digits-requires
write_digits-digits-requires c =
    (omega (arith, length-decimal-le 20 c.args.number (omega arith) (omega arith) (omega arith)), search rules)

pub overflow_sub-start : goal.overflow_sub-start
overflow_sub-start c = omega (arith, length-decimal-le 20 c.args.number (omega arith) (omega arith) (omega arith))

pub copy_from_slice-requires : goal.copy_from_slice-requires
copy_from_slice-requires c =
    let few = length-decimal-le 20 c.args.number (omega arith) (omega arith) (omega arith) in
    omega (
      arith,
      few,
      length-take 8 (drop (c.write_digits-digits.result - 8) c.write_digits-digits.new.buf),
      length-drop (c.write_digits-digits.result - 8) c.write_digits-digits.new.buf,
    )

pub returns-clause-room : goal.returns-clause-room
returns-clause-room c = omega (arith, length-decimal-le 20 c.args.number (omega arith) (omega arith) (omega arith))

pub returns-clause-written : goal.returns-clause-written
returns-clause-written c =
    let few = length-decimal-le 20 c.args.number (omega arith) (omega arith) (omega arith) in
    let digits = c.write_digits-digits.result in
    let start = digits - 8 in
    let bytes = c.write_digits-digits.new.buf in
    let e : start + (digits - start) ≡ digits = omega (arith, few) in
    rw (
      drop_from_put start (digits - start) bytes c.copy_from_slice.new.self (omega (arith, few)),
      e,
      c.copy_from_slice.ensures.after,
      c.write_digits-digits.ensures.written,
      drop-set c.args.line.now 60 10 (omega arith),
      drop_all 61 c.args.line.now (omega arith),
    ) refl
