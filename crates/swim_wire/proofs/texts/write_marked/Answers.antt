use Rattle.std.proofs.Common.{◌≡◌, ◌+◌, ◌-◌, arith}
use Rattle.std.proofs.lemmas.List.{drop-set}
use Rattle.swim_wire.proofs.texts.write_marked.Goals as goal

pub returns-clause-written : goal.returns-clause-written
returns-clause-written c =
    let digits = c.write_digits-start in
    let e : digits.result - 1 + 1 ≡ digits.result = omega (arith, digits.ensures.start, c.requires.room) in
    rw (drop-set digits.new.buf (digits.result - 1) c.args.mark (omega arith), e, digits.ensures.written)
