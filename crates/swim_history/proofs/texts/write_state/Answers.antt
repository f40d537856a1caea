use Rattle.std.proofs.Common.{refl, arith}
use Rattle.std.proofs.lemmas.List.{drop_all}
use Rattle.swim_history.proofs.Overwriting.{drop_from_put}
use Rattle.swim_history.proofs.texts.write_state.Goals as goal

pub returns-in-Up-clause-written : goal.returns-in-Up-clause-written
returns-in-Up-clause-written c =
    rw (
      c.in-Up.is,
      drop_from_put 57 4 c.args.line.now c.copy_from_slice.new.self (omega arith),
      c.copy_from_slice.ensures.after,
      drop_all 61 c.args.line.now (omega arith),
    ) refl
