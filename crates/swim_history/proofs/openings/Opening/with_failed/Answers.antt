use Rattle.std.proofs.Common.{◌≡◌, true, arith, refl}
use Rattle.std.proofs.lemmas.Bool.{lt-ltb, le-leb}
use Rattle.swim_history.specs.declared.rows.RowState.TheVariants.{Failed}
use Rattle.swim_history.specs.Setting.{Setting, is_state_past}
use Rattle.swim_history.specs.Laws.Failing.{failed_is}
use Rattle.swim_history.proofs.openings.Opening.with_failed.Goals as goal

pub invariant_of-result : goal.invariant_of-result
invariant_of-result c =
    let o : Setting = record {
      me = c.self.inside.me;
      k = c.self.inside.k;
      rtt = c.self.inside.rtt;
      period = c.self.inside.period;
      rows = c.self.inside.rows.items;
      last = c.self.inside.last;
      version = c.self.inside.version;
    } in
    let used : is_state_past o.last (Failed c.args.number) ≡ true =
    rw (lt-ltb 0 c.args.number (omega arith), le-leb c.args.number c.self.inside.last (omega arith)) refl in
    rw (c.rows_with_failed.ensures, c.rows-2.ensures.value, ← c.self.view_is)
    (failed_is o c.args.id c.args.number c.self.invariant used)
