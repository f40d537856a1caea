use Rattle.std.proofs.Common.{◌≡◌, subst}
use Rattle.std.specs.Prelude.{IfOk}
use Rattle.swim_verdicts.specs.VerdictTables.{before_time, rows_with}
use Rattle.swim_verdicts.proofs.verdict_tables.rows_of.Goals as goal

pub returns : goal.returns
returns c =
    let number = c.args.number in
    let time = c.args.time.now in
    let asked = c.args.asked.now in
    subst (λ judged. IfOk c.text_of.result
    (λ rows. rows.text ≡ rows_with (before_time time) c.args.probed number judged time asked)) c.from-2.ensures
    (subst (λ probed. IfOk c.text_of.result
    (λ rows. rows.text ≡ rows_with (before_time time) probed number c.from-2.result time asked)) c.from.ensures
    (subst (λ before. IfOk c.text_of.result
    (λ rows. rows.text ≡ rows_with before c.from.result number c.from-2.result time asked)) c.before_time.ensures
    c.text_of.ensures))
