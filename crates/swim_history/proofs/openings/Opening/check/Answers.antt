use Rattle.std.proofs.Common.{refl, sym, ◌∙◌}
use Rattle.std.proofs.lemmas.Option.{none-some}
use Rattle.swim_history.specs.Check.{setting_of}
use Rattle.swim_history.specs.Laws.Check.{is_setting, no_fault}
use Rattle.swim_history.proofs.openings.Opening.check.Goals as goal

pub invariant_of-result : goal.invariant_of-result
invariant_of-result c =
    rw c.rows_of.ensures (is_setting c.args.me c.args.k c.args.rtt c.args.period c.args.rows.now c.args.last
    c.args.version c.ranges.last.fits (sym (c.in-None.ensures.first c.args.last c.args.version)))

pub returns-in-Some-clause-exact : goal.returns-in-Some-clause-exact
returns-in-Some-clause-exact c = sym (c.in-Some.ensures.first c.args.last c.args.version)

pub returns-in-Some-clause-accepts : goal.returns-in-Some-clause-accepts
returns-in-Some-clause-accepts c = (
  λ e. absurd cc,
  λ s. absurd (none-some c.in-Some.fault
      (sym (no_fault (setting_of c.args.me c.args.k c.args.rtt c.args.period c.args.rows.now c.args.last c.args.version)
      s) ∙ sym (c.in-Some.ensures.first c.args.last c.args.version))),
)

pub returns-in-None-clause-exact : goal.returns-in-None-clause-exact
returns-in-None-clause-exact c = (sym (c.in-None.ensures.first c.args.last c.args.version), rw c.rows_of.ensures refl)

pub returns-in-None-clause-accepts : goal.returns-in-None-clause-accepts
returns-in-None-clause-accepts c = (
  λ e. is_setting c.args.me c.args.k c.args.rtt c.args.period c.args.rows.now c.args.last c.args.version
      c.ranges.last.fits (sym (c.in-None.ensures.first c.args.last c.args.version)),
  λ s. refl,
)
