use Rattle.std.proofs.Common.{refl, sym, subst}
use Rattle.swim_script.specs.declared.outcomes.LineOutcome.{LineOutcome}
use Rattle.swim_script.specs.Outcomes.{outcome_text}
use Rattle.swimsim.specs.Telling.{IsWorded, number_line}
use Rattle.swimsim.proofs.telling.WordTeller.tell.Goals as goal

pub returns-in-Table-clause-bytes : goal.returns-in-Table-clause-bytes
returns-in-Table-clause-bytes g c =
    let t = c.args.self.now in
    let recorded = c.args.session.now.recorded in (
      outcome_text recorded c.args.outcome.now,
      subst (λ (o : LineOutcome). IsWorded (number_line t.has_numbers t.entries) t.has_datagrams t.has_reasons
          recorded o (outcome_text recorded o))
          (sym c.in-Table.is) refl,
      c.put.ensures.bytes,
    )

pub returns-in-Gap-clause-bytes : goal.returns-in-Gap-clause-bytes
returns-in-Gap-clause-bytes g c =
    let t = c.args.self.now in
    let recorded = c.args.session.now.recorded in (
      outcome_text recorded c.args.outcome.now,
      subst (λ (o : LineOutcome). IsWorded (number_line t.has_numbers t.entries) t.has_datagrams t.has_reasons
          recorded o (outcome_text recorded o))
          (sym c.in-Gap.is) refl,
      c.put-in-Gap.ensures.bytes,
    )
