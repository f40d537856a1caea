use Rattle.std.proofs.Common.{◌∙◌, arith}
use Rattle.swim_timeline.proofs.Periods.{first_tick_fits}
use Rattle.swim_timeline.proofs.spans.from.Goals as goal

pub overflow_mul-before : goal.overflow_mul-before
overflow_mul-before c =
    let journal = c.args.journal.now in
    omega (
      arith,
      first_tick_fits journal.opening c.opening-opening.result.now journal.past c.args.number c.last-2.result
          c.from.result c.last_number.result c.len-entries.result
          c.opening-opening.ensures.value c.last-2.ensures.value (c.from.ensures ∙ c.period.ensures.value)
          c.last_number.ensures.value c.len-entries.ensures.value
          (omega (arith, c.if-number-last.false, c.last.ensures.value, c.last-2.ensures.value))
          c.if-number-last_number.false,
    )

pub overflow_cast-before : goal.overflow_cast-before
overflow_cast-before c =
    let journal = c.args.journal.now in
    omega (
      arith,
      first_tick_fits journal.opening c.opening-opening.result.now journal.past c.args.number c.last-2.result
          c.from.result c.last_number.result c.len-entries.result
          c.opening-opening.ensures.value c.last-2.ensures.value (c.from.ensures ∙ c.period.ensures.value)
          c.last_number.ensures.value c.len-entries.ensures.value
          (omega (arith, c.if-number-last.false, c.last.ensures.value, c.last-2.ensures.value))
          c.if-number-last_number.false,
    )

pub overflow_add-before-2 : goal.overflow_add-before-2
overflow_add-before-2 c =
    let journal = c.args.journal.now in
    omega (
      arith,
      first_tick_fits journal.opening c.opening-opening.result.now journal.past c.args.number c.last-2.result
          c.from.result c.last_number.result c.len-entries.result
          c.opening-opening.ensures.value c.last-2.ensures.value (c.from.ensures ∙ c.period.ensures.value)
          c.last_number.ensures.value c.len-entries.ensures.value
          (omega (arith, c.if-number-last.false, c.last.ensures.value, c.last-2.ensures.value))
          c.if-number-last_number.false,
    )
