-- The ticks of the periods that started.
use Rattle.std.proofs.Common.{◌≡◌, ℕ, zero, suc, ◌+◌, ◌-◌, ◌*◌, ◌/◌, ◌<◌, ◌≤◌, List, length, ap, arith}
use Rattle.std.proofs.Math.Nat.{div-mul-le_self, mul-le-mul_right}
use Rattle.swim_history.specs.declared.entries.Entry.{Entry}
use Rattle.swim_history.specs.Setting.{Setting}
use Rattle.swim_history.specs.Events.{is_tick}
use Rattle.swim_history.specs.Clock.{ticks, number_at, period_number}
use Rattle.swim_history.specs.Laws.UntilProbed.{length-filter-le}
use Rattle.swim_timeline.specs.Spans.{first_tick}

-- the first tick of a period that started came
started : (o : Setting) (number t : ℕ) → o.last < number → number ≤ number_at o.last o.period t →
    first_tick o number ≤ t
started o number zero later used = absurd (omega (arith, used, later))
started o number (suc t) later used =
    let most : number - (o.last + 1) ≤ t / o.period = omega (arith, used) in
    let less : (number - (o.last + 1)) * o.period ≤ t / o.period * o.period = mul-le-mul_right o.period most in
    omega (arith, less, div-mul-le_self t o.period)

pub first_tick_came : (o : Setting) (h : List Entry) (number : ℕ) → o.last < number → number ≤ period_number o h →
    first_tick o number ≤ length h
first_tick_came o h number later used =
    omega (arith, started o number (ticks h) later used, length-filter-le is_tick h)

-- so its number fits where that of the entries does
pub first_tick_fits : (o p : Setting) (h : List Entry) (number last period used count : ℕ) → p ≡ o → last ≡ p.last →
    period ≡ p.period →
    used ≡ period_number o h → count ≡ length h → last < number → number ≤ used →
    (number - (last + 1)) * period + 1 ≤ count
first_tick_fits o p h number last period used count same last_is period_is used_is count_is later most =
    let later_too : o.last < number = omega (arith, later, last_is, ap (λ (s : Setting). s.last) same) in
    let used_too : number ≤ period_number o h = omega (arith, most, used_is) in
    rw (last_is, period_is, same, count_is) (first_tick_came o h number later_too used_too)
