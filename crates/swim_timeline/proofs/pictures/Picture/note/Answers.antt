use Rattle.std.proofs.Common.{refl, arith}
use Rattle.swim_history.specs.Called.{entry_of}
use Rattle.swim_timeline.proofs.Within.{draws_before, draws_more}
use Rattle.swim_timeline.proofs.pictures.Picture.note.Goals as goal

pub returns-then-self-span-clause-drawn : goal.returns-then-self-span-clause-drawn
returns-then-self-span-clause-drawn c = λ h choice draws.
    let e = entry_of c.args.called.now choice in
    draws_before c.args.opening.now h e c.args.span.first c.args.span.until c.args.self.now _ draws
    (c.ticks_with-self.ensures h choice draws.ticks) (omega (arith, c.if-from-span.false, c.from.ensures))
    c.if-self-span.true refl refl refl refl

pub returns-clause-drawn : goal.returns-clause-drawn
returns-clause-drawn c = λ h choice draws.
    let e = entry_of c.args.called.now choice in
    draws_more c.args.opening.now h e c.args.span.first c.args.span.until c.args.self.now _
    c.number_at-ended.result draws
    (c.ticks_with-self.ensures h choice draws.ticks) (omega (arith, c.if-from-span.false, c.from.ensures))
    c.if-self-span.false refl refl c.number_at-ended.ensures c.in_ok-add_marks.ensures c.in_ok-add_lane.ensures
