use Rattle.std.proofs.Common.{◌+◌, ◌-◌, ◌≤◌, ap, ◌∙◌, length, drop, arith, length-take}
use Rattle.swim_text.specs.Buffers.{drop_range}
use Rattle.swim_text.proofs.buffers.Buffer.advance.Goals as goal

pub returns-else-self-clause-held : goal.returns-else-self-clause-held
returns-else-self-clause-held c =
    let s = c.self.inside in
    let held = ap (λ w. length w.held) c.self.view_is in
    let fits : s.start + c.args.count ≤ s.end =
    omega (arith, held, length-take (s.end - s.start) (drop s.start s.bytes), c.requires) in
    drop_range s.bytes s.start s.end c.args.count fits ∙ ap (λ w. drop c.args.count w.held) c.self.view_is
