use Rattle.std.proofs.Common.{ap}
use Rattle.swim_doubles.specs.Texts.{TextState, ready_within}
use Rattle.swim_doubles.proofs.texts.TextPolled.look.Goals as goal

pub returns : goal.returns
returns c = record {
  looks = (
    ap (λ (t : TextState). t.left) c.self.view_is,
    ready_within c.is_due.new.fails_in c.self.inside.left.now c.if-is_some.ensures c.if-is_empty.ensures,
  );
}
