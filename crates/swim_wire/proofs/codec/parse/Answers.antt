use Rattle.std.proofs.Common.{rules, ◌∙◌}
use Rattle.swim_wire.proofs.RoundTrip.{no_more}
use Rattle.swim_wire.proofs.codec.parse.Goals as goal

pub returns : goal.returns
returns c = (
  c.in_ok-version.ensures.3
      ∙ no_more c.args.bytes.now c.in_ok-sender.ensures.3 (search rules) c.in_ok-at.ensures.1,
  search rules,
)
