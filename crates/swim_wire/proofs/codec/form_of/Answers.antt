use Rattle.std.proofs.Common.{rules}
use Rattle.swim_wire.proofs.RoundTrip.{has_form, goes_on}
use Rattle.swim_wire.proofs.codec.form_of.Goals as goal

pub returns : goal.returns
returns c = (
  search rules,
  search rules,
  search rules,
  goes_on c.args.bytes.now
      (has_form c.args.bytes.now c.in_ok-version.version c.in_ok-kind.kind c.if-bytes-ne83.false c.if-bytes-ne87.false
      (search rules) (search rules) (search rules) (search rules) (search rules) (search rules) (search rules)),
)
