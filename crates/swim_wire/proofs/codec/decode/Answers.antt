use Rattle.std.proofs.Common.{arith}
use Rattle.swim_wire.proofs.RoundTrip.{is_found, read_again, is_decoded}
use Rattle.swim_wire.proofs.codec.decode.Goals as goal

pub returns-clause-found : goal.returns-clause-found
returns-clause-found c =
    is_found c.args.bytes.now c.parse.result (λ i. omega (arith, c.type_inv.bytes i)) c.parse.ensures

pub returns-clause-only : goal.returns-clause-only
returns-clause-only c = λ m is. read_again c.args.bytes.now m c.parse.result is c.parse.ensures

pub returns-clause-exact : goal.returns-clause-exact
returns-clause-exact c = is_decoded c.args.bytes.now c.parse.result c.parse.ensures
