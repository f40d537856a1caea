use Rattle.std.proofs.Common.{ap, ◌∙◌}
use Rattle.swim_wire.specs.Address.{address_of}
use Rattle.swim_wire.specs.AddressLaws.{address_read}
use Rattle.swim_wire.proofs.Addresses.{is_found}
use Rattle.swim_wire.proofs.peers.Peer.read.Goals as goal

pub returns-clause-found : goal.returns-clause-found
returns-clause-found c = is_found c.args.text.now c.parse.result c.parse.ensures

pub returns-clause-only : goal.returns-clause-only
returns-clause-only c = λ p is text. c.parse.ensures ∙ ap address_of text ∙ address_read p is
