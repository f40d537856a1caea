use Rattle.std.proofs.Common.{◌∙◌}
use Rattle.swim_keys.proofs.Opening.{opened-sealed, IsSealed-from_opened}
use Rattle.swim_keys.proofs.keyrings.Keys.unseal.Goals as goal

pub returns-clause-found : goal.returns-clause-found
returns-clause-found c = IsSealed-from_opened c.args.self.now c.args.bytes.now _ c.open.ensures

pub returns-clause-only : goal.returns-clause-only
returns-clause-only c = λ text is. c.open.ensures ∙ opened-sealed c.args.self.now c.args.bytes.now text is
