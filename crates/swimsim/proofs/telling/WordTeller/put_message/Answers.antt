use Rattle.std.proofs.Common.{◌∙◌, inr, rules}
use Rattle.swimsim.proofs.telling.WordTeller.put_message.Goals as goal

pub returns-in-Ok-clause-bytes : goal.returns-in-Ok-clause-bytes
returns-in-Ok-clause-bytes g c =
    (c.as_bytes.result.now, inr (search rules, c.as_bytes.ensures.value ∙ c.in-Ok.ensures), c.put.ensures.bytes)
