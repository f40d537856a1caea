use Rattle.std.proofs.Common.{Some, refl}
use Rattle.swim_evidence.specs.Sequences.{standing_of}
use Rattle.swim_evidence.proofs.OneMore.{one_more_seen}
use Rattle.swim_evidence.proofs.sequences.Sequence.add.Goals as goal

pub returns-clause-seen : goal.returns-clause-seen
returns-clause-seen c = λ seen is.
    one_more_seen seen c.args.self.now (record { before = Some c.args.now; standing = c.worse-self.result }) c.args.now
    (standing_of c.link_of-link.result) is c.link_of-link.ensures.stands c.link_of-link.ensures.untold (cc) refl
