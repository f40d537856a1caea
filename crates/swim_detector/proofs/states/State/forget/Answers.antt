use Rattle.std.proofs.Common.{refl}
use Rattle.swim_detector.proofs.Listing.{forgotten}
use Rattle.swim_detector.proofs.states.State.forget.Goals as goal

pub returns : goal.returns
returns c =
    (forgotten c.args.journal.now.opening c.args.journal.now.past c.args.id c.args.self.now _ c.requires.mirrors
    c.requires.other c.requires.known c.remove.ensures.lists c.unless_removed-self.ensures refl refl refl)
