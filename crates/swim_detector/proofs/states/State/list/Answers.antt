use Rattle.std.proofs.Common.{refl, ap}
use Rattle.std.specs.Prelude.{Err}
use Rattle.swim_detector.proofs.Listing.{no_fault, joined}
use Rattle.swim_detector.proofs.states.State.list.Goals as goal

pub unreachable-requires : goal.unreachable-requires
unreachable-requires g c =
    no_fault c.args.journal.now.opening c.args.journal.now.past c.args.self.now c.args.id c.in-Err.field-0
    c.requires.mirrors c.requires.listing
    (λ is. c.in-Err.ensures.listed.0 (ap Err is)) (λ is. (c.in-Err.ensures.full.0 (ap Err is)).1)

pub returns : goal.returns
returns g c peer =
    (joined g.C.Chooser.orders g.C.Chooser.places c.args.journal.now.opening c.args.journal.now.past c.args.id
    c.in-Ok.place peer c.args.self.now _ c.args.chooser.now c.join.new.chooser
    c.requires.mirrors c.requires.listing c.in-Ok.ensures.place c.in-Ok.ensures.drawn c.in-Ok.ensures.ok refl refl refl
    refl)
