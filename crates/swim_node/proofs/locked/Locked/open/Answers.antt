use Rattle.std.proofs.Common.{rules}
use Rattle.swim_node.proofs.Drawing.{drawn_first}
use Rattle.swim_node.proofs.locked.Locked.open.Goals as goal

pub invariant_of-locked : goal.invariant_of-locked
invariant_of-locked g c = (
  search rules,
  search rules,
  search rules,
  search rules,
  search rules,
  drawn_first g.C.Chooser.orders g.C.Chooser.places g.N.Naming.opening g.N.Naming.drawn c.open-2.result.past
      c.args.chooser c.open-2.result.chooser (search rules) (search rules) c.requires.drawn,
  search rules,
)
