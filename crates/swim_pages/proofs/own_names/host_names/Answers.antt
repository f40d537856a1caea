use Rattle.swim_pages.proofs.OwnNames.{one_more_own}
use Rattle.swim_pages.specs.HostNames.{listened}
use Rattle.swim_pages.proofs.own_names.host_names.Goals as goal

pub loop-name-preserved : goal.loop-name-preserved
loop-name-preserved c =
    one_more_own (listened c.args.listen) c.args.given.now c.loop-name.name-index _ _ _ c.loop-name-test.true
    c.loop-name.invariant c.in_ok-add_own-3.ensures
