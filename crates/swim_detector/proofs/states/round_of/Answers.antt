use Rattle.std.proofs.Common.{◌≡◌, ◌∙◌}
use Rattle.swim_detector.proofs.Finding.{members_of, members_once, members_bound}
use Rattle.swim_detector.proofs.states.round_of.Goals as goal

pub unreachable-requires : goal.unreachable-requires
unreachable-requires c =
    let o = c.args.opening.now in
    let ids : c.as_slice.result.now ≡ members_of o = c.as_slice.ensures.value ∙
    rw c.rows.ensures.value at c.members_up.ensures in
    cc (c.in-Err.ensures.valid.1
    (rw ids (members_once o c.rows.ensures.limits), rw ids (members_bound o c.rows.ensures.limits)))
