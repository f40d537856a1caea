use Rattle.std.proofs.Common.{sym, ◌∙◌}
use Rattle.swim_rejoin.specs.Failed.{is_failed}
use Rattle.swim_rejoin.proofs.Finding.{find-at_none, find-at_position}
use Rattle.swim_rejoin.proofs.knockers.first_failed.Goals as goal

pub returns-in-Some : goal.returns-in-Some
returns-in-Some c =
    sym (find-at_position is_failed c.args.rows.now c.in-Some.place c.index-rows-place.result
    (sym c.place_of_failed.ensures ∙ c.in-Some.is) c.index-rows-place.is)

pub returns-in-None : goal.returns-in-None
returns-in-None c = sym (find-at_none is_failed c.args.rows.now (sym c.place_of_failed.ensures ∙ c.in-None.is))
