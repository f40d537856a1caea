use Rattle.swim_recorder.proofs.Told.{newcomer_told}
use Rattle.swim_recorder.proofs.guests.let_in.Goals as goal

pub returns : goal.returns
returns g c = λ number o guests heard hears read tells.
    newcomer_told number o guests heard hears read c.args.watching.now c.args.gallery.now c.admit-is_in.new.self
    c.rows.result.now (g.E.Outlet.taken c.in-Some.outlet) (g.E.Outlet.offers c.in-Some.outlet) c.admit-is_in.result
    c.rows.ensures.value c.admit-is_in.ensures.comes
    (λ life older rows are. c.admit-is_in.ensures.told life older rows c.in-Some.ensures are) tells
