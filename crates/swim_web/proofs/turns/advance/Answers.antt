use Rattle.std.proofs.Common.{box_value}
use Rattle.swim_web.proofs.Looking.{chain_keeps}
use Rattle.swim_web.specs.Pages.{is_listed}
use Rattle.swim_web.proofs.turns.advance.Goals as goal

pub returns : goal.returns
returns g c =
    let kept = chain_keeps (λ w. g.S.Shelf.tells (box_value w.shelf)) (λ w. g.S.Shelf.opened (box_value w.shelf))
    (λ w. is_listed w.names.items) (λ w. w.names) (λ w. w.is_full) (λ w. w.recent)
    (λ w. record { asked = g.D.Daemon.asked (box_value w.daemon); is_late = w.is_late }) c.args.web.now
    c.advance.ensures.calls.0 c.advance.new.service c.advance.ensures.calls.2 in
    record {
      served = c.advance.ensures.served;
      answers = c.advance.ensures.calls;
      looks = kept.0;
      keeps = kept.1;
      names = kept.2;
      full = kept.3;
      config = c.advance.ensures.config;
    }
