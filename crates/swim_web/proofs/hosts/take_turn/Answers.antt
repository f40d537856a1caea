use Rattle.std.proofs.Common.{subst, sym}
use Rattle.swim_web.specs.Recent.{Notes}
use Rattle.swim_web.proofs.hosts.take_turn.Goals as goal

pub returns-clause-notes : goal.returns-clause-notes
returns-clause-notes g c =
    subst (λ kept. Notes (g.T.Teller.heard c.args.teller.now) (g.T.Teller.heard c.listen.new.teller)
    c.args.web.now.recent kept) (sym c.take_turns.ensures.keeps) c.listen.ensures
