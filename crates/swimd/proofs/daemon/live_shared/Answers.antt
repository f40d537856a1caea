use Rattle.std.proofs.Common.{rules, ◌≡◌, List, map, Some, ap, ◌∙◌}
use Rattle.swim_trail.specs.Noted.{value_in}
use Rattle.swim_reports.specs.Folders.{filed_in}
use Rattle.swimd.proofs.Kept.{noticed_so, starts_so}
use Rattle.swimd.proofs.daemon.live_shared.Goals as goal

pub returns-clause-starts : goal.returns-clause-starts
returns-clause-starts g c =
    starts_so c.args.planned.config c.terms_of-terms.result _ _ _ c.keep_lives-end.result.0 c.outcome_of.result
    c.terms_of-terms.ensures c.outcome_of.ensures (search rules)
    (record {
      received = c.in-Ok-crew.ensures.receiving;
      returning = c.in-Ok-crew.ensures.returning;
      me = c.in-Ok-crew.ensures.me;
      ticked = c.in-Ok-crew.ensures.ticking;
      knocked = ap g.D.Door.faults c.in-Ok-crew.ensures.door ∙ c.requires;
      connected = c.in-Ok-crew.ensures.connections;
      told = record {
        begun = ap (λ lives. Some (map value_in lives)) c.new-herald.ensures;
        opened = ap (λ lives. Some (map value_in lives)) c.in-Ok.ensures.opened;
        filed = ap (λ files. Some (map filed_in files)) c.in-Ok.ensures.filed;
        gallery = c.in-Ok-crew.ensures.gallery;
        heard = c.in-Ok-crew.ensures.heard;
      };
    })
    c.keep_lives-end.ensures.lived

pub returns-clause-notices : goal.returns-clause-notices
returns-clause-notices g c = noticed_so _ _ _ (search rules) c.keep_lives-end.ensures.notices
