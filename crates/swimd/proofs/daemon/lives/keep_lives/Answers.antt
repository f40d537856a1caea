use Rattle.std.proofs.Common.{◌≡◌, List, [], length, map, Some}
use Rattle.swim_trail.specs.Noted.{value_in}
use Rattle.swim_crew.specs.Crews.{stand_at}
use Rattle.swim_keeper.specs.Keeping.{outlets}
use Rattle.swim_keeper.proofs.Lives.{all_kept, all_noticed}
use Rattle.swim_reports.specs.Chronicled.{report_in}
use Rattle.swim_reports.specs.Folders.{filed_in}
use Rattle.swimd.proofs.DaemonLives.{all_lived, guarded, handed, knocks, knocks_signed, knocks_went, receiving}
use Rattle.swimd.proofs.DaemonLives.{signed, socket, talks, ticking, went}
use Rattle.swimd.proofs.daemon.lives.keep_lives.Goals as goal

pub returns-clause-same_writer : goal.returns-clause-same_writer
returns-clause-same_writer g c = (all_kept
    (outlets g.W.Sink.written g.W.Sink.failures g.F.Sink.written g.F.Sink.failures
    (λ a. Some (map value_in a.begun.items)) (λ s. Some (map value_in s.opened.items))
    (λ s. Some (map filed_in s.filed.items)) (Some [])
    (λ f. Some f.text.taken) (λ f. length f.text.held) (λ c. Some (map report_in c.heard.items))) _ _ _
    c.a_kept_life_is_told.ensures c.args.opening _ _ c.run_lives-end.result.0 c.run_lives-end.ensures).0.1

pub returns-clause-same_notices : goal.returns-clause-same_notices
returns-clause-same_notices g c = (all_kept
    (outlets g.W.Sink.written g.W.Sink.failures g.F.Sink.written g.F.Sink.failures
    (λ a. Some (map value_in a.begun.items)) (λ s. Some (map value_in s.opened.items))
    (λ s. Some (map filed_in s.filed.items)) (Some [])
    (λ f. Some f.text.taken) (λ f. length f.text.held) (λ c. Some (map report_in c.heard.items))) _ _ _
    c.a_kept_life_is_told.ensures c.args.opening _ _ c.run_lives-end.result.0 c.run_lives-end.ensures).0.2

pub returns-clause-lived : goal.returns-clause-lived
returns-clause-lived g c = (all_lived (outlets g.W.Sink.written g.W.Sink.failures g.F.Sink.written g.F.Sink.failures
    (λ a. Some (map value_in a.begun.items)) (λ s. Some (map value_in s.opened.items))
    (λ s. Some (map filed_in s.filed.items)) (Some [])
    (λ f. Some f.text.taken) (λ f. length f.text.held) (λ c. Some (map report_in c.heard.items))) handed went receiving
    socket ticking knocks_went (knocks g.D.Door.faults) talks guarded signed knocks_signed
    c.a_kept_life_is_told.ensures c.each_datagram_is_heard.ensures
    c.each_tick_is_a_call.ensures c.each_line_is_called.ensures.life c.args.opening
    (stand_at c.args.crew c.args.keeper.now) (stand_at c.run_lives-end.result.1 c.run_lives-end.new.keeper)
    c.run_lives-end.result.0 c.run_lives-end.ensures).1

pub returns-clause-notices : goal.returns-clause-notices
returns-clause-notices g c = all_noticed _ _ c.args.opening _ _ c.run_lives-end.result.0 (all_kept
    (outlets g.W.Sink.written g.W.Sink.failures g.F.Sink.written g.F.Sink.failures
    (λ a. Some (map value_in a.begun.items)) (λ s. Some (map value_in s.opened.items))
    (λ s. Some (map filed_in s.filed.items)) (Some [])
    (λ f. Some f.text.taken) (λ f. length f.text.held) (λ c. Some (map report_in c.heard.items))) _ _ _
    c.a_kept_life_is_told.ensures c.args.opening _ _ c.run_lives-end.result.0 c.run_lives-end.ensures).1
