use Rattle.std.proofs.Common.{◌∷◌, append_assoc, ap, ap₂, length, subst, sym, ◌∙◌}
use Rattle.std.specs.List.{count_by}
use Rattle.swim_history.specs.declared.calls.Call.{Call}
use Rattle.swim_history.specs.declared.replies.Reply.{Reply}
use Rattle.swim_history.specs.Events.{is_joining, is_tick, is_ticking, joins, judged_in}
use Rattle.swim_history.specs.Sends.{sends_of}
use Rattle.swim_history.specs.Waiting.{asked_in}
use Rattle.swim_events.specs.Watched.{lived_on}
use Rattle.swim_metrics.specs.Counting.{entries, heard_by_relay, heard_directly, is_heard_by_relay, is_heard_directly}
use Rattle.swim_metrics.specs.Counting.{comes_late, is_leaving, is_pinged, is_there, late as late_of, late_in}
use Rattle.swim_metrics.specs.Counting.{judges, leaves, pinged, sends_ask, sends_ping, sent, sent_in, serves}
use Rattle.swim_metrics.specs.Following.{AreOf}
use Rattle.swim_metrics.specs.Waiting.{wait_ended, waits, waits_in}
use Rattle.swim_metrics.proofs.Buckets.{one_more_then}
use Rattle.swim_metrics.proofs.Counted.{counted_if, counted_of, late_then}
use Rattle.swim_metrics.proofs.entry_counts.EntryCounts.add.Goals as goal

pub returns : goal.returns
returns c = λ life older e calls replies ended late held.
    let all = entries (life ∷ older) in record {
      ticks = counted_if is_tick e all c.args.self.now.ticks c.count_if.new.count c.is_tick.result
          (c.is_tick.ensures ∙ ap₂ is_ticking (sym calls) (sym replies)) held.ticks c.count_if.ensures;
      pings_sent = counted_of sends_ping (sends_of e.reply life.opening) (sent (life ∷ older))
          (sent (lived_on life e ∷ older)) c.args.self.now.pings_sent c.more-self.result c.pings_in.result
          (c.pings_in.ensures life.opening ∙
          ap (λ (r : Reply). count_by sends_ping (sends_of r life.opening)) (sym replies))
          (append_assoc (sends_of e.reply life.opening) (sent_in life.opening life.past) (sent older)) held.pings_sent
          c.more-self.ensures;
      pings_heard = counted_if pinged e all c.args.self.now.pings_heard c.count_if-2.new.count c.is_pinged.result
          (c.is_pinged.ensures ∙ ap is_pinged (sym calls)) held.pings_heard c.count_if-2.ensures;
      heard_directly = counted_if heard_directly e all c.args.self.now.heard_directly c.count_if-3.new.count
          c.is_heard_directly.result (c.is_heard_directly.ensures ∙ ap₂ is_heard_directly (sym calls) (sym replies))
          held.heard_directly c.count_if-3.ensures;
      heard_by_relay = counted_if heard_by_relay e all c.args.self.now.heard_by_relay c.count_if-4.new.count
          c.is_heard_by_relay.result (c.is_heard_by_relay.ensures ∙ ap₂ is_heard_by_relay (sym calls) (sym replies))
          held.heard_by_relay c.count_if-4.ensures;
      acks_late = late_then (comes_late life.opening life.past e) c.args.is_late (late_in life.opening life.past)
          (late_of older) c.args.self.now.acks_late c.count_if-5.new.count late held.acks_late c.count_if-5.ensures;
      asks_sent = counted_of sends_ask (sends_of e.reply life.opening) (sent (life ∷ older))
          (sent (lived_on life e ∷ older)) c.args.self.now.asks_sent c.more-self-2.result c.asks_in.result
          (c.asks_in.ensures life.opening ∙
          ap (λ (r : Reply). count_by sends_ask (sends_of r life.opening)) (sym replies))
          (append_assoc (sends_of e.reply life.opening) (sent_in life.opening life.past) (sent older)) held.asks_sent
          c.more-self-2.ensures;
      requests_served = counted_if serves e all c.args.self.now.requests_served c.count_if-6.new.count
          c.is_served.result
          (c.is_served.ensures ∙ ap₂ (λ (a : Call) (r : Reply). is_there (asked_in a r)) (sym calls) (sym replies))
          held.requests_served c.count_if-6.ensures;
      dropped = c.add.ensures all e replies held.dropped;
      verdicts = counted_if judges e all c.args.self.now.verdicts c.count_if-7.new.count c.is_verdict.result
          (c.is_verdict.ensures ∙ ap (λ (r : Reply). is_there (judged_in r)) (sym replies)) held.verdicts
          c.count_if-7.ensures;
      joins = counted_if joins e all c.args.self.now.joins c.count_if-8.new.count c.is_join.result
          (c.is_join.ensures ∙ ap₂ is_joining (sym calls) (sym replies)) held.joins c.count_if-8.ensures;
      removals = counted_if leaves e all c.args.self.now.removals c.count_if-9.new.count c.is_removal.result
          (c.is_removal.ensures ∙ ap₂ is_leaving (sym calls) (sym replies)) held.removals c.count_if-9.ensures;
      lives = held.lives;
      entries = one_more_then (length life.past) c.args.self.now.entries c.more-self-3.result held.entries
          c.more-self-3.ensures;
      waits = subst (λ ws. AreOf c.add-2.new.self ws)
          (sym (append_assoc (wait_ended e life.past) (waits_in life.past) (waits older)))
          (c.add-2.ensures (wait_ended e life.past) (waits (life ∷ older)) ended held.waits);
    }
