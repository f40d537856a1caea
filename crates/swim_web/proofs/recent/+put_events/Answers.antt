use Rattle.std.proofs.Common.{true, false, sym, ap, subst, map}
use Rattle.swim_text.specs.Streams.{Puts, one_more}
use Rattle.swim_text.specs.TwoPuts.{first_failed, both_put, first_and_others, others_of}
use Rattle.swim_web.specs.Recent.{events_text, unseen_text}
use Rattle.swim_web.proofs.recent.+put_events.Goals as goal

pub returns-then-not-put_unseen : goal.returns-then-not-put_unseen
returns-then-not-put_unseen g t c =
    first_failed (g.W.Sink.written c.args.writer.now) (g.W.Sink.written c.put_unseen.new.writer)
    (unseen_text c.args.seen (one_more c.args.number) c.first-item.result.items)
    (events_text c.args.seen (one_more c.args.number) (map (λ l. l.items) (others_of c.args.lines.now)))
    (events_text c.args.seen c.args.number (map (λ l. l.items) c.args.lines.now))
    (ap (λ ls. events_text c.args.seen c.args.number (map (λ l. l.items) ls))
    (sym (first_and_others c.args.lines.now c.first-item.result c.in-len1-up.len_at_least c.first-item.is)))
    (subst (λ n. Puts (g.W.Sink.written c.args.writer.now) (g.W.Sink.written c.put_unseen.new.writer)
    (unseen_text c.args.seen n c.first-item.result.items) false) c.saturating_add-next.ensures
    (subst (λ line. Puts (g.W.Sink.written c.args.writer.now) (g.W.Sink.written c.put_unseen.new.writer)
    (unseen_text c.args.seen c.saturating_add-next.result line) false) c.as_slice.ensures.value
    c.if-not-put_unseen.ensures))

pub returns : goal.returns
returns g t c =
    both_put (g.W.Sink.written c.args.writer.now) (g.W.Sink.written c.put_unseen.new.writer)
    (g.W.Sink.written c.put_events.new.writer)
    (unseen_text c.args.seen (one_more c.args.number) c.first-item.result.items)
    (events_text c.args.seen (one_more c.args.number) (map (λ l. l.items) (others_of c.args.lines.now)))
    (events_text c.args.seen c.args.number (map (λ l. l.items) c.args.lines.now)) c.put_events.result
    (ap (λ ls. events_text c.args.seen c.args.number (map (λ l. l.items) ls))
    (sym (first_and_others c.args.lines.now c.first-item.result c.in-len1-up.len_at_least c.first-item.is)))
    (subst (λ n. Puts (g.W.Sink.written c.args.writer.now) (g.W.Sink.written c.put_unseen.new.writer)
    (unseen_text c.args.seen n c.first-item.result.items) true) c.saturating_add-next.ensures
    (subst (λ line. Puts (g.W.Sink.written c.args.writer.now) (g.W.Sink.written c.put_unseen.new.writer)
    (unseen_text c.args.seen c.saturating_add-next.result line) true) c.as_slice.ensures.value
    c.if-not-put_unseen.ensures))
    (subst (λ n. Puts (g.W.Sink.written c.put_unseen.new.writer) (g.W.Sink.written c.put_events.new.writer)
    (events_text c.args.seen n (map (λ l. l.items) (others_of c.args.lines.now))) c.put_events.result)
    c.saturating_add-next.ensures c.put_events.ensures)
