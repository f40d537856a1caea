use Rattle.std.proofs.Common.{codes, length, subst, sym, ◌-◌}
use Rattle.swim_text.specs.Streams.{Puts, puts_less, puts_then}
use Rattle.swim_web.specs.Recent.{events_text, seen_of}
use Rattle.swim_web.proofs.Listening.{stream_is}
use Rattle.swim_web.proofs.recent.Recent.put_stream.Goals as goal

pub returns-then-not-put : goal.returns-then-not-put
returns-then-not-put g c =
    puts_less (g.W.Sink.written c.args.writer.now) (g.W.Sink.written c.put.new.self) (codes "retry: 2000\n\n")
    (events_text (seen_of c.args.self.now.told c.args.number)
    (c.args.self.now.told - length c.args.self.now.lines) c.args.self.now.lines) c.if-not-put.ensures.bytes

pub returns : goal.returns
returns g c =
    puts_then (g.W.Sink.written c.args.writer.now) (g.W.Sink.written c.put.new.self)
    (g.W.Sink.written c.put_events.new.writer) (codes "retry: 2000\n\n")
    (events_text (seen_of c.args.self.now.told c.args.number)
    (c.args.self.now.told - length c.args.self.now.lines) c.args.self.now.lines) c.put_events.result
    c.if-not-put.ensures.bytes
    (subst (λ text. Puts (g.W.Sink.written c.put.new.self) (g.W.Sink.written c.put_events.new.writer) text
    c.put_events.result)
    (stream_is (λ l. l.items) c.args.self.now c.self.inside.told c.self.inside.lines.items c.as_slice.result.now
    c.args.number c.seen_of-seen.result c.saturating_sub-first.result c.len.result (sym c.self.view_is)
    c.seen_of-seen.ensures c.saturating_sub-first.ensures c.len.ensures.value c.as_slice.ensures.value)
    c.put_events.ensures)
