use Rattle.std.proofs.Common.{List, true, false, subst}
use Rattle.swim_text.specs.Streams.{Puts, puts_less, puts_then}
use Rattle.swim_history.specs.declared.rows.Row.{Row}
use Rattle.swim_config.specs.Warnings.{relays_and_times_text, shared_addresses_text}
use Rattle.swim_config.proofs.warnings.put_shared_and_more.Goals as goal

pub returns-then-not-put_shared_addresses-clause-bytes : goal.returns-then-not-put_shared_addresses-clause-bytes
returns-then-not-put_shared_addresses-clause-bytes g c =
    let put = subst (λ (rows : List Row).
    Puts (g.W.Sink.written c.args.writer.now) (g.W.Sink.written c.put_shared_addresses.new.writer)
    (shared_addresses_text rows) false) c.rows.ensures.value c.if-not-put_shared_addresses.ensures.bytes in
    puts_less (g.W.Sink.written c.args.writer.now) (g.W.Sink.written c.put_shared_addresses.new.writer)
    (shared_addresses_text c.args.config.now.opening.rows) (relays_and_times_text c.args.config.now) put

pub returns-clause-bytes : goal.returns-clause-bytes
returns-clause-bytes g c =
    let put = subst (λ (rows : List Row).
    Puts (g.W.Sink.written c.args.writer.now) (g.W.Sink.written c.put_shared_addresses.new.writer)
    (shared_addresses_text rows) true) c.rows.ensures.value c.if-not-put_shared_addresses.ensures.bytes in
    puts_then (g.W.Sink.written c.args.writer.now) (g.W.Sink.written c.put_shared_addresses.new.writer)
    (g.W.Sink.written c.put_relays_and_times.new.writer) (shared_addresses_text c.args.config.now.opening.rows)
    (relays_and_times_text c.args.config.now) c.put_relays_and_times.result put c.put_relays_and_times.ensures.bytes
