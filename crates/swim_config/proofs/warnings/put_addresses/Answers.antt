use Rattle.std.proofs.Common.{List, true, false, subst}
use Rattle.swim_text.specs.Streams.{Puts, puts_less, puts_then}
use Rattle.swim_history.specs.declared.rows.Row.{Row}
use Rattle.swim_config.specs.Warnings.{own_addresses_text, shared_and_more_text}
use Rattle.swim_config.proofs.warnings.put_addresses.Goals as goal

pub returns-then-not-put_own_addresses-clause-bytes : goal.returns-then-not-put_own_addresses-clause-bytes
returns-then-not-put_own_addresses-clause-bytes g c =
    let put = subst (λ (rows : List Row).
    Puts (g.W.Sink.written c.args.writer.now) (g.W.Sink.written c.put_own_addresses.new.writer)
    (own_addresses_text c.args.config.now.listen rows) false) c.rows.ensures.value
    c.if-not-put_own_addresses.ensures.bytes in
    puts_less (g.W.Sink.written c.args.writer.now) (g.W.Sink.written c.put_own_addresses.new.writer)
    (own_addresses_text c.args.config.now.listen c.args.config.now.opening.rows)
    (shared_and_more_text c.args.config.now) put

pub returns-clause-bytes : goal.returns-clause-bytes
returns-clause-bytes g c =
    let put = subst (λ (rows : List Row).
    Puts (g.W.Sink.written c.args.writer.now) (g.W.Sink.written c.put_own_addresses.new.writer)
    (own_addresses_text c.args.config.now.listen rows) true) c.rows.ensures.value
    c.if-not-put_own_addresses.ensures.bytes in
    puts_then (g.W.Sink.written c.args.writer.now) (g.W.Sink.written c.put_own_addresses.new.writer)
    (g.W.Sink.written c.put_shared_and_more.new.writer)
    (own_addresses_text c.args.config.now.listen c.args.config.now.opening.rows)
    (shared_and_more_text c.args.config.now) c.put_shared_and_more.result put c.put_shared_and_more.ensures.bytes
