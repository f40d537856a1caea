use Rattle.std.proofs.Common.{◌++◌, sym, ap, codes}
use Rattle.std.specs.Prelude.{decimal}
use Rattle.swim_text.specs.TwoPuts.{first_failed, both_put, first_and_others, others_of}
use Rattle.swim_verdicts.specs.VerdictTables.{ids_after}
use Rattle.swim_verdicts.proofs.verdict_tables.+put_ids.Goals as goal

pub returns-then-not-put_id : goal.returns-then-not-put_id
returns-then-not-put_id g t c =
    first_failed (g.W.Sink.written c.args.writer.now) (g.W.Sink.written c.put_id.new.writer)
    (c.args.lead.now ++ decimal c.first-item.result.id) (ids_after (codes ", ") (others_of c.args.relays.now))
    (ids_after c.args.lead.now c.args.relays.now)
    (ap (ids_after c.args.lead.now)
    (sym (first_and_others c.args.relays.now c.first-item.result c.in-len1-up.len_at_least c.first-item.is)))
    c.if-not-put_id.ensures

pub returns : goal.returns
returns g t c =
    both_put (g.W.Sink.written c.args.writer.now) (g.W.Sink.written c.put_id.new.writer)
    (g.W.Sink.written c.put_ids.new.writer) (c.args.lead.now ++ decimal c.first-item.result.id)
    (ids_after (codes ", ") (others_of c.args.relays.now)) (ids_after c.args.lead.now c.args.relays.now)
    c.put_ids.result
    (ap (ids_after c.args.lead.now)
    (sym (first_and_others c.args.relays.now c.first-item.result c.in-len1-up.len_at_least c.first-item.is)))
    c.if-not-put_id.ensures c.put_ids.ensures
