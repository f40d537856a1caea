use Rattle.swim_text.specs.TwoPuts.{first_failed, both_put, others_of}
use Rattle.swim_metrics.specs.Families.{column_of, member_samples}
use Rattle.swim_metrics.specs.Texts.{samples_text}
use Rattle.swim_metrics.proofs.Lines.{first_member}
use Rattle.swim_metrics.proofs.member_samples.+put_members.Goals as goal

pub returns-then-not-put_member-clause-bytes : goal.returns-then-not-put_member-clause-bytes
returns-then-not-put_member-clause-bytes g t c =
    first_failed (g.W.Sink.written c.args.writer.now) (g.W.Sink.written c.put_member.new.writer)
    (samples_text c.args.series.now.me c.args.series.now.name.now
    (column_of c.args.column.now c.first-item.result))
    (samples_text c.args.series.now.me c.args.series.now.name.now
    (member_samples c.args.column.now (others_of c.args.members.now)))
    (samples_text c.args.series.now.me c.args.series.now.name.now (member_samples c.args.column.now c.args.members.now))
    (first_member c.args.column.now c.args.series.now.me c.args.series.now.name.now c.args.members.now
    c.first-item.result c.in-len1-up.len_at_least c.first-item.is)
    c.if-not-put_member.ensures.bytes

pub returns-clause-bytes : goal.returns-clause-bytes
returns-clause-bytes g t c =
    both_put (g.W.Sink.written c.args.writer.now) (g.W.Sink.written c.put_member.new.writer)
    (g.W.Sink.written c.put_members.new.writer)
    (samples_text c.args.series.now.me c.args.series.now.name.now
    (column_of c.args.column.now c.first-item.result))
    (samples_text c.args.series.now.me c.args.series.now.name.now
    (member_samples c.args.column.now (others_of c.args.members.now)))
    (samples_text c.args.series.now.me c.args.series.now.name.now (member_samples c.args.column.now c.args.members.now))
    c.put_members.result
    (first_member c.args.column.now c.args.series.now.me c.args.series.now.name.now c.args.members.now
    c.first-item.result c.in-len1-up.len_at_least c.first-item.is)
    c.if-not-put_member.ensures.bytes c.put_members.ensures.bytes
