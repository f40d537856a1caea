use Rattle.std.proofs.Common.{sym, ap}
use Rattle.swim_config.specs.Summary.{member_text, members_text}
use Rattle.swim_text.specs.TwoPuts.{first_failed, both_put, first_and_others, others_of}
use Rattle.swim_config.proofs.config_summary.+put_members.Goals as goal

pub returns-then-not-put_member-clause-bytes : goal.returns-then-not-put_member-clause-bytes
returns-then-not-put_member-clause-bytes g t c =
    first_failed (g.W.Sink.written c.args.writer.now) (g.W.Sink.written c.put_member.new.writer)
    (member_text c.first-item.result) (members_text (others_of c.args.members.now))
    (members_text c.args.members.now)
    (ap members_text (sym
    (first_and_others c.args.members.now c.first-item.result c.in-len1-up.len_at_least c.first-item.is)))
    c.if-not-put_member.ensures.bytes

pub returns-clause-bytes : goal.returns-clause-bytes
returns-clause-bytes g t c =
    both_put (g.W.Sink.written c.args.writer.now) (g.W.Sink.written c.put_member.new.writer)
    (g.W.Sink.written c.put_members.new.writer) (member_text c.first-item.result)
    (members_text (others_of c.args.members.now)) (members_text c.args.members.now) c.put_members.result
    (ap members_text (sym
    (first_and_others c.args.members.now c.first-item.result c.in-len1-up.len_at_least c.first-item.is)))
    c.if-not-put_member.ensures.bytes c.put_members.ensures.bytes
