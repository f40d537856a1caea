use Rattle.std.proofs.Common.{◌≡◌, ◌++◌, length, ap, ap₂, ◌∙◌}
use Rattle.swim_history.specs.Changes.{ascending}
use Rattle.swim_text.specs.TwoPuts.{first_failed, both_put}
use Rattle.swim_config.specs.Summary.{all_members_text, count_text, members_text}
use Rattle.swim_config.proofs.config_summary.put_all_members.Goals as goal

pub returns-then-not-put_count-clause-bytes : goal.returns-then-not-put_count-clause-bytes
returns-then-not-put_count-clause-bytes g c =
    first_failed (g.W.Sink.written c.args.writer.now) (g.W.Sink.written c.put_count.new.writer)
    (count_text (length c.rows-members.result.now)) (members_text (ascending c.rows-members.result.now))
    (all_members_text c.args.opening.now.rows) (ap all_members_text c.rows-members.ensures.value)
    c.if-not-put_count.ensures.bytes

pub returns-clause-bytes : goal.returns-clause-bytes
returns-clause-bytes g c =
    let sorted : c.as_slice.result.now ≡ ascending c.args.opening.now.rows =
    c.as_slice.ensures.value ∙ (c.table_of-sorted.ensures ∙ ap ascending c.rows-members.ensures.value) in
    both_put (g.W.Sink.written c.args.writer.now) (g.W.Sink.written c.put_count.new.writer)
    (g.W.Sink.written c.put_members.new.writer) (count_text (length c.rows-members.result.now))
    (members_text c.as_slice.result.now)
    (all_members_text c.args.opening.now.rows) c.put_members.result
    (ap₂ (λ listed told. count_text (length listed) ++ members_text told) c.rows-members.ensures.value sorted)
    c.if-not-put_count.ensures.bytes c.put_members.ensures.bytes
