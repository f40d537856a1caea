use Rattle.std.proofs.Common.{sym, ◌∙◌}
use Rattle.swim_commands.proofs.Lines.{none_more, one_found}
use Rattle.swim_commands.proofs.ask_words.have_feed.Goals as goal

pub returns-then-has_feed : goal.returns-then-has_feed
returns-then-has_feed c =
    sym (one_found c.args.words.now c.loop-word.word-index _ c.as_bytes.result.now c.loop-word-test.true
    c.as_bytes.ensures.value
    (sym c.has_feed.ensures ∙ c.if-has_feed.true))

pub loop-word-preserved : goal.loop-word-preserved
loop-word-preserved c =
    none_more c.args.words.now c.loop-word.word-index _ c.as_bytes.result.now c.loop-word-test.true
    c.as_bytes.ensures.value
    c.loop-word.invariant (sym c.has_feed.ensures ∙ c.if-has_feed.false)
