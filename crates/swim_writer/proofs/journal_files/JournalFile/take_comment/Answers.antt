use Rattle.std.proofs.Common.{◌∙◌}
use Rattle.swim_writer.proofs.HeldTexts.{ends_same}
use Rattle.swim_writer.proofs.journal_files.JournalFile.take_comment.Goals as goal

pub put_comment-requires-then-hand_on-clause-behind : goal.put_comment-requires-then-hand_on-clause-behind
put_comment-requires-then-hand_on-clause-behind g c =
    ends_same _ _ c.requires.behind (c.hand_on.ensures.all ∙ c.put_comment.ensures.none c.if-put_comment.false)
