use Rattle.std.proofs.Common.{sym, subst}
use Rattle.swim_journal.specs.Comments.{EndsLine}
use Rattle.swim_writer.specs.HeldTexts.{AtText, all_of}
use Rattle.swim_writer.proofs.HeldTexts.{comment_or_none}
use Rattle.swim_writer.proofs.held_texts.HeldText.put_comment.Goals as goal

pub invariant_of-self : goal.invariant_of-self
invariant_of-self c = comment_or_none (λ h. h.items) c.self.inside.held c.try_extend_from_slice.new.self _ _ _
    c.try_extend_from_slice.result c.self.invariant
    (subst (λ (d : AtText). EndsLine (all_of d)) (sym c.self.view_is) c.requires.behind) c.requires.comment
    c.try_extend_from_slice.ensures.ok c.try_extend_from_slice.ensures.err
