use Rattle.std.proofs.Common.{length}
use Rattle.swim_text.specs.Words.{words_by}
use Rattle.swim_script.proofs.OrderParts.{Reading}
use Rattle.swim_script.proofs.arguments.read_order.Given as goal

abbrev pub invariant-loop-part : goal.invariant-loop-part
invariant-loop-part l = Reading (words_by 44 l.text) l.parts l.order.items l.fits

abbrev pub decreases-loop-part : goal.decreases-loop-part
decreases-loop-part l = length l.parts
