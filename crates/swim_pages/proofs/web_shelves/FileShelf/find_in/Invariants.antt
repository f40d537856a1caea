-- None of the files so far tells the verdict.
use Rattle.swim_pages.specs.Doubts.{AreDoubts}
use Rattle.swim_pages.proofs.web_shelves.FileShelf.find_in.Given as goal

abbrev pub invariant-loop-file : goal.invariant-loop-file
invariant-loop-file g l = AreDoubts l.member l.number l.text.text
