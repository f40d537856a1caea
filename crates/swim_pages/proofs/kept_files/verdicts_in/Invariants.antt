-- The verdicts so far are those among the findings so far.
use Rattle.std.proofs.Common.{◌≡◌, take}
use Rattle.swim_pages.specs.Shelves.{verdicts_in}
use Rattle.swim_pages.proofs.kept_files.verdicts_in.Given as goal

abbrev pub invariant-loop-finding : goal.invariant-loop-finding
invariant-loop-finding l = l.verdicts.items ≡ verdicts_in (take l.finding-index l.findings)
