-- Which files were examined so far, and what was seen of them.
use Rattle.std.proofs.Common.{take, map}
use denote.Shadow.{shadow}
use denote.Text.{Utf8}
use Rattle.swimsim.proofs.Sighted.{AreSighted}
use Rattle.swimsim.proofs.verifying.verify_each.Given as goal

abbrev pub invariant-loop-path : goal.invariant-loop-path
invariant-loop-path g l =
    shadow (Utf8 l.before)
    × AreSighted (g.E.Examiner.examined l.initial.examiner) (g.E.Examiner.examined l.examiner)
    (map (λ p. p.now) (take l.path-index l.fn.paths)) l.sequence
