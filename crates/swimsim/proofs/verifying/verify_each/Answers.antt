use Rattle.std.proofs.Common.{List, ◌≡◌, ◌+◌, map, take, length, Bor, ℕ, arith, subst, sym, ap, rules}
use Rattle.std.proofs.lemmas.List.{take_all}
use Rattle.swimsim.specs.Sightings.{Sighting}
use Rattle.swimsim.proofs.Sighted.{AreSighted, examined_so, none_sighted, sighted_next}
use Rattle.swimsim.proofs.verifying.verify_each.Goals as goal

pub loop-path-init : goal.loop-path-init
loop-path-init g c = (
  search rules,
  none_sighted (g.E.Examiner.examined c.args.examiner.now) c.new-sequence.result c.new-sequence.ensures,
)

pub loop-path-preserved : goal.loop-path-preserved
loop-path-preserved g c = (
  search rules,
  subst (λ (e : List Sighting). AreSighted (g.E.Examiner.examined c.args.examiner.now) e
      (map (λ (p : Bor (List ℕ)). p.now) (take (c.loop-path.path-index + 1) c.args.paths.now)) c.add-link.new.self)
      (sym c.tell.ensures) (sighted_next (g.E.Examiner.examined c.args.examiner.now)
      (g.E.Examiner.examined c.loop-path.examiner) _ c.args.paths.now
      c.loop-path.path-index _ c.loop-path.sequence c.add-link.new.self c.examine-seen.result
      c.loop-path.invariant.1 c.loop-path-test.true c.examine-seen.ensures c.add-link.ensures.seen),
)

pub returns : goal.returns
returns g c =
    let paths = c.args.paths.now in
    let all : take c.loop-path.path-index paths ≡ paths =
    take_all c.loop-path.path-index paths (omega (arith, c.loop-path-test.false)) in
    let old = g.E.Examiner.examined c.args.examiner.now in
    let new = g.E.Examiner.examined c.loop-path.examiner in
    examined_so old new (map (λ (p : Bor (List ℕ)). p.now) paths) c.loop-path.sequence c.standing.result
    c.status_of.result
    (subst (λ (ps : List (Bor (List ℕ))). AreSighted old new (map (λ (p : Bor (List ℕ)). p.now) ps)
    c.loop-path.sequence) all c.loop-path.invariant.1) c.standing.ensures.good c.standing.ensures.worst
    c.status_of.ensures
