use Rattle.std.proofs.Common.{List, ℕ, subst}
use Rattle.swim_verdicts.specs.VerdictPages.{IsVerdictPage}
use Rattle.swim_pages.proofs.kept_pages.KeptPage.write.Goals as goal

pub invariant_of-result : goal.invariant_of-result
invariant_of-result c = record {
  played = c.args.played.now;
  evidence = c.args.evidence.now;
  tells = c.requires;
  is = subst (λ (path : List ℕ). IsVerdictPage path c.args.played.now c.args.evidence.now c.in_ok-page.page)
      c.as_str.ensures.value c.in_ok-page.ensures;
}
