-- Which verdict tells want of memory.
use Rattle.std.proofs.Common.{◌≡◌, ◌↔◌, refl}
use Rattle.swim_evidence.specs.declared.verdicts.Standing.TheVariants as standings
use Rattle.swim_evidence.specs.declared.verdicts.Verdict.{Verdict}
use Rattle.swim_evidence.specs.declared.verdicts.Verdict.TheVariants.{Starved}
use Rattle.swim_evidence.specs.Verdicts.{standing_by}

told_starved : {F S : Type 0} (v u : Verdict F) → (v ≡ Starved → S) → v ≡ u → standing_by u ≡ standings.Starved → S
told_starved v Starved starved is standing = starved is
told_starved v u starved is standing = absurd cc

-- memory was refused to find a file out exactly where the verdict on it says so
pub starved_where : {F S : Type 0} (v : Verdict F) → (v ≡ Starved) ↔ S → (standing_by v ≡ standings.Starved) ↔ S
starved_where v starved = (told_starved v v starved.0 refl, λ s. rw (starved.1 s) refl)
