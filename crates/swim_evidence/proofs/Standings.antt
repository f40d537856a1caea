-- Which verdicts speak against a file, and the worse of two standings.
use Rattle.std.proofs.Common.{◌≡◌, ◌↔◌, ◌⊎◌, inl, inr, refl}
use Rattle.swim_evidence.specs.declared.verdicts.Standing.{Standing}
use Rattle.swim_evidence.specs.declared.verdicts.Standing.TheVariants.{Sound, Starved, Accused}
use Rattle.swim_evidence.specs.declared.verdicts.Verdict.{Verdict}
use Rattle.swim_evidence.specs.declared.verdicts.Verdict.TheVariants as verdicts
use Rattle.swim_evidence.specs.Verdicts.{standing_by}
use Rattle.swim_evidence.specs.Sequences.{worse}

either_told : {F W C : Type 0} (v u : Verdict F) → (v ≡ verdicts.Whole → W) → (v ≡ verdicts.Cut → C) → v ≡ u →
    standing_by u ≡ Sound → W ⊎ C
either_told v verdicts.Whole whole cut is sound = inl (whole is)
either_told v verdicts.Cut whole cut is sound = inr (cut is)
either_told v u whole cut is sound = absurd cc

-- nothing speaks against the two verdicts of which one is told where this holds, and the other where that does
pub sound_where : {F W C : Type 0} (v : Verdict F) → (v ≡ verdicts.Whole) ↔ W → (v ≡ verdicts.Cut) ↔ C →
    (standing_by v ≡ Sound) ↔ (W ⊎ C)
sound_where v whole cut = (
  either_told v v whole.0 cut.0 refl,
  λ either. elim either [
    | inl w ↦ rw (whole.1 w) refl
    | inr c ↦ rw (cut.1 c) refl
  ],
)

-- nothing speaks against two exactly where nothing speaks against either
pub both_sound : (a b : Standing) → (worse a b ≡ Sound) ↔ ((a ≡ Sound) × (b ≡ Sound))
both_sound Sound b = (λ is. (refl, is), λ both. both.1)
both_sound Starved Accused = (λ is. absurd cc, λ both. absurd (cc both.0))
both_sound Starved b = (λ is. absurd cc, λ both. absurd (cc both.0))
both_sound Accused b = (λ is. absurd cc, λ both. absurd (cc both.0))
