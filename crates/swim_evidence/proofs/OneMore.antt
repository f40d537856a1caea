-- One file more.
use Rattle.std.proofs.Common.{◌≡◌, ◌↔◌, List, ◌∷◌, Option, Some, sym, subst, ◌∙◌}
use Rattle.swim_evidence.specs.declared.verdicts.Standing.{Standing}
use Rattle.swim_evidence.specs.declared.verdicts.Standing.TheVariants.{Sound, Starved}
use Rattle.swim_evidence.specs.declared.sequences.Seen.{Seen}
use Rattle.swim_evidence.specs.declared.sequences.Sequence.{Sequence}
use Rattle.swim_evidence.specs.Sequences.{IsPlace, IsSequence, IsUntold, StandsBehind, worse}
use Rattle.swim_evidence.proofs.Standings.{both_sound}

pub one_more_seen : (seen : List Seen) (old new : Sequence) (now : Seen) (link : Standing) → IsSequence seen old →
    (link ≡ Sound) ↔ StandsBehind old.before now → (link ≡ Starved) ↔ IsUntold old.before now →
    new.standing ≡ worse (worse old.standing now.standing) link → new.before ≡ Some now → IsSequence (now ∷ seen) new
one_more_seen seen old new now link is stands untold total before = record {
  before = before;
  good = (
    λ sound.
        let all = (both_sound (worse old.standing now.standing) link).0 (sym total ∙ sound) in
        let both = (both_sound old.standing now.standing).0 all.0 in
        (both.1, subst (λ (b : Option Seen). StandsBehind b now) is.before (stands.0 all.1), is.good.0 both.0),
    λ good.
        let link_is = stands.1 (subst (λ (b : Option Seen). StandsBehind b now) (sym is.before) good.1) in
        let both = (both_sound old.standing now.standing).1 (is.good.1 good.2, good.0) in
        total ∙ (both_sound (worse old.standing now.standing) link).1 (both, link_is),
  );
  worst = (
    old.standing,
    link,
    is.worst,
    subst (λ (b : Option Seen). IsPlace b now link) is.before (record { sound = stands; untold = untold }),
    total,
  );
}
