-- That lives which were kept are what a daemon of a configuration does.
use Rattle.std.proofs.Common.{◌≡◌, List, [], Some, sym, subst, refl}
use Rattle.swim_config.specs.declared.config.Config.{Config}
use Rattle.swim_crew.specs.declared.pasts.LivesEnd.{LivesEnd}
use Rattle.swim_crew.specs.declared.pasts.LivesEnd.TheVariants as ends
use Rattle.swim_crew.specs.declared.pasts.Terms.{Terms}
use Rattle.swim_telling.specs.Notices.{Notices}
use Rattle.swim_telling.specs.Telling.{Written}
use Rattle.swim_outcomes.specs.declared.outcomes.Outcome.{Outcome}
use Rattle.swimd.specs.Daemon.{IsLivedBy, Starts, outcome_of}
use Rattle.swimd.specs.DaemonLives.{AreDaemonLives, AtDaemon, IsBeginning}

starts_by : (config : Config) (old new : Written) (end : LivesEnd) → IsLivedBy config old new (outcome_of end) →
    Starts config old new (outcome_of end)
starts_by config old new ends.Stopped is = is
starts_by config old new ends.Socket is = is
starts_by config old new ends.NoMemory is = is
starts_by config old new ends.NoPlace is = is

pub starts_so : (config : Config) (terms : Terms) (before after : AtDaemon) (new : Written) (end : LivesEnd)
    (outcome : Outcome) → terms ≡ record { seed = config.seed; limit = config.journal } → outcome ≡ outcome_of end →
    new ≡ after.told.keeper.lines → IsBeginning config.opening before →
    AreDaemonLives (Some []) terms config.opening before after end → Starts config before.told.keeper.lines new outcome
starts_so config terms before after new end outcome is_terms is same beginning lived =
    subst (λ (o : Outcome). Starts config before.told.keeper.lines new o) (sym is)
    (starts_by config before.told.keeper.lines new end (record {
      end = end;
      before = before;
      after = after;
      lived = subst (λ (t : Terms). AreDaemonLives (Some []) t config.opening before after end) is_terms lived;
      beginning = beginning;
      began = refl;
      ended = sym same;
      is = refl;
    }))

pub noticed_so : (old mid new : Written) → new ≡ mid → Notices old mid → Notices old new
noticed_so old mid new same noticed = subst (λ (w : Written). Notices old w) (sym same) noticed
