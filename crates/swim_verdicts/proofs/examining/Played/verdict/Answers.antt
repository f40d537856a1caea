use Rattle.std.proofs.Common.{Bool, Option, subst}
use Rattle.swim_script.specs.declared.faults.ScriptFault.{ScriptFault}
use Rattle.swim_verdicts.specs.Examined.{IsVerdictBy, fault_in, is_starved}
use Rattle.swim_verdicts.proofs.examining.Played.verdict.Goals as goal

pub returns : goal.returns
returns c =
    let p = c.args.self.now in
    let fault = c.fault_met-fault.result in
    let cut = c.ends_in_midst-is_cut.result in
    let told = p.witness.confirmations in
    let v = c.verdict_on.result in
    subst (λ (end : Bool). IsVerdictBy (fault_in p) (is_starved p) end told v) c.ends_in_midst-is_cut.ensures
    (subst (λ (starved : Bool). IsVerdictBy (fault_in p) starved cut told v) c.is_starved.ensures
    (subst (λ (met : Option ScriptFault). IsVerdictBy met c.is_starved.result cut told v) c.fault_met-fault.ensures
    (record {
      whole = c.verdict_on.ensures.whole;
      cut = c.verdict_on.ensures.cut;
      starved = c.verdict_on.ensures.starved;
      missed = c.verdict_on.ensures.missed;
      faulty = c.verdict_on.ensures.faulty;
      sound = c.verdict_on.ensures.sound;
    })))
