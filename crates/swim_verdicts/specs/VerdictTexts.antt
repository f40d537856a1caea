-- The texts of the lines that tell what a verified file comes to.
use Rattle.std.specs.Prelude.{ℕ, ◌-◌, ◌==◌, List, [], ◌++◌, codes, decimal, if◌then◌else◌}
use Rattle.swim_evidence.specs.declared.verdicts.Verdict.{Verdict}
use Rattle.swim_evidence.specs.declared.verdicts.Verdict.TheVariants.{Whole, Cut, Missed, Faulty, Starved}
use Rattle.swim_script.specs.declared.faults.ScriptFault.{ScriptFault}
use Rattle.swim_script.specs.FaultTexts.{fault_text}

-- where so many confirmed entries end
abbrev pub end_text : ℕ → List ℕ
end_text confirmed =
    if confirmed == 0 then codes "before entry 0" else codes "behind entry " ++ decimal (confirmed - 1)

-- the last line of a report
abbrev pub closing_text : Verdict ScriptFault → ℕ → List ℕ
closing_text Cut confirmed = codes "cut " ++ (end_text confirmed ++ codes "\n")
closing_text verdict confirmed = []

-- what is said of a file that isn't whole or cut
abbrev pub objection_text : Verdict ScriptFault → ℕ → List ℕ
objection_text Whole confirmed = []
objection_text Cut confirmed = []
objection_text (Missed call) confirmed =
    codes "line " ++
    (decimal call.line ++ (codes ": no answer stands behind the call of entry " ++ decimal call.entry))
objection_text (Faulty fault) confirmed = fault_text fault ++ (codes ", " ++ end_text confirmed)
objection_text Starved confirmed = codes "no memory " ++ end_text confirmed
