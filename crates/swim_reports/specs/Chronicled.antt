-- What a chronicler heard.
use Rattle.std.specs.Prelude.{◌≡◌, ℕ, List, [], ◌∷◌, ◌++◌, map}
use Rattle.std.proofs.Common.{ap, ◌∙◌}
use Rattle.swim_recorder.specs.Reports.{Report}
use Rattle.swim_recorder.specs.Reports.Report.{Began, Called}
use Rattle.swim_trail.specs.Noted.{map_more}
use Rattle.swim_reports.specs.declared.chroniclers.Heard.{Heard}
use Rattle.swim_reports.specs.declared.chroniclers.Heard.TheVariants as noted

-- what it noted
abbrev pub Note : Type 0
Note = Heard × List ℕ

abbrev pub report_by : Heard → Report
report_by (noted.Began opening) = Began opening.value
report_by (noted.Called next change) = Called next.value change.value

abbrev pub report_in : Note → Report
report_in i = report_by i.0

-- once one more was noted, it was heard
pub one_report_more : (old new : List Note) (note : Note) (report : Report) → report_in note ≡ report →
    new ≡ old ++ note ∷ [] → map report_in new ≡ map report_in old ++ report ∷ []
one_report_more old new note report is noted =
    map_more report_in old new note noted ∙ ap (λ (r : Report). map report_in old ++ r ∷ []) is
