-- The texts of answers.
use Rattle.std.specs.Prelude.{ℕ, List, ◌++◌, Option, Some, None, codes, decimal}
use Rattle.arrayvec.specs.ArrayVec.{ArrayVec}
use Rattle.swim_history.specs.declared.rows.Row.{Row}
use Rattle.swim_history.specs.Texts.{feed, table_text, gap_text}
use Rattle.swim_control.specs.declared.desks.Answer.{Answer}
use Rattle.swim_control.specs.declared.desks.Answer.TheVariants.{Joined, Removed, Refused, JournalFull, NoMemory}
use Rattle.swim_control.specs.declared.faults.Fault.{Fault}
use Rattle.swim_control.specs.Commands.{fault_number}
use Rattle.swim_control.specs.Desks.{Told, Shows, Measures, Answers, Counts, Reloads}

abbrev pub fault_text : Fault → List ℕ
fault_text fault = codes "fault " ++ (decimal (fault_number fault) ++ feed)

abbrev pub stopping_text : List ℕ
stopping_text = codes "stopping\n"

-- a member table, or that there is none
abbrev pub list_text : Option (ArrayVec Row) → List ℕ
list_text None = codes "closed\n"
list_text (Some table) = table_text table.items

abbrev pub answer_text : Answer → List ℕ
answer_text (Joined place) = codes "joined " ++ (decimal place ++ feed)
answer_text Removed = codes "removed\n"
answer_text (Refused why) = codes "refused " ++ (decimal why ++ feed)
answer_text JournalFull = codes "journal full\n"
answer_text NoMemory = codes "no memory\n"

abbrev pub told_text : Told → List ℕ
told_text (Shows table) = list_text table
told_text (Measures gap) = gap_text gap
told_text (Answers answer) = answer_text answer
told_text (Counts text) = text.items
told_text (Reloads text) = text.items
