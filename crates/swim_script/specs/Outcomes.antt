-- What is written for what came of a line.
use Rattle.std.specs.Prelude.{ℕ, List, [], ◌∷◌, Option, Some, None}
use Rattle.swim_history.specs.declared.entries.Entry.{Entry}
use Rattle.swim_history.specs.declared.replies.Reply.{Reply}
use Rattle.swim_history.specs.declared.replies.Reply.TheVariants.{Quiet}
use Rattle.swim_detector.specs.Recording.{Recording}
use Rattle.swim_script.specs.declared.choosers.Drawer.{Drawer}
use Rattle.swim_script.specs.declared.outcomes.LineOutcome.{LineOutcome}
use Rattle.swim_script.specs.declared.outcomes.LineOutcome.TheVariants.{Made, Full, NoMemory, Unread, Table, Gap}
use Rattle.swim_script.specs.Texts.{answer_text, wire_text, full_text, no_memory_text}
use Rattle.swim_script.specs.Script.{Asked}
use Rattle.swim_script.specs.Script.Asked.{Calls, Unread as UnreadBytes, Shows, Measures}
use Rattle.swim_script.specs.Holds.{table_of, gap_of}

-- what the line asked
abbrev pub asked_of : LineOutcome → Asked
asked_of (Made call) = Calls call
asked_of (Full call) = Calls call
asked_of (NoMemory call) = Calls call
asked_of (Unread fault) = UnreadBytes fault
asked_of Table = Shows
asked_of (Gap member) = Measures member

-- the newest reply; where there is none, that nothing is to be done
abbrev pub latest : List Entry → Reply
latest [] = Quiet
latest (e ∷ before) = e.reply

-- what is written by what the recorder made
abbrev pub text_with : Recording Drawer → LineOutcome → List ℕ
text_with a (Made call) = answer_text a.opening (latest a.past)
text_with a (Full call) = full_text
text_with a (NoMemory call) = no_memory_text
text_with a (Unread fault) = wire_text fault
text_with a Table = table_of a
text_with a (Gap member) = gap_of member a

-- what is written, which is nothing before the first event line
abbrev pub outcome_text : Option (Recording Drawer) → LineOutcome → List ℕ
outcome_text None outcome = []
outcome_text (Some a) outcome = text_with a outcome
