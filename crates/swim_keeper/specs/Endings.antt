-- The lines that tell how lives ended.
use Rattle.std.specs.Prelude.{◌≡◌, ℕ, Bool, true, false, List, [], ◌++◌, length, codes, decimal}
use Rattle.swim_history.specs.Judgement.{judgements}
use Rattle.swim_telling.specs.Telling.{TellsText, Written}
use Rattle.swim_work.specs.declared.counts.Counts.{Counts}
use Rattle.swim_work.specs.declared.counts.Why.{Why}
use Rattle.swim_work.specs.declared.counts.Why.TheVariants.{JournalFull}
use Rattle.swim_work.specs.Ends.{why_text}
use Rattle.swim_crew.specs.declared.pasts.Past.{Past}
use Rattle.swim_crew.specs.Ends.{counted, is_stopped}

-- that the journal was to be written, and wasn't, or not all of it
abbrev pub cut_text : Bool → List ℕ
cut_text false = []
cut_text true = codes " journal cut"

-- what was counted beside the journal's entries, and whether the journal was cut
abbrev pub counts_text : Counts → Bool → List ℕ
counts_text counts is_cut =
    codes " unsent " ++ (decimal counts.unsent ++ (codes " wire " ++ (decimal counts.wire ++ (codes " refused "
    ++ (decimal counts.refused ++ (cut_text is_cut ++ codes "\n"))))))

-- what follows the words that say which life it was, and why it ended
abbrev pub past_text : Past → Bool → List ℕ
past_text past is_cut =
    let journal = past.journal in
    let judged = length (judgements journal.opening journal.past) in
    codes " entries " ++ (decimal (length journal.past) ++ (codes " judged "
    ++ (decimal judged ++ counts_text (counted past.ends) is_cut)))

-- the line of the last life
abbrev pub ended_text : Past → Bool → List ℕ
ended_text past is_cut = codes "ended " ++ (why_text past.why ++ past_text past is_cut)

-- the line of a life whose journal was full
abbrev pub life_text : ℕ → Past → Bool → List ℕ
life_text number past is_cut = codes "life " ++ (decimal number ++ past_text past is_cut)

-- the line of a life that ended so
abbrev pub line_of : Why → ℕ → Past → Bool → List ℕ
line_of JournalFull number past is_cut = life_text number past is_cut
line_of why number past is_cut = ended_text past is_cut

-- the line of a life was written so
abbrev pub TellsLife : ℕ → Past → Bool → Written → Written → Type 0
TellsLife number past is_cut old new = TellsText (line_of past.why number past is_cut) old new

-- the line of a life that was stopped at once
abbrev pub stopped_text : List ℕ
stopped_text = codes "ended stopped entries 0 judged 0 unsent 0 wire 0 refused 0\n"

-- a life was told to stop whose journal was full
abbrev pub full_and : Why → Bool → Bool
full_and JournalFull is_stopped = is_stopped
full_and why is_stopped = false

abbrev pub is_stopped_full : Past → Bool
is_stopped_full past = full_and past.why (is_stopped past.ends)

-- the end was written as if the next life had been stopped at once, or nothing was
abbrev pub TellsStop : Bool → Written → Written → Type 0
TellsStop true old new = TellsText stopped_text old new
TellsStop false old new = new ≡ old

-- how a life ended was written; and the end behind it, where it was told to stop while its journal was full
pub record TellsEnd (number : ℕ) (past : Past) (is_cut : Bool) (old new : Written) : Type 0 where
  pub between : Written
  pub life : TellsLife number past is_cut old between
  pub stop : TellsStop (is_stopped_full past) between new
