-- What asking a daemon does.
use Rattle.std.specs.Prelude.{◌≡◌, ◌⊎◌, ℕ, ◌<◌, Bool, true, false, List, [], ◌∷◌, ◌++◌, length, take, drop}
use Rattle.std.specs.Prelude.{Option, Some, None, Result, Ok, Err, codes}
use Rattle.std.specs.List.{flat_map, list_any}
use Rattle.std.specs.Io.KnownBytes.{Appends, Consumes, IsAtEnd, Keeps}
use Rattle.swim_text.specs.Cutting.{feed_if}
use Rattle.swim_text.specs.Lines.{has_feed}
use Rattle.swim_text.specs.Streams.{PutsFront}
use Rattle.swim_trail.specs.Growing.{Grows}
use Rattle.swim_commands.specs.declared.askers.Came.{Came}
use Rattle.swim_commands.specs.declared.askers.Came.TheVariants as came
use Rattle.swim_commands.specs.declared.control_lines.NextLine.{NextLine}
use Rattle.swim_commands.specs.declared.control_lines.NextLine.TheVariants.{Line, Over, Fault}
use Rattle.swim_commands.specs.declared.forms.Form.{Form}
use Rattle.swim_outcomes.specs.declared.outcomes.Outcome.{Outcome}
use Rattle.swim_outcomes.specs.declared.outcomes.Outcome.TheVariants.{Asked, AskRefused, AskTimeout}
use Rattle.swim_outcomes.specs.declared.outcomes.Outcome.TheVariants.{Unanswered, AskUnwritten}
use Rattle.swim_outcomes.specs.declared.outcomes.Outcome.TheVariants.{AskUnread, NoDaemon}
use Rattle.swim_commands.specs.Answers.{is_answer_to, is_stopping}
use Rattle.swim_commands.specs.Forms.{is_unmet, needs_counts, shown}

-- ---- lines

-- words with single spaces between them
abbrev pub joined : List (List ℕ) → List ℕ
joined words = drop 1 (flat_map (λ word. 32 ∷ word) words)

-- a line of an input; the last may have no line feed
pub record InputLine : Type 0 where
  pub text : List ℕ
  pub is_ended : Bool

abbrev pub bytes_of : InputLine → List ℕ
bytes_of line = line.text ++ feed_if line.is_ended

-- what is sent of a line: all of it, but of one that is too long only as much as shows that
abbrev pub sent_of : InputLine → List ℕ
sent_of line = take 129 line.text ++ feed_if line.is_ended

-- these bytes were all that was left
abbrev pub IsAll : Option (List ℕ) → List ℕ → Type 0
IsAll None text = Unit {0}
IsAll (Some left) text = left ≡ text

-- the line was taken from the front of what was left; one without a line feed was all that was left
pub record TakesLine (line : InputLine) (old new : Option (List ℕ)) : Type 0 where
  pub taken : Consumes old new (bytes_of line)
  pub one : has_feed line.text ≡ false
  pub some : 0 < length (bytes_of line)
  pub last : line.is_ended ≡ false → IsAll old (bytes_of line)

-- bytes of a line were taken, and then a read failed
abbrev pub TakesPart : Option (List ℕ) → Option (List ℕ) → Type 0
TakesPart old new = (text : List ℕ) × Consumes old new text × (has_feed text ≡ false)

-- what a look for the next line took, and what of it is to be sent
abbrev pub Reads : NextLine → Option (List ℕ) → Option (List ℕ) → List ℕ → Type 0
Reads Line old new sent = (line : InputLine) × TakesLine line old new × (sent ≡ sent_of line)
Reads Over old new sent = IsAtEnd old × Consumes old new []
Reads Fault old new sent = TakesPart old new

-- what the end of an input is, where a line has begun or has not
abbrev pub end_met : Bool → NextLine
end_met true = Line
end_met false = Over

-- ---- who is asked

-- a line that was sent, and what came of it
pub record Sent : Type 0 where
  pub line : List ℕ
  pub came : Came
  pub answer : List ℕ

-- what came of an answer that was waited for: nothing of one that did not come
abbrev pub text_by : Came → List ℕ → List ℕ
text_by came.Answer answer = answer
text_by came.Late answer = []
text_by came.Nothing answer = []

-- the daemon's counts, where they were asked for
abbrev pub counts_of : Option Sent → List ℕ
counts_of None = []
counts_of (Some asked) = text_by asked.came asked.answer

-- what was asked beside a line, to write its answer: the counts, once, where they are needed, and else nothing
abbrev pub IsAskedBeside : Bool → Option Sent → Type 0
IsAskedBeside true (Some asked) = asked.line ≡ codes "stats\n"
IsAskedBeside true None = ⊥
IsAskedBeside false (Some asked) = ⊥
IsAskedBeside false None = Unit {0}

abbrev pub listed : Option Sent → List Sent
listed None = []
listed (Some asked) = asked ∷ []

-- a line and its answer, which is whole and one to that line, and what was asked to write it in a form
pub record Exchange (form : Form) : Type 0 where
  pub line : InputLine
  pub answer : List ℕ
  pub whole : is_answer_to (sent_of line) answer ≡ true
  pub beside : Option Sent
  pub is_beside : IsAskedBeside (needs_counts form answer) beside

-- what was sent for a line with that answer
abbrev pub sent_with : List ℕ → List ℕ → Option Sent → List Sent
sent_with line answer beside = record { line = line; came = came.Answer; answer = answer } ∷ listed beside

abbrev pub sent : (form : Form) → Exchange form → List Sent
sent form e = sent_with (sent_of e.line) e.answer e.beside

-- what was written of it
abbrev pub shown_of : (form : Form) → Exchange form → List ℕ
shown_of form e = shown form (counts_of e.beside) e.answer

-- ---- asking

-- what an input has left, what was written, and what was sent
pub record Asker : Type 0 where
  pub left : Option (List ℕ)
  pub written : Option (List ℕ)
  pub asked : Option (List Sent)

-- line after line was read and sent, once each and in order, with what is asked to write its answer, and the answers to
-- them were written in this form, and nothing else
pub record HasAsked (form : Form) (exchanges : List (Exchange form)) (old new : Asker) : Type 0 where
  pub read : Consumes old.left new.left (flat_map (λ e. bytes_of e.line) exchanges)
  pub wrote : Appends old.written new.written (flat_map (shown_of form) exchanges)
  pub asked : Grows old.asked new.asked (flat_map (sent form) exchanges)

-- an answer says that something was not done, or isn't what its form is made of
abbrev pub has_refusal : (form : Form) → List (Exchange form) → Bool
has_refusal form exchanges = list_any (λ e. is_unmet form e.answer) exchanges

-- the last answer says that the daemon stops
abbrev pub EndsInStop : (form : Form) → List (Exchange form) → Type 0
EndsInStop form exchanges = (before : List (Exchange form)) × (last : Exchange form)
    × (exchanges ≡ before ++ last ∷ []) × (is_stopping last.answer ≡ true)

-- all lines of the input were asked, or those up to a `stop`, and an answer was a refusal, or none was
pub record IsDone (form : Form) (refused : Bool) (old new : Asker) : Type 0 where
  pub exchanges : List (Exchange form)
  pub asked : HasAsked form exchanges old new
  pub refused_is : has_refusal form exchanges ≡ refused
  pub whole : IsAll old.left (flat_map (λ e. bytes_of e.line) exchanges) ⊎ EndsInStop form exchanges

-- lines were asked, and then this became of one more
pub record IsBroken (form : Form) (Last : Asker → Asker → Type 0) (old new : Asker) : Type 0 where
  pub exchanges : List (Exchange form)
  pub mid : Asker
  pub asked : HasAsked form exchanges old mid
  pub last : Last mid new

-- a line was sent, of which this came, and nothing was written
pub record Misses (met : Came) (old new : Asker) : Type 0 where
  pub line : InputLine
  pub answer : List ℕ
  pub taken : TakesLine line old.left new.left
  pub asked : Grows old.asked new.asked (record { line = sent_of line; came = met; answer = answer } ∷ [])
  pub kept : Keeps old.written new.written

-- a line was answered, and not all of the answer could be written
pub record Loses (form : Form) (old new : Asker) : Type 0 where
  pub exchange : Exchange form
  pub taken : TakesLine exchange.line old.left new.left
  pub asked : Grows old.asked new.asked (sent form exchange)
  pub wrote : PutsFront old.written new.written (shown_of form exchange)

-- the input could not be read on
pub record IsUnread (old new : Asker) : Type 0 where
  pub taken : TakesPart old.left new.left
  pub kept : Keeps old.written new.written
  pub asked : Grows old.asked new.asked []

-- all lines were asked, up to a `stop` whose end did not come in time
pub record IsStopped (form : Form) (old new : Asker) : Type 0 where
  pub exchanges : List (Exchange form)
  pub asked : HasAsked form exchanges old new
  pub last : EndsInStop form exchanges

-- how asking the lines of an input ends, whose answers are written in this form
abbrev pub Asking : Form → Asker → Asker → Outcome → Type 0
Asking form old new Asked = IsDone form false old new
Asking form old new AskRefused = IsDone form true old new
Asking form old new AskTimeout = IsBroken form (Misses came.Late) old new ⊎ IsStopped form old new
Asking form old new Unanswered = IsBroken form (Misses came.Nothing) old new
Asking form old new AskUnwritten = IsBroken form (Loses form) old new
Asking form old new AskUnread = IsBroken form IsUnread old new
Asking form old new outcome = ⊥

-- what asking the daemon at a path does, of which nobody knows what it was asked: where there is none, or it lets
-- nobody in, nothing is read and nothing is written
abbrev pub Asks : Form → Option (List ℕ) → Option (List ℕ) → Option (List ℕ) → Option (List ℕ) → Outcome → Type 0
Asks form left_old left_new old new NoDaemon = (left_new ≡ left_old) × (new ≡ old)
Asks form left_old left_new old new AskTimeout =
    ((left_new ≡ left_old) × (new ≡ old))
    ⊎ Asking form (record { left = left_old; written = old; asked = None })
    (record { left = left_new; written = new; asked = None }) AskTimeout
Asks form left_old left_new old new outcome =
    Asking form (record { left = left_old; written = old; asked = None })
    (record { left = left_new; written = new; asked = None }) outcome

-- what asking the counts does that are needed to write an answer, and the counts that are known then
abbrev pub AsksBeside : Form → List ℕ → List ℕ → Option (List Sent) → Option (List Sent) → Type 0
AsksBeside form answer counts asked_old asked_new =
    (beside : Option Sent) × IsAskedBeside (needs_counts form answer) beside × (counts ≡ counts_of beside)
    × Grows asked_old asked_new (listed beside)

-- what asking one line and passing its answer on in a form does
abbrev pub Passes : Form → List ℕ → Result (Unit {0}) Outcome → List ℕ → Option (List ℕ) → Option (List ℕ)
    → Option (List Sent) → Option (List Sent) → Type 0
Passes form line (Ok done) answer old new asked_old asked_new =
    (beside : Option Sent) × (is_answer_to line answer ≡ true) × IsAskedBeside (needs_counts form answer) beside
    × Appends old new (shown form (counts_of beside) answer)
    × Grows asked_old asked_new (sent_with line answer beside)
Passes form line (Err AskTimeout) answer old new asked_old asked_new =
    Keeps old new × Grows asked_old asked_new (record { line = line; came = came.Late; answer = answer } ∷ [])
Passes form line (Err Unanswered) answer old new asked_old asked_new =
    Keeps old new × Grows asked_old asked_new (record { line = line; came = came.Nothing; answer = answer } ∷ [])
Passes form line (Err AskUnwritten) answer old new asked_old asked_new =
    (beside : Option Sent) × (is_answer_to line answer ≡ true) × IsAskedBeside (needs_counts form answer) beside
    × PutsFront old new (shown form (counts_of beside) answer)
    × Grows asked_old asked_new (sent_with line answer beside)
Passes form line (Err outcome) answer old new asked_old asked_new = ⊥

-- how asking ends where each line was answered
abbrev pub asked_so : Bool → Outcome
asked_so true = AskRefused
asked_so false = Asked

-- how asking ends where the daemon stops
abbrev pub stopped_so : Came → Bool → Outcome
stopped_so came.Late is_refused = AskTimeout
stopped_so came.Answer is_refused = asked_so is_refused
stopped_so came.Nothing is_refused = asked_so is_refused
