-- The course of a script whose bytes are known, or are not.
use Rattle.std.proofs.Common.{◌≡◌, ℕ, ◌+◌, List, ◌∷◌, Option, Some, None, Result, Ok, Err, sym, subst}
use Rattle.std.specs.Prelude.{MatchResult}
use Rattle.std.specs.Result.{IsErrAnd}
use Rattle.std.specs.Io.KnownBytes.{Keeps}
use Rattle.swim_text.specs.Lines.{bare, TakesKnown}
use Rattle.swim_text.specs.declared.lines.Taken.TheVariants.{Line, Long, Size, Over, Failed, Unsent}
use Rattle.swim_history.specs.declared.entries.Entry.{Entry}
use Rattle.swim_script.specs.declared.faults.FaultKind.TheVariants as kinds
use Rattle.swim_script.specs.declared.faults.ScriptFault.{ScriptFault}
use Rattle.swim_script.specs.declared.forms.Form.{Form}
use Rattle.swim_script.specs.declared.forms.Form.TheVariants.{Script}
use Rattle.swim_script.specs.Forms.{form_after, form_of, most_bytes}
use Rattle.swim_script.specs.Headers.{nothing_told}
use Rattle.swim_script.specs.Script.{Turn, lines_of, at_line, RunsKnown}
use Rattle.swim_script.specs.Ends.{LeavesKnown}
use Rattle.swim_script.specs.Holds.{Played, Holds, Turned, ending, CourseKnown}
use Rattle.swim_script.proofs.CourseEnds.{ends_in_line, ends_long, ends_oversize, ends_unread, ends_unsent, ends_well}
use Rattle.swim_script.proofs.CourseEnds.{ends_badly, ends_there}
use Rattle.swim_script.proofs.Courses.{at_start, form_next, next}

pub start_known : (left written : Option (List ℕ)) →
    CourseKnown left left written written Script 16777216 (record { lines = 0; header = nothing_told; recorded = None })
start_known None written = tt
start_known (Some script) written = at_start script written

-- what a line's turn does wherever the lines before it lead; the form is that with it
abbrev pub Turns : Form → List ℕ → Played → Played → Option (List ℕ) → Option (List ℕ) → Result (Unit {0}) ScriptFault →
    Type 0
Turns told line s s' before after result =
    (turns : List Turn) (run : List Entry) (text piece : List ℕ) → Holds turns run text s → bare piece ≡ line →
    told ≡ form_of (piece ∷ lines_of turns) → Turned turns run text piece s' before after result

pub next_known : (script rest left old mid mid' new : Option (List ℕ)) (line : List ℕ) (form told : Form)
    (budget after after' : ℕ) (s s' : Played) (done : Unit {0}) →
    CourseKnown script rest old mid form budget s → TakesKnown rest left Line line 2048 budget after → Keeps mid mid' →
    told ≡ form_after s.lines line form → after' + most_bytes form ≡ after + most_bytes told →
    Turns told line s s' mid' new (Ok done) → CourseKnown script left old new told after' s'
next_known None rest left old mid mid' new line form told budget after after' s s' done c i kept is grows turned = tt
next_known (Some script) None left old mid mid' new line form told budget after after' s s' done c i kept is grows
    turned = absurd c
next_known (Some script) (Some rest) None old mid mid' new line form told budget after after' s s' done c i kept is
    grows turned = absurd i
next_known (Some script) (Some rest) (Some left) old mid mid' new line form told budget after after' s s' done c i kept
    is grows turned =
    next script rest left line old mid mid' new form told budget after after' s s' c i kept is grows
    (turned c.turns c.run c.text i.piece c.holds i.bytes
    (form_next script rest left line old mid form told budget after s c i is))

pub stop_known : (script rest left old mid mid' new : Option (List ℕ)) (line : List ℕ) (form told : Form)
    (budget after : ℕ) (s s' : Played) (fault : ScriptFault) →
    CourseKnown script rest old mid form budget s → TakesKnown rest left Line line 2048 budget after → Keeps mid mid' →
    told ≡ form_after s.lines line form →
    Turns told line s s' mid' new (Err fault) → RunsKnown script left old new (Err fault)
stop_known None rest left old mid mid' new line form told budget after s s' fault c i kept is turned = tt
stop_known (Some script) None left old mid mid' new line form told budget after s s' fault c i kept is turned = absurd c
stop_known (Some script) (Some rest) None old mid mid' new line form told budget after s s' fault c i kept is turned =
    absurd i
stop_known (Some script) (Some rest) (Some left) old mid mid' new line form told budget after s s' fault c i kept is
    turned =
    ends_in_line script rest left line old mid mid' new form budget after s fault c i kept
    (turned c.turns c.run c.text i.piece c.holds i.bytes
    (form_next script rest left line old mid form told budget after s c i is))

pub long_known : (script rest left old mid new : Option (List ℕ)) (line : List ℕ) (form : Form) (budget after : ℕ)
    (s : Played) →
    CourseKnown script rest old mid form budget s → TakesKnown rest left Long line 2048 budget after → Keeps mid new →
    RunsKnown script left old new (Err (at_line (s.lines + 1) kinds.Long))
long_known None rest left old mid new line form budget after s c i kept = tt
long_known (Some script) None left old mid new line form budget after s c i kept = absurd c
long_known (Some script) (Some rest) None old mid new line form budget after s c i kept = absurd i
long_known (Some script) (Some rest) (Some left) old mid new line form budget after s c i kept =
    ends_long script rest left old mid new form budget after s c i kept

pub oversize_known : (script rest left old mid new : Option (List ℕ)) (line : List ℕ) (form : Form) (budget after : ℕ)
    (s : Played) →
    CourseKnown script rest old mid form budget s → TakesKnown rest left Size line 2048 budget after → Keeps mid new →
    RunsKnown script left old new (Err (at_line (s.lines + 1) kinds.Size))
oversize_known None rest left old mid new line form budget after s c i kept = tt
oversize_known (Some script) None left old mid new line form budget after s c i kept = absurd c
oversize_known (Some script) (Some rest) None old mid new line form budget after s c i kept = absurd i
oversize_known (Some script) (Some rest) (Some left) old mid new line form budget after s c i kept =
    ends_oversize script rest left old mid new form budget s c i kept

pub unread_known : (script rest left old mid new : Option (List ℕ)) (line : List ℕ) (form : Form) (budget after : ℕ)
    (s : Played) →
    CourseKnown script rest old mid form budget s → TakesKnown rest left Failed line 2048 budget after → Keeps mid new →
    RunsKnown script left old new (Err (at_line (s.lines + 1) kinds.Read))
unread_known None rest left old mid new line form budget after s c i kept = tt
unread_known (Some script) None left old mid new line form budget after s c i kept = absurd c
unread_known (Some script) (Some rest) None old mid new line form budget after s c i kept = absurd i
unread_known (Some script) (Some rest) (Some left) old mid new line form budget after s c i kept =
    ends_unread script rest left old mid new form budget after s c i kept

pub unsent_known : (script rest left old mid new : Option (List ℕ)) (line : List ℕ) (form : Form) (budget after : ℕ)
    (s : Played) →
    CourseKnown script rest old mid form budget s → TakesKnown rest left Unsent line 2048 budget after → Keeps mid new →
    RunsKnown script left old new (Err (at_line (s.lines + 1) kinds.Write))
unsent_known None rest left old mid new line form budget after s c i kept = tt
unsent_known (Some script) None left old mid new line form budget after s c i kept = absurd c
unsent_known (Some script) (Some rest) None old mid new line form budget after s c i kept = absurd i
unsent_known (Some script) (Some rest) (Some left) old mid new line form budget after s c i kept =
    ends_unsent script rest left old mid new form budget after s c i kept

end_known : (script rest left old mid new : Option (List ℕ)) (line : List ℕ) (form : Form) (budget after : ℕ)
    (s : Played) (done : Unit {0}) →
    CourseKnown script rest old mid form budget s → TakesKnown rest left Over line 2048 budget after → Keeps mid new →
    ending s ≡ None → RunsKnown script left old new (Ok done)
end_known None rest left old mid new line form budget after s done c i kept none = tt
end_known (Some script) None left old mid new line form budget after s done c i kept none = absurd c
end_known (Some script) (Some rest) None old mid new line form budget after s done c i kept none = absurd i
end_known (Some script) (Some rest) (Some left) old mid new line form budget after s done c i kept none =
    ends_well script rest old mid new form budget s c i.0 kept none

end_fault_known : (script rest left old mid new : Option (List ℕ)) (line : List ℕ) (form : Form) (budget after : ℕ)
    (s : Played) (fault : ScriptFault) →
    CourseKnown script rest old mid form budget s → TakesKnown rest left Over line 2048 budget after → Keeps mid new →
    ending s ≡ Some fault → RunsKnown script left old new (Err fault)
end_fault_known None rest left old mid new line form budget after s fault c i kept found = tt
end_fault_known (Some script) None left old mid new line form budget after s fault c i kept found = absurd c
end_fault_known (Some script) (Some rest) None old mid new line form budget after s fault c i kept found = absurd i
end_fault_known (Some script) (Some rest) (Some left) old mid new line form budget after s fault c i kept found =
    ends_badly script rest left old mid new form budget s fault c i.0 kept found

pub ending_known : (script rest left old mid new : Option (List ℕ)) (line : List ℕ) (form : Form) (budget after : ℕ)
    (s : Played) (result : Result (Unit {0}) ScriptFault) →
    CourseKnown script rest old mid form budget s → TakesKnown rest left Over line 2048 budget after → Keeps mid new →
    MatchResult result (λ done. ending s ≡ None) (λ fault. ending s ≡ Some fault) →
    RunsKnown script left old new result
ending_known script rest left old mid new line form budget after s (Ok done) c i kept none =
    end_known script rest left old mid new line form budget after s done c i kept none
ending_known script rest left old mid new line form budget after s (Err fault) c i kept found =
    end_fault_known script rest left old mid new line form budget after s fault c i kept found

-- a fault that is passed on stays the same
pub passed_on : (script left old new : Option (List ℕ)) (fault : ScriptFault) (result : Result (Unit {0}) ScriptFault) →
    IsErrAnd result (λ e. e ≡ fault) → RunsKnown script left old new (Err fault) → RunsKnown script left old new result
passed_on script left old new fault (Ok done) same told = absurd same
passed_on script left old new fault (Err other) same told =
    subst (λ f. RunsKnown script left old new (Err f)) (sym same) told

-- what is left at the end
pub left_known : (script rest left old mid new : Option (List ℕ)) (line : List ℕ) (form : Form) (budget after : ℕ)
    (s : Played) (result : Result (Unit {0}) ScriptFault) →
    CourseKnown script rest old mid form budget s → TakesKnown rest left Over line 2048 budget after → Keeps mid new →
    LeavesKnown result script old new s
left_known script rest left old mid new line form budget after s (Err fault) c i kept = tt
left_known None rest left old mid new line form budget after s (Ok done) c i kept = tt
left_known (Some script) None left old mid new line form budget after s (Ok done) c i kept = absurd c
left_known (Some script) (Some rest) None old mid new line form budget after s (Ok done) c i kept = absurd i
left_known (Some script) (Some rest) (Some left) old mid new line form budget after s (Ok done) c i kept =
    ends_there script rest old mid new form budget s c i.0 kept

-- nothing is said of it at a fault
pub left_at_fault : (script old new : Option (List ℕ)) (s : Played) (fault : ScriptFault)
    (result : Result (Unit {0}) ScriptFault) → IsErrAnd result (λ e. e ≡ fault) → LeavesKnown result script old new s
left_at_fault script old new s fault (Ok done) same = absurd same
left_at_fault script old new s fault (Err other) same = tt
