-- A journal file, and what it is when it is played.
use Rattle.std.specs.Prelude.{◌≡◌, ◌⊎◌, ℕ, ◌<◌, ◌≤◌, ◌^◌, true, false, is_some, List, [], ◌∷◌, ◌++◌, length}
use Rattle.std.specs.Prelude.{reverse, Option, Some, None, Result}
use Rattle.rand_chacha.specs.ChaCha.{ChaCha}
use Rattle.swim_text.specs.Lines.{pieces}
use Rattle.swim_history.specs.declared.calls.Call.{Call}
use Rattle.swim_history.specs.declared.entries.Entry.{Entry}
use Rattle.swim_history.specs.Setting.{Setting, IsSetting}
use Rattle.swim_history.specs.Run.{IsRun}
use Rattle.swim_history.specs.Drawn.{IsDrawn}
use Rattle.swim_targets.specs.Draws.{DrawsOrder, DrawsPlace}
use Rattle.swim_detector.specs.Recording.{Recording}
use Rattle.swim_node.specs.Following.{filings_of}
use Rattle.swim_script.specs.declared.choosers.Drawer.{Drawer}
use Rattle.swim_script.specs.declared.choosers.Drawer.TheVariants as drawers
use Rattle.swim_script.specs.declared.commands.Draws.TheVariants.{Seeded}
use Rattle.swim_script.specs.declared.commands.Stage.TheVariants.{Header}
use Rattle.swim_script.specs.declared.forms.Form.TheVariants.{Journal}
use Rattle.swim_script.specs.Forms.{form_of, most_bytes}
use Rattle.swim_script.specs.Headers.{Told, head_of, stage_of, setting_in, limit_in, chooser_in}
use Rattle.swim_script.specs.declared.faults.FaultKind.{FaultKind}
use Rattle.swim_script.specs.declared.faults.FaultKind.TheVariants.{Memory, Differs, Read, Write}
use Rattle.swim_script.specs.declared.faults.ScriptFault.{ScriptFault}
use Rattle.swim_script.specs.Script.{Turn, lines_of, asked_in, fault_of, IsDifferent, Runs, result_kind}
use Rattle.swim_script.specs.Script.Asked.{Calls}
use Rattle.swim_script.specs.Ends.{IsEndOf}
use Rattle.swim_script.specs.Holds.{Played}
use Rattle.swim_journal.specs.Seatless.{reseated}
use Rattle.swim_journal.specs.Comments.{is_comment, without_comments, AreShort}
use Rattle.swim_journal.specs.Journals.{calls_text, AreReadBack}

-- the lines of a text, newest first
abbrev pub lines_in : List ℕ → List (List ℕ)
lines_in text = reverse (pieces text)

-- what the lines of a header tell
abbrev pub told_by : List ℕ → Told
told_by header = (head_of (lines_in header)).told

-- the header of a journal file: whole lines that tell this opening, how many entries there may be, and a seed, from
-- which
-- this generator draws; event lines may stand behind it, and there are none in it
pub record IsHeader (header : List ℕ) (o : Setting) (limit : ℕ) (start : ChaCha) : Type 0 where
  pub lines : (rest : List ℕ) → pieces (header ++ rest) ≡ pieces header ++ pieces rest
  pub form : form_of (lines_in header) ≡ Journal
  pub begun : (head_of (lines_in header)).begun ≡ false
  pub stage : stage_of (head_of (lines_in header)) ≡ Header Seeded (is_some (told_by header).wire)
  pub opening : setting_in (told_by header) ≡ o
  pub limit_is : limit_in (told_by header) ≡ limit
  pub chooser : chooser_in (told_by header) ≡ drawers.Seeded start

-- the history is a run of the opening, which the generator draws
pub record IsDrawnRun (o : Setting) (start : ChaCha) (h : List Entry) : Type 0 where
  pub setting : IsSetting o
  pub run : IsRun o h
  pub now : ChaCha
  pub drawn : IsDrawn DrawsOrder DrawsPlace o start h now

-- a header, and such a run of what it tells, whose calls read back: what is written of a node's life
pub record IsJournalFile (header : List ℕ) (h : List Entry) : Type 0 where
  pub opening : Setting
  pub limit : ℕ
  pub start : ChaCha
  pub head : IsHeader header opening limit start
  pub run : IsDrawnRun opening start h
  pub within : (length h ≤ limit) × (limit < 2 ^ 32)
  pub back : AreReadBack (filings_of h)

abbrev pub file_text : List ℕ → List Entry → List ℕ
file_text header h = header ++ calls_text (filings_of h)

-- ---- played

-- the history that a recorder made, if there is one
abbrev pub past_in : Option (Recording Drawer) → List Entry
past_in None = []
past_in (Some recorded) = recorded.past

-- a text is the file of this history, but for comments
abbrev pub IsFileText : List ℕ → List Entry → List ℕ → Type 0
IsFileText header h text = without_comments text ≡ without_comments (file_text header h)

-- a session that played the text to its end, and so met no difference, made the history, but for who called
abbrev pub IsPlayedBack : List ℕ → List Entry → Type 0
IsPlayedBack text h =
    (old new : Option (List ℕ)) (s : Played) → IsEndOf text old new s → past_in s.recorded ≡ reseated h

-- a line is a call that was refused for want of memory
abbrev pub IsRefusal : List Turn → Turn → Type 0
IsRefusal before turn = (turn.refused ≡ true) × (call : Call) × (asked_in (lines_of before) turn.line ≡ Calls call)

-- the newest of these lines that is no comment is such a call
abbrev pub IsBehindRefusal : List Turn → Type 0
IsBehindRefusal [] = ⊥
IsBehindRefusal (turn ∷ before) =
    ((is_comment (lines_of before) turn.line ≡ true) × IsBehindRefusal before) ⊎ IsRefusal before turn

-- and where a difference is met, the call before it was refused
abbrev pub DiffersWhereRefused : List ℕ → Type 0
DiffersWhereRefused text = (n : ℕ) (written : List ℕ) (d : IsDifferent text n written) → IsBehindRefusal d.turns

-- a script was played to its end; or its reader or its writer failed, or memory was refused, or an answer differed
abbrev pub IsFromOutside : Option FaultKind → Type 0
IsFromOutside None = Unit {0}
IsFromOutside (Some Read) = Unit {0}
IsFromOutside (Some Write) = Unit {0}
IsFromOutside (Some Memory) = Unit {0}
IsFromOutside (Some Differs) = Unit {0}
IsFromOutside (Some kind) = ⊥

-- where the header has no fault, no comment is too long, and the text is no longer than a journal file may be, no line
-- of it has a fault
abbrev pub PlaysWell : List ℕ → List ℕ → Type 0
PlaysWell header text =
    fault_of header ≡ None → AreShort (lines_in text) → length text ≤ most_bytes Journal →
    (left : List ℕ) (old new : Option (List ℕ))
    (result : Result (Unit {0}) ScriptFault) → Runs text left old new result →
    IsFromOutside (result_kind result)
