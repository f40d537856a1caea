-- A journal file is one without its comments.
use Rattle.std.specs.Prelude.{is_some as is_told}
use Rattle.std.proofs.Common.{◌≡◌, ℕ, Bool, false, cond, List, [], ◌∷◌, length, refl, sym, ap, subst, ◌∙◌}
use Rattle.std.proofs.Common.{arith}
use Rattle.rand_chacha.specs.ChaCha.{ChaCha}
use Rattle.swim_history.specs.declared.calls.Call.{Call}
use Rattle.swim_history.specs.declared.calls.Call.TheVariants.{Tick, Hear, Join, Remove}
use Rattle.swim_history.specs.declared.entries.Entry.{Entry}
use Rattle.swim_history.specs.declared.replies.Reply.{Reply}
use Rattle.swim_history.specs.Setting.{Setting}
use Rattle.swim_script.specs.declared.commands.Draws.TheVariants.{Seeded}
use Rattle.swim_script.specs.declared.commands.Stage.TheVariants.{Header}
use Rattle.swim_script.specs.Headers.{Told, Head, head_of}
use Rattle.swim_journal.specs.Comments.{is_comment, uncommented}
use Rattle.swim_journal.specs.Lines.{call_line, answer_line}
use Rattle.swim_journal.specs.Replays.{lines_in, file_text, IsDrawnRun, IsFileText, IsJournalFile}
use Rattle.swim_journal.proofs.Differing.{IsFile, file_of}
use Rattle.swim_journal.proofs.FileText.{file_lines}
use Rattle.swim_journal.proofs.Tellings.{lines_onto}
use Rattle.swim_journal.proofs.TextLines.{same_lines}
use Rattle.swim_journal.proofs.Uncommented.{setting_alike, limit_alike, chooser_alike, stage_alike, uncommented_alike}

-- ---- calls and answers are no comments

call_plain : (before : List (List ℕ)) (call : Call) → is_comment before (call_line call) ≡ false
call_plain [] call = refl
call_plain (last ∷ before) Tick = refl
call_plain (last ∷ before) (Hear source m) = refl
call_plain (last ∷ before) (Join id peer) = refl
call_plain (last ∷ before) (Remove id) = refl

answer_plain : (before : List (List ℕ)) (place : ℕ) (reply : Reply) →
    is_comment before (answer_line place reply) ≡ false
answer_plain [] place reply = refl
answer_plain (last ∷ before) place reply = refl

pub kept : (before : List (List ℕ)) (line : List ℕ) → is_comment before line ≡ false →
    uncommented (line ∷ before) ≡ line ∷ uncommented before
kept before line plain = ap (λ (c : Bool). cond c (uncommented before) (line ∷ uncommented before)) plain

pub onto_plain : (h : List Entry) (before : List (List ℕ)) →
    uncommented (lines_onto h before) ≡ lines_onto h (uncommented before)
onto_plain [] before = refl
onto_plain (x ∷ h) before =
    let older = lines_onto h before in
    let call = call_line x.call in
    let answer = answer_line (length h) x.reply in
    kept (call ∷ older) answer (answer_plain (call ∷ older) (length h) x.reply)
    ∙ ap (λ l. answer ∷ l) (kept older call (call_plain older x.call))
    ∙ ap (λ l. answer ∷ call ∷ l) (onto_plain h before)

-- ---- its header

-- the lines of a header without comments, and what they tell
abbrev pub plain_lines : List ℕ → List (List ℕ)
plain_lines header = uncommented (lines_in header)

abbrev pub plain_told : List ℕ → Told
plain_told header = (head_of (plain_lines header)).told

still_file : (before : List (List ℕ)) (start : ChaCha) (h : List Entry) → IsFile before (head_of before).told start h →
    IsFile (uncommented before) (head_of (uncommented before)).told start h
still_file before start h f =
    let told = (head_of before).told in
    let after = (head_of (uncommented before)).told in
    let alike = uncommented_alike before in
    let wire = ap is_told alike.told.wire in
    record {
      seeded = sym (stage_alike told after alike.told) ∙ f.seeded ∙
          ap (λ (w : Bool). Header Seeded w) wire;
      at = record {
        form = sym alike.form ∙ f.at.form;
        head =
            ap (λ (b : Bool). record { told = after; begun = b })
            (sym alike.begun ∙ ap (λ (head : Head). head.begun) f.at.head);
      };
      back = f.back;
      drawn = subst (λ (o : Setting). IsDrawnRun o start h) (setting_alike told after alike.told) f.drawn;
      chooser = sym (chooser_alike told after alike.told) ∙ f.chooser;
      small = f.small;
      within = omega (arith, f.within, limit_alike told after alike.told);
    }

-- ---- a text that is the file but for comments

pub plain_file : (header : List ℕ) (h : List Entry) (j : IsJournalFile header h) →
    IsFile (plain_lines header) (plain_told header) j.start h
plain_file header h j = still_file (lines_in header) j.start h (file_of header h j)

pub text_lines : (header : List ℕ) (h : List Entry) (text : List ℕ) → IsJournalFile header h →
    IsFileText header h text → uncommented (lines_in text) ≡ lines_onto h (plain_lines header)
text_lines header h text j same =
    same_lines text (file_text header h) same
    ∙ ap uncommented (file_lines header h j.head.lines (file_of header h j).back)
    ∙ onto_plain h (lines_in header)
