-- The lines of a journal file behind its header, and what they say.
use Rattle.std.specs.Prelude.{is_some}
use Rattle.std.proofs.Common.{◌≡◌, ℕ, suc, ◌+◌, Bool, true, false, cond, List, [], ◌∷◌, ◌++◌, length, Option, Some}
use Rattle.std.proofs.Common.{None, codes, decimal, refl, ap, ◌∙◌, arith, append_assoc}
use Rattle.std.specs.Prelude.{◌==◌}
use Rattle.swim_text.specs.Cutting.{bare_at, pieces_at}
use Rattle.swim_text.specs.Lines.{pieces, bare, has_feed}
use Rattle.swim_text.specs.Without.{both_without, number_without}
use Rattle.swim_history.specs.declared.calls.Call.{Call}
use Rattle.swim_history.specs.declared.calls.Call.TheVariants.{Tick, Hear, Join, Remove}
use Rattle.swim_history.specs.declared.replies.Reply.{Reply}
use Rattle.swim_history.specs.declared.replies.Reply.TheVariants.{Quiet, Started, Asked, Heard, Send, Dropped, Joined}
use Rattle.swim_history.specs.declared.replies.Reply.TheVariants.{Removed, Refused}
use Rattle.swim_history.specs.declared.replies.Probe.{Probe}
use Rattle.swim_history.specs.declared.replies.Relay.{Relay}
use Rattle.swim_history.specs.Reasons.{drop_number, refusal_number}
use Rattle.swim_history.specs.Texts.{feed}
use Rattle.swim_script.specs.declared.commands.Command.TheVariants.{Answer}
use Rattle.swim_script.specs.declared.commands.Draws.TheVariants.{Seeded}
use Rattle.swim_script.specs.declared.commands.Stage.TheVariants.{Header, Events}
use Rattle.swim_script.specs.declared.forms.Form.TheVariants.{Journal}
use Rattle.swim_script.specs.Commands.{fault_of_word, line_read, word_for}
use Rattle.swim_script.specs.Forms.{is_mark, form_of}
use Rattle.swim_script.specs.Headers.{Told, Head, stage_told, stage_of, command_in, head_of, said}
use Rattle.swim_script.specs.Texts.{id_text, probe_text, more_relays_text, relays_text, reply_text, placed_text}
use Rattle.swim_journal.specs.Lines.{call_line, answer_text, answer_line, command_of, IsReadBack}

-- ---- what was answered stands on one line

id_unfed : (id : Option ℕ) → has_feed (id_text id) ≡ false
id_unfed None = refl
id_unfed (Some id) = number_without 10 id (omega arith)

probe_unfed : (probe : Option Probe) → has_feed (probe_text probe) ≡ false
probe_unfed None = refl
probe_unfed (Some probe) =
    both_without 10 (decimal probe.target) (codes " " ++ decimal probe.number)
    (number_without 10 probe.target (omega arith)) (number_without 10 probe.number (omega arith))

more_unfed : (relays : List Relay) → has_feed (more_relays_text relays) ≡ false
more_unfed [] = refl
more_unfed (relay ∷ relays) =
    both_without 10 (decimal relay.id) (more_relays_text relays) (number_without 10 relay.id (omega arith))
    (more_unfed relays)

relays_unfed : (relays : List Relay) → has_feed (relays_text relays) ≡ false
relays_unfed [] = refl
relays_unfed (relay ∷ relays) =
    both_without 10 (decimal relay.id) (more_relays_text relays) (number_without 10 relay.id (omega arith))
    (more_unfed relays)

reply_unfed : (reply : Reply) → has_feed (reply_text reply) ≡ false
reply_unfed Quiet = refl
reply_unfed (Started judged probe) =
    both_without 10 (id_text judged) (codes " probe " ++ probe_text probe) (id_unfed judged) (probe_unfed probe)
reply_unfed (Asked target peer number relays) =
    both_without 10 (decimal target) (codes " " ++ (decimal number ++ (codes " by " ++ relays_text relays.items)))
    (number_without 10 target (omega arith))
    (both_without 10 (decimal number) (codes " by " ++ relays_text relays.items)
    (number_without 10 number (omega arith)) (relays_unfed relays.items))
reply_unfed Heard = refl
reply_unfed (Send peer message) = refl
reply_unfed (Dropped why) = number_without 10 (drop_number why) (omega arith)
reply_unfed (Joined place) = number_without 10 place (omega arith)
reply_unfed Removed = refl
reply_unfed (Refused why) = number_without 10 (refusal_number why) (omega arith)

answer_unfed : (place : ℕ) (reply : Reply) → has_feed (answer_text place reply) ≡ false
answer_unfed place reply =
    both_without 10 (decimal place) (codes " " ++ reply_text reply) (number_without 10 place (omega arith))
    (reply_unfed reply)

pub answer_piece : (place : ℕ) (reply : Reply) (rest : List ℕ) →
    pieces (answer_line place reply ++ rest) ≡ answer_line place reply ∷ pieces rest
answer_piece place reply rest = ap (λ l. pieces l) (append_assoc (answer_text place reply) feed rest) ∙
    pieces_at (answer_text place reply) rest (answer_unfed place reply)

pub answer_bare : (place : ℕ) (reply : Reply) → bare (answer_line place reply) ≡ answer_text place reply
answer_bare place reply = bare_at (answer_text place reply) (answer_unfed place reply)

-- ---- what a line says, behind the first of a journal file

later : (n : ℕ) (line : List ℕ) → is_mark (suc n) line ≡ false
later n line = let e : (suc n == 0) ≡ false = grind arith in rw e refl

pub said_in : (before : List (List ℕ)) (line : List ℕ) → form_of before ≡ Journal →
    said before line ≡ command_in (line_read Journal (stage_of (head_of before)) (bare line))
said_in [] line journal = absurd cc
said_in (first ∷ before) line journal = rw (later (length before) (bare line), journal) refl

call_said : (before : List (List ℕ)) (call : Call) → form_of before ≡ Journal →
    fault_of_word (stage_of (head_of before)) (word_for (command_of call)) ≡ None → IsReadBack call →
    said before (call_line call) ≡ Some (command_of call)
call_said before call journal may back = said_in before (call_line call) journal ∙
    rw (back.bare, back.says (stage_of (head_of before)) may) refl

answer_said : (before : List (List ℕ)) (place : ℕ) (reply : Reply) → form_of before ≡ Journal →
    stage_of (head_of before) ≡ Events → said before (answer_line place reply) ≡ Some (Answer (placed_text place reply))
answer_said before place reply journal stage =
    said_in before (answer_line place reply) journal
    ∙ ap (λ (l : List ℕ). command_in (line_read Journal (stage_of (head_of before)) l)) (answer_bare place reply) ∙
    rw stage refl

-- ---- how far a journal file has come

-- its header told this, and whether an event line was met
pub record IsAt (lines : List (List ℕ)) (told : Told) (begun : Bool) : Type 0 where
  pub form : form_of lines ≡ Journal
  pub head : head_of lines ≡ record { told = told; begun = begun }

pub still_journal : (before : List (List ℕ)) (line : List ℕ) → form_of before ≡ Journal →
    form_of (line ∷ before) ≡ Journal
still_journal before line journal = rw journal (either (is_mark (length before) (bare line)))
  where
    either : (c : Bool) → cond c Journal Journal ≡ Journal
    either true = refl
    either false = refl

-- a call may stand behind a header with a seed, and behind event lines
may_call : (told : Told) (begun : Bool) (call : Call) → stage_told told ≡ Header Seeded (is_some told.wire) →
    fault_of_word (stage_of (record { told = told; begun = begun })) (word_for (command_of call)) ≡ None
may_call told true Tick seeded = refl
may_call told true (Hear source m) seeded = refl
may_call told true (Join id peer) seeded = refl
may_call told true (Remove id) seeded = refl
may_call told false Tick seeded = rw seeded refl
may_call told false (Hear source m) seeded = rw seeded refl
may_call told false (Join id peer) seeded = rw seeded refl
may_call told false (Remove id) seeded = rw seeded refl

pub call_says : (before : List (List ℕ)) (told : Told) (begun : Bool) (call : Call) →
    stage_told told ≡ Header Seeded (is_some told.wire) → IsAt before told begun → IsReadBack call →
    said before (call_line call) ≡ Some (command_of call)
call_says before told begun call seeded at back =
    call_said before call at.form (rw at.head (may_call told begun call seeded)) back

pub call_at : (before : List (List ℕ)) (told : Told) (begun : Bool) (call : Call) →
    stage_told told ≡ Header Seeded (is_some told.wire) → IsAt before told begun → IsReadBack call →
    IsAt (call_line call ∷ before) told true
call_at before told begun call seeded at back = record {
  form = still_journal before (call_line call) at.form;
  head = rw (call_says before told begun call seeded at back, at.head) (by call);
}
  where
    by : (call : Call) → Rattle.swim_script.specs.Headers.head_then (length before + 1) (Some (command_of call))
        (record { told = told; begun = begun }) ≡ record { told = told; begun = true }
    by Tick = refl
    by (Hear source m) = refl
    by (Join id peer) = refl
    by (Remove id) = refl

pub answer_says : (before : List (List ℕ)) (told : Told) (place : ℕ) (reply : Reply) → IsAt before told true →
    said before (answer_line place reply) ≡ Some (Answer (placed_text place reply))
answer_says before told place reply at = answer_said before place reply at.form (rw at.head refl)

pub answer_at : (before : List (List ℕ)) (told : Told) (place : ℕ) (reply : Reply) → IsAt before told true →
    IsAt (answer_line place reply ∷ before) told true
answer_at before told place reply at = record {
  form = still_journal before (answer_line place reply) at.form;
  head = rw (answer_says before told place reply at, at.head) refl;
}
