-- The calls of lines, and what is confirmed of them, are the same without comments.
use Rattle.std.proofs.Common.{◌≡◌, inl, inr, ℕ, Bool, true, false, cond, List, [], ◌∷◌, length, Option, refl, sym, ap}
use Rattle.std.proofs.Common.{subst, ◌∙◌}
use Rattle.swim_history.specs.declared.calls.Call.{Call}
use Rattle.swim_history.specs.declared.entries.Entry.{Entry}
use Rattle.swim_history.specs.Setting.{Setting}
use Rattle.swim_history.specs.Run.{IsRun}
use Rattle.swim_history.specs.Drawn.{IsDrawn}
use Rattle.swim_script.specs.Choosers.{ChoosesOrder, ChoosesPlace}
use Rattle.swim_script.specs.declared.choosers.Drawer.{Drawer}
use Rattle.swim_script.specs.declared.commands.Command.{Command}
use Rattle.swim_script.specs.Headers.{Told, head_of, setting_in, limit_in, chooser_in}
use Rattle.swim_script.specs.Script.{Turn, lines_of, Asked, asked_by, asked_in, is_full, calls_then, calls_in}
use Rattle.swim_script.specs.Script.{run_before}
use Rattle.swim_script.specs.Script.{IsConfirmed, AreConfirmed, IsRunOf}
use Rattle.swim_script.specs.Script.Asked.{Nothing}
use Rattle.swim_journal.specs.Comments.{is_comment, uncommented}
use Rattle.swim_journal.specs.Replays.{IsBehindRefusal}
use Rattle.swim_journal.proofs.Uncommented.{IsToldAlike, setting_alike, limit_alike, chooser_alike, AreAlike}
use Rattle.swim_journal.proofs.Uncommented.{said_alike}
use Rattle.swim_journal.proofs.Uncommented.{comment_said, uncommented_alike, is_comment_alike}

-- turns without those of comments
abbrev pub spoken : List Turn → List Turn
spoken [] = []
spoken (turn ∷ before) = cond (is_comment (lines_of before) turn.line) (spoken before) (turn ∷ spoken before)

pub spoken_lines : (turns : List Turn) → lines_of (spoken turns) ≡ uncommented (lines_of turns)
spoken_lines [] = refl
spoken_lines (turn ∷ before) = by (is_comment (lines_of before) turn.line) (spoken_lines before)
  where
    by : (c : Bool) → lines_of (spoken before) ≡ uncommented (lines_of before) →
        lines_of (cond c (spoken before) (turn ∷ spoken before)) ≡
        cond c (uncommented (lines_of before)) (turn.line ∷ uncommented (lines_of before))
    by true older = older
    by false older = ap (λ l. turn.line ∷ l) older

pub spoken_alike : (turns : List Turn) → AreAlike (lines_of turns) (lines_of (spoken turns))
spoken_alike turns =
    subst (λ (l : List (List ℕ)). AreAlike (lines_of turns) l) (sym (spoken_lines turns))
    (uncommented_alike (lines_of turns))

limits_alike : (turns : List Turn) →
    limit_in (head_of (lines_of turns)).told ≡ limit_in (head_of (lines_of (spoken turns))).told
limits_alike turns =
    limit_alike (head_of (lines_of turns)).told (head_of (lines_of (spoken turns))).told (spoken_alike turns).told

asked_alike : (before : List Turn) (line : List ℕ) →
    asked_in (lines_of before) line ≡ asked_in (lines_of (spoken before)) line
asked_alike before line =
    ap asked_by (said_alike (lines_of before) (lines_of (spoken before)) line (spoken_alike before))

pub spoken_calls : (turns : List Turn) → calls_in turns ≡ calls_in (spoken turns)
spoken_calls [] = refl
spoken_calls (turn ∷ before) = by (is_comment (lines_of before) turn.line) refl (spoken_calls before)
  where
    by : (c : Bool) → is_comment (lines_of before) turn.line ≡ c → calls_in before ≡ calls_in (spoken before) →
        calls_in (turn ∷ before) ≡ calls_in (cond c (spoken before) (turn ∷ spoken before))
    by true is older =
        ap (λ (o : Asked). calls_then (limit_in (head_of (lines_of before)).told) turn.refused o (calls_in before))
        (ap asked_by (comment_said (lines_of before) turn.line is))
        ∙ older
    by false is older =
        ap (λ (n : ℕ). calls_then n turn.refused (asked_in (lines_of before) turn.line) (calls_in before))
        (limits_alike before)
        ∙ ap (λ (o : Asked).
        calls_then (limit_in (head_of (lines_of (spoken before))).told) turn.refused o (calls_in before))
        (asked_alike before turn.line)
        ∙ ap (λ (made : List Call).
        calls_then (limit_in (head_of (lines_of (spoken before))).told) turn.refused
        (asked_in (lines_of (spoken before)) turn.line) made) older

full_alike : (before : List Turn) →
    is_full (limit_in (head_of (lines_of before)).told) (length (calls_in before)) ≡
    is_full (limit_in (head_of (lines_of (spoken before))).told) (length (calls_in (spoken before)))
full_alike before =
    ap (λ (n : ℕ). is_full n (length (calls_in before))) (limits_alike before)
    ∙ ap (λ (made : List Call). is_full (limit_in (head_of (lines_of (spoken before))).told) (length made))
    (spoken_calls before)

pub spoken_confirmed : (turns : List Turn) (run : List Entry) → AreConfirmed turns run → AreConfirmed (spoken turns) run
spoken_confirmed [] run all = tt
spoken_confirmed (turn ∷ before) run all =
    by (is_comment (lines_of before) turn.line) refl (λ older. spoken_confirmed before older)
  where
    full : Bool
    full = is_full (limit_in (head_of (lines_of before)).told) (length (calls_in before))

    older : List Entry
    older = run_before full turn.refused (asked_in (lines_of before) turn.line) run

    by : (c : Bool) → is_comment (lines_of before) turn.line ≡ c →
        ((r : List Entry) → AreConfirmed before r → AreConfirmed (spoken before) r) →
        AreConfirmed (cond c (spoken before) (turn ∷ spoken before)) run
    by true is again =
        let none : asked_in (lines_of before) turn.line ≡ Nothing =
        ap asked_by (comment_said (lines_of before) turn.line is) in
        again run
        (subst (λ (o : Asked). AreConfirmed before (run_before full turn.refused o run)) none all.1)
    by false is again =
        let says = said_alike (lines_of before) (lines_of (spoken before)) turn.line (spoken_alike before) in
        let same : older ≡ run_before
        (is_full (limit_in (head_of (lines_of (spoken before))).told) (length (calls_in (spoken before))))
        turn.refused (asked_in (lines_of (spoken before)) turn.line) run =
        ap (λ (f : Bool). run_before f turn.refused (asked_in (lines_of before) turn.line) run) (full_alike before)
        ∙ ap (λ (o : Asked).
        run_before (is_full (limit_in (head_of (lines_of (spoken before))).told) (length (calls_in (spoken before))))
        turn.refused o run) (asked_alike before turn.line) in (
          subst (λ (o : Option Command). IsConfirmed o run) says all.0,
          subst (λ (r : List Entry). AreConfirmed (spoken before) r) same (again older all.1),
        )

-- a run of what one header tells is of the other
pub run_alike : (a b : Told) (made : List Call) (run : List Entry) (after : Drawer) → IsToldAlike a b →
    IsRunOf a made run after → IsRunOf b made run after
run_alike a b made run after alike is =
    let setting = setting_alike a b alike in
    record {
      legal = subst (λ (o : Setting). IsRun o run) setting is.legal;
      drawn =
          subst (λ (o : Setting). IsDrawn ChoosesOrder ChoosesPlace o (chooser_in b) run after) setting
          (subst (λ (d : Drawer). IsDrawn ChoosesOrder ChoosesPlace (setting_in a) d run after)
          (chooser_alike a b alike) is.drawn);
      calls = is.calls;
      one_seat = is.one_seat;
    }

-- behind what was refused without the comments there are at most comments
pub behind_spoken : (turns : List Turn) → IsBehindRefusal (spoken turns) → IsBehindRefusal turns
behind_spoken [] refused = absurd refused
behind_spoken (turn ∷ before) refused =
    by (is_comment (lines_of before) turn.line) refl (behind_spoken before) refused
  where
    by : (c : Bool) → is_comment (lines_of before) turn.line ≡ c →
        (IsBehindRefusal (spoken before) → IsBehindRefusal before) →
        IsBehindRefusal (cond c (spoken before) (turn ∷ spoken before)) → IsBehindRefusal (turn ∷ before)
    by true is again refused = inl (is, again refused)
    by false is again (inl comment) =
        let first = (spoken_alike before).first in
        let same = is_comment_alike (lines_of before) (lines_of (spoken before)) turn.line first in
        let bad : true ≡ false = sym comment.0 ∙ sym same ∙ is in
        absurd (cc bad)
    by false is again (inr refusal) = inr (refusal.0, refusal.1, asked_alike before turn.line ∙ refusal.2)
