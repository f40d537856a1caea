-- A journal file that is played: without a difference it is the run, and a difference stands behind a refused call.
use Rattle.std.proofs.Common.{◌≡◌, ℕ, Bool, true, false, List, [], ◌∷◌, ◌++◌, Option, Some, None, Ok, Err, refl}
use Rattle.std.proofs.Common.{sym, ap, subst, ◌∙◌, append_assoc}
use Rattle.std.specs.Prelude.{reverse}
use Rattle.std.proofs.lemmas.List.{reverse-append, reverse-reverse}
use Rattle.std.proofs.lemmas.Grind.{reverse_onto}
use Rattle.swim_history.specs.declared.calls.Call.{Call}
use Rattle.swim_history.specs.declared.entries.Entry.{Entry}
use Rattle.swim_detector.specs.Recording.{Recording}
use Rattle.swim_script.specs.declared.choosers.Drawer.{Drawer}
use Rattle.swim_script.specs.declared.commands.Command.{Command}
use Rattle.swim_script.specs.Headers.{Told, Head, head_of, said}
use Rattle.swim_script.specs.declared.faults.FaultKind.{FaultKind}
use Rattle.swim_script.specs.declared.faults.FaultKind.TheVariants.{Memory, Differs, Read, Write}
use Rattle.swim_script.specs.declared.faults.ScriptFault.{ScriptFault}
use Rattle.swim_script.specs.Script.{lines_of, calls_in, fault_of, IsContrary, IsRunOf, RunsTo}
use Rattle.swim_script.specs.Holds.{Plays}
use Rattle.swim_journal.specs.Comments.{is_comment, uncommented}
use Rattle.swim_journal.specs.Seatless.{reseated}
use Rattle.swim_journal.specs.Replays.{lines_in, IsJournalFile, IsFileText, past_in, IsPlayedBack}
use Rattle.swim_journal.specs.Replays.{DiffersWhereRefused, IsFromOutside, PlaysWell}
use Rattle.swim_journal.proofs.Commented.{plain_lines, plain_told, plain_file, text_lines}
use Rattle.swim_journal.proofs.CommentedFaultless.{file_faultless}
use Rattle.swim_journal.proofs.Differing.{IsFile, differs_late}
use Rattle.swim_journal.proofs.FileLines.{IsAt}
use Rattle.swim_journal.proofs.Replayed.{replay_is}
use Rattle.swim_journal.proofs.Tellings.{lines_onto, is_some, onto_at, are_told, none_called}
use Rattle.swim_journal.proofs.Uncommented.{IsToldAlike, said_alike, comment_said, uncommented_split}
use Rattle.swim_journal.proofs.UncommentedTurns.{spoken, spoken_lines, spoken_alike, spoken_calls, spoken_confirmed}
use Rattle.swim_journal.proofs.UncommentedTurns.{run_alike, behind_spoken}

pub played_back : (header : List ℕ) (h : List Entry) (text : List ℕ) → IsJournalFile header h →
    IsFileText header h text → IsPlayedBack text h
played_back header h text j same old new s end =
    let f = plain_file header h j in
    let alike = spoken_alike end.turns in
    let lines : lines_of (spoken end.turns) ≡ lines_onto h (plain_lines header) =
    spoken_lines end.turns ∙ ap uncommented end.are ∙ text_lines header h text j same in
    let last : IsAt (lines_onto h (plain_lines header)) (plain_told header) (is_some h) =
    onto_at (plain_lines header) (plain_told header) h f.seeded f.at f.back in
    let head = ap head_of lines ∙ last.head in
    by h f lines (alike.begun ∙ ap (λ (head : Head). head.begun) head)
    (subst (λ (t : Told). IsToldAlike (head_of (lines_of end.turns)).told t)
    (ap (λ (head : Head). head.told) head) alike.told) s.recorded end.holds.plays
  where
    by : (h : List Entry) → IsFile (plain_lines header) (plain_told header) j.start h →
        lines_of (spoken end.turns) ≡ lines_onto h (plain_lines header) →
        (head_of (lines_of end.turns)).begun ≡ is_some h →
        IsToldAlike (head_of (lines_of end.turns)).told (plain_told header) →
        (recorded : Option (Recording Drawer)) → Plays end.turns end.run end.text s.header recorded →
        past_in recorded ≡ reseated h
    by [] f lines begun told None waits = refl
    by (x ∷ h) f lines begun told None waits =
        let unbegun : true ≡ false = sym begun ∙ waits.begun in absurd (cc unbegun)
    by h f lines begun told (Some recorded) plays =
        let turns = spoken end.turns in
        let each = are_told (plain_lines header) (plain_told header) h turns f.seeded f.at f.back lines in
        let none : calls_in each.base ≡ [] =
        none_called each.base (ap (λ l. (head_of l).begun) each.are ∙ ap (λ (head : Head). head.begun) f.at.head) in
        let made : IsRunOf (plain_told header) (calls_in turns) end.run recorded.chooser =
        subst (λ (c : List Call). IsRunOf (plain_told header) c end.run recorded.chooser) (spoken_calls end.turns)
        (run_alike (head_of (lines_of end.turns)).told (plain_told header) (calls_in end.turns) end.run
        recorded.chooser told plays.1.made) in
        plays.1.past ∙ replay_is each.base h turns (plain_told header) j.start end.run recorded.chooser f.drawn
        f.chooser f.small each.each none made (spoken_confirmed end.turns end.run plays.1.confirmed)

-- what is told otherwise is no comment
contrary_plain : (before : List (List ℕ)) (piece : List ℕ) (run : List Entry) → IsContrary (said before piece) run →
    is_comment before piece ≡ false
contrary_plain before piece run contrary = by (is_comment before piece) refl
  where
    by : (c : Bool) → is_comment before piece ≡ c → c ≡ false
    by false is = refl
    by true is = absurd (subst (λ (o : Option Command). IsContrary o run) (comment_said before piece is) contrary)

pub differs_where_refused : (header : List ℕ) (h : List Entry) (text : List ℕ) → IsJournalFile header h →
    IsFileText header h text → DiffersWhereRefused text
differs_where_refused header h text j same n written d =
    let turns = spoken d.turns in
    let alike = spoken_alike d.turns in
    let cut : lines_in text ≡ reverse d.more ++ d.piece ∷ lines_of d.turns =
    ap reverse d.cut
    ∙ reverse-append (reverse (lines_of d.turns)) (d.piece ∷ d.more)
    ∙ ap (λ l. l ++ reverse (reverse (lines_of d.turns))) (reverse_onto d.more d.piece [])
    ∙ ap (λ l. (reverse d.more ++ d.piece ∷ []) ++ l) (reverse-reverse (lines_of d.turns))
    ∙ append_assoc (reverse d.more) (d.piece ∷ []) (lines_of d.turns) in
    let split = uncommented_split (reverse d.more) d.piece (lines_of d.turns)
    (contrary_plain (lines_of d.turns) d.piece d.run d.contrary) in
    let lines : lines_onto h (plain_lines header) ≡ split.front ++ d.piece ∷ lines_of turns =
    sym (text_lines header h text j same) ∙ ap uncommented cut ∙ split.is
    ∙ ap (λ l. split.front ++ d.piece ∷ l) (sym (spoken_lines d.turns)) in
    let told = (head_of (lines_of turns)).told in
    let made : IsRunOf told (calls_in turns) d.run d.after =
    subst (λ (c : List Call). IsRunOf told c d.run d.after) (spoken_calls d.turns)
    (run_alike (head_of (lines_of d.turns)).told told (calls_in d.turns) d.run d.after alike.told d.made) in
    let contrary = subst (λ (o : Option Command). IsContrary o d.run)
    (said_alike (lines_of d.turns) (lines_of turns) d.piece alike) d.contrary in
    behind_spoken d.turns
    (differs_late (plain_lines header) (plain_told header) j.start h split.front d.piece turns d.run d.after
    (plain_file header h j) lines made (spoken_confirmed d.turns d.run d.confirmed) contrary)

-- ---- how it may end

ends_so : (script left : List ℕ) (old new : Option (List ℕ)) (fault : ScriptFault) (kind : FaultKind) →
    fault_of script ≡ None → RunsTo script left old new fault kind → IsFromOutside (Some kind)
ends_so script left old new fault Read none runs = tt
ends_so script left old new fault Write none runs = tt
ends_so script left old new fault Memory none runs = tt
ends_so script left old new fault Differs none runs = tt
ends_so script left old new fault kind none runs = let bad : None ≡ Some fault = sym none ∙ runs.0 in absurd (cc bad)

pub plays_well : (header : List ℕ) (h : List Entry) (text : List ℕ) → IsJournalFile header h →
    IsFileText header h text → PlaysWell header text
plays_well header h text j same e short fits left old new (Ok done) runs = tt
plays_well header h text j same e short fits left old new (Err fault) runs =
    ends_so text left old new fault fault.kind (file_faultless header h text j same e short fits) runs
