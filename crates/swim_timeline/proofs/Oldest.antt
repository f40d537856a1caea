-- The oldest entries of a history, as a walk by places meets them.
use Rattle.std.proofs.Common.{◌≡◌, ℕ, ◌+◌, ◌≤◌, List, ◌∷◌, ◌++◌, length, take, drop, reverse, Some, None}
use Rattle.std.proofs.Common.{sym, ap, subst, ◌∙◌, arith, slice_get}
use Rattle.std.specs.Option.{option_map}
use Rattle.std.proofs.lemmas.List.{reverse-append, reverse-reverse, take-append-drop, length-reverse}
use Rattle.std.proofs.lemmas.List.{length-take}
use Rattle.swim_history.specs.declared.entries.Called.{Called}
use Rattle.swim_history.specs.declared.entries.Choice.{Choice}
use Rattle.swim_history.specs.declared.entries.Entry.{Entry}
use Rattle.swim_history.specs.Called.{called_of, entry_of}
use Rattle.swim_history.specs.Setting.{Setting}
use Rattle.swim_history.specs.Run.{IsRun}
use Rattle.swim_history.specs.Laws.Called.{called_all, called_next}
use Rattle.swim_history.specs.Laws.Run.{IsRun-older}

abbrev pub oldest : ℕ → List Entry → List Entry
oldest i h = reverse (take i (reverse h))

-- one more of them, by its call and its reply
pub oldest_more : (h : List Entry) (i : ℕ) (c : Called) → Some c ≡ option_map called_of (slice_get (reverse h) i) →
    (choice : Choice) × (oldest (i + 1) h ≡ entry_of c choice ∷ oldest i h)
oldest_more h i c is = called_next (reverse h) i c is

-- where there is none, all were met
pub none_left : (h : List Entry) (i : ℕ) → None ≡ option_map called_of (slice_get (reverse h) i) → length h ≤ i
none_left h i is = rw (← length-reverse h) (called_all (reverse h) i is)

-- they are as many as that at the most
pub oldest_length : (h : List Entry) (i : ℕ) → length (oldest i h) ≤ i
oldest_length h i = simp (length-reverse, length-take) (omega arith)

-- and exactly as many where the history has as many
pub oldest_count : (h : List Entry) (i : ℕ) → i ≤ length h → length (oldest i h) ≡ i
oldest_count h i within = simp (length-reverse, length-take) (omega (arith, within))

-- those of a run are a run
pub oldest_run : (o : Setting) (h : List Entry) (i : ℕ) → IsRun o h → IsRun o (oldest i h)
oldest_run o h i run =
    let whole : h ≡ reverse (drop i (reverse h)) ++ oldest i h =
    sym (reverse-reverse h) ∙ ap reverse (sym (take-append-drop i (reverse h))) ∙
    reverse-append (take i (reverse h)) (drop i (reverse h)) in
    IsRun-older o (reverse (drop i (reverse h))) (oldest i h) (subst (λ (x : List Entry). IsRun o x) whole run)
