-- A run walked through in order, oldest entry first: each entry follows those before it.
use Rattle.std.proofs.Common.{◌≡◌, ℕ, ◌+◌, ◌<◌, List, [], ◌∷◌, ◌++◌, length, get_or, take, drop, reverse}
use Rattle.std.proofs.Common.{sym, ap, subst, ◌∙◌}
use Rattle.std.proofs.lemmas.List.{take_more, reverse-append, take-append-drop}
use Rattle.swim_history.specs.declared.entries.Entry.{Entry}
use Rattle.swim_history.specs.Setting.{Setting}
use Rattle.swim_history.specs.Run.{Continues, IsRun}
use Rattle.swim_history.specs.Laws.Run.{IsRun-older}

-- one more entry of a list that is seen newest first
pub past_more :
    {X : Type 0} (xs : List X) (i : ℕ) (d : X) → i < length xs →
    reverse (take (i + 1) xs) ≡ get_or xs i d ∷ reverse (take i xs)
past_more xs i d lt = ap reverse (take_more xs i d lt) ∙ reverse-append (take i xs) (get_or xs i d ∷ [])

-- the first entries of a run are a run
pub run_so_far :
    (o : Setting) (entries : List Entry) (i : ℕ) → IsRun o (reverse entries) → IsRun o (reverse (take i entries))
run_so_far o entries i run =
    let whole : reverse entries ≡ reverse (drop i entries) ++ reverse (take i entries) =
    ap reverse (sym (take-append-drop i entries)) ∙ reverse-append (take i entries) (drop i entries) in
    let parts = subst (λ (h : List Entry). IsRun o h) whole run in
    IsRun-older o (reverse (drop i entries)) (reverse (take i entries)) parts

-- the entries of a run up to the next are a run
pub next_run :
    (o : Setting) (entries : List Entry) (i : ℕ) (e : Entry) → i < length entries → e ≡ get_or entries i e →
    IsRun o (reverse entries) → IsRun o (e ∷ reverse (take i entries))
next_run o entries i e lt is run =
    let older = reverse (take i entries) in
    let same = past_more entries i e lt ∙ ap (λ (x : Entry). x ∷ older) (sym is) in
    subst (λ (h : List Entry). IsRun o h) same (run_so_far o entries (i + 1) run)

-- each entry of a run follows those before it
pub next_continues :
    (o : Setting) (entries : List Entry) (i : ℕ) (e : Entry) → i < length entries → e ≡ get_or entries i e →
    IsRun o (reverse entries) → Continues o (reverse (take i entries)) e
next_continues o entries i e lt is run = (next_run o entries i e lt is run).0
