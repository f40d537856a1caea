-- A text that is held back is its bytes but for comments.
use Rattle.std.proofs.Common.{◌≡◌, ℕ, Bool, true, false, List, [], ◌∷◌, ◌++◌, Some, refl, sym, ap, subst, ◌∙◌}
use Rattle.std.proofs.Common.{append_assoc, append-nil, inr, Result, Ok, Err}
use Rattle.std.specs.Prelude.{OnOk, OnErr, codes}
use Rattle.std.specs.List.{flat_map}
use Rattle.std.proofs.lemmas.Grind.{flat_map-append}
use Rattle.swim_text.specs.Streams.{Puts}
use Rattle.swim_journal.specs.Comments.{EndsLine, IsCommented, MayComment, without_comments}
use Rattle.swim_journal.proofs.Commenting.{both_grow, comment_grows, same_without}
use Rattle.swim_writer.specs.HeldTexts.{AtText, Takes, all_of, bytes_in}

-- what was noted, once one more text was
pub bytes_more : {A : Type 0} (old new : List (A × List ℕ)) (a : A) (text : List ℕ) → new ≡ old ++ (a, text) ∷ [] →
    flat_map bytes_in new ≡ flat_map bytes_in old ++ text
bytes_more old new a text is =
    ap (flat_map bytes_in) is
    ∙ flat_map-append bytes_in old ((a, text) ∷ [])
    ∙ ap (λ more. flat_map bytes_in old ++ more) (append-nil text)

pub text_grows : {A : Type 0} (handed held held' text : List ℕ) (old new : List (A × List ℕ)) (a : A) →
    IsCommented (handed ++ held) (flat_map bytes_in old) → held' ≡ held ++ text → new ≡ old ++ (a, text) ∷ [] →
    IsCommented (handed ++ held') (flat_map bytes_in new)
text_grows handed held held' text old new a is held-is new-is =
    let grown = both_grow (handed ++ held) (flat_map bytes_in old) text is in
    let all : handed ++ held' ≡ (handed ++ held) ++ text =
    ap (λ (h : List ℕ). handed ++ h) held-is ∙ sym (append_assoc handed held text) in
    subst (λ (t : List ℕ). IsCommented t (flat_map bytes_in new)) (sym all)
    (subst (λ (t : List ℕ). IsCommented ((handed ++ held) ++ text) t) (sym (bytes_more old new a text new-is)) grown)

pub taken_more : {A : Type 0} (handed held held' text : List ℕ) (old new : List (A × List ℕ)) (a : A) →
    held' ≡ held ++ text → new ≡ old ++ (a, text) ∷ [] →
    (flat_map bytes_in new ≡ flat_map bytes_in old ++ text) × (handed ++ held' ≡ (handed ++ held) ++ text)
taken_more handed held held' text old new a held-is new-is = (
  bytes_more old new a text new-is,
  ap (λ (h : List ℕ). handed ++ h) held-is ∙ sym (append_assoc handed held text),
)

pub comment_behind : (handed held held' comment taken : List ℕ) → IsCommented (handed ++ held) taken →
    EndsLine (handed ++ held) → MayComment comment → held' ≡ held ++ comment → IsCommented (handed ++ held') taken
comment_behind handed held held' comment taken is ends may held-is =
    let all : handed ++ held' ≡ (handed ++ held) ++ comment =
    ap (λ (h : List ℕ). handed ++ h) held-is ∙ sym (append_assoc handed held comment) in
    subst (λ (t : List ℕ). IsCommented t taken) (sym all) (comment_grows (handed ++ held) taken comment is ends may)

-- behind a line a comment was put, or nothing
pub comment_or_none : {A E X : Type 0} (items : X → List ℕ) (old new : X) (handed comment taken : List ℕ)
    (result : Result A E) → IsCommented (handed ++ items old) taken → EndsLine (handed ++ items old) →
    MayComment comment → OnOk result (items new ≡ items old ++ comment) → OnErr result (new ≡ old) →
    IsCommented (handed ++ items new) taken
comment_or_none items old new handed comment taken (Ok a) is ends may ok err =
    comment_behind handed (items old) (items new) comment taken is ends may ok
comment_or_none items old new handed comment taken (Err e) is ends may ok err =
    subst (λ x. IsCommented (handed ++ items x) taken) (sym err) is

-- the comment on a join that the daemon made by itself
pub own_join_may_comment : MayComment (codes "# rejoin\n")
own_join_may_comment = inr (record { words = codes " rejoin"; unfed = refl; is = refl })

-- a text ends a line where what is held back of it does
pub held_ends : (t : AtText) (front : List ℕ) → t.held ≡ front ++ 10 ∷ [] → EndsLine (all_of t)
held_ends t front is = record {
  front = t.handed ++ front;
  is = ap (λ (h : List ℕ). t.handed ++ h) is ∙ sym (append_assoc t.handed front (10 ∷ []));
}

-- ---- handed on

pub all_handed : {A : Type 0} (held held' : List ℕ) (old new : List (A × List ℕ)) (a : A) →
    new ≡ old ++ (a, held) ∷ [] → held' ≡ [] → flat_map bytes_in new ++ held' ≡ flat_map bytes_in old ++ held
all_handed held held' old new a new-is none =
    ap (λ (h : List ℕ). flat_map bytes_in new ++ h) none ∙ append-nil (flat_map bytes_in new) ∙
    bytes_more old new a held new-is

pub still_commented : {A : Type 0} (held held' taken : List ℕ) (old new : List (A × List ℕ)) (a : A) →
    IsCommented (flat_map bytes_in old ++ held) taken → new ≡ old ++ (a, held) ∷ [] → held' ≡ [] →
    IsCommented (flat_map bytes_in new ++ held') taken
still_commented held held' taken old new a is new-is none =
    subst (λ (t : List ℕ). IsCommented t taken) (sym (all_handed held held' old new a new-is none)) is

pub handed_same : {A : Type 0} (held taken : List ℕ) (old new : List (A × List ℕ)) (a : A) →
    IsCommented (flat_map bytes_in old ++ held) taken → new ≡ old ++ (a, held) ∷ [] →
    without_comments (flat_map bytes_in new) ≡ without_comments taken
handed_same held taken old new a is new-is =
    ap without_comments (bytes_more old new a held new-is)
    ∙ same_without (flat_map bytes_in old ++ held) taken is

-- ---- texts that were taken

pub ends_taken : (old mid : AtText) (text front : List ℕ) → Takes old mid text true → text ≡ front ++ 10 ∷ [] →
    EndsLine (all_of mid)
ends_taken old mid text front takes ends = record {
  front = all_of old ++ front;
  is = takes.1 ∙ ap (λ (t : List ℕ). all_of old ++ t) ends ∙ sym (append_assoc (all_of old) front (10 ∷ []));
}

pub ends_same : (old new : List ℕ) → EndsLine old → new ≡ old → EndsLine new
ends_same old new ends is = record { front = ends.front; is = is ∙ ends.is }

pub then_takes : (old mid new : AtText) (text : List ℕ) (done : Bool) → mid.taken ≡ old.taken →
    all_of mid ≡ all_of old → Takes mid new text done → Takes old new text done
then_takes old mid new text true taken all takes =
    (takes.0 ∙ ap (λ (t : List ℕ). t ++ text) taken, takes.1 ∙ ap (λ (t : List ℕ). t ++ text) all)
then_takes old mid new text false taken all takes = (takes.0 ∙ taken, takes.1 ∙ all)

-- all of a text was taken, whatever became of the comment behind it
pub puts_all : (old mid new : AtText) (text : List ℕ) (done : Bool) → Takes old mid text true →
    new.taken ≡ mid.taken → Puts (Some old.taken) (Some new.taken) text done
puts_all old mid new text true takes same = same ∙ takes.0
puts_all old mid new text false takes same =
    record { front = text; unput = []; cut = sym (append-nil text); grows = same ∙ takes.0 }

-- nothing was taken, or a comment alone before
pub puts_nothing : (old new text : List ℕ) → new ≡ old → Puts (Some old) (Some new) text false
puts_nothing old new text same =
    record { front = []; unput = text; cut = refl; grows = same ∙ sym (append-nil old) }

pub puts_next : (old mid new text : List ℕ) (done : Bool) → mid ≡ old → Puts (Some mid) (Some new) text done →
    Puts (Some old) (Some new) text done
puts_next old mid new text done same puts = subst (λ (t : List ℕ). Puts (Some t) (Some new) text done) same puts

pub puts_none : (old new : AtText) (text : List ℕ) → Takes old new text false →
    Puts (Some old.taken) (Some new.taken) text false
puts_none old new text takes =
    record { front = []; unput = text; cut = refl; grows = takes.0 ∙ sym (append-nil old.taken) }
