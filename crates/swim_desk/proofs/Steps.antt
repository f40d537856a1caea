-- Turns of a worker behind others.
use Rattle.std.proofs.Common.{List, [], ◌∷◌, ◌++◌, Option, Some, None, refl, sym, subst, ap, ◌∙◌, append_assoc}
use Rattle.swim_work.specs.declared.counts.Why.{Why}
use Rattle.swim_work.specs.Turns.{EndsSo, Turns}

pub turns_both : {A S : Type 0} (turn : A → S → Option Why → S → Type 0) (xs ys : List A) (a b c : S) →
    Turns turn xs a b → Turns turn ys b c → Turns turn (xs ++ ys) a c
turns_both turn [] ys a b c is then = subst (λ s. Turns turn ys s c) is then
turns_both turn (x ∷ xs) ys a b c is then = (is.0, is.1, turns_both turn xs ys is.0 b c is.2 then)

-- the last of them may end the worker
pub ends_after : {A S : Type 0} (turn : A → S → Option Why → S → Type 0) (xs ys : List A) (a b : S) (end : Option Why)
    (c : S) → Turns turn xs a b → EndsSo turn ys b end c → EndsSo turn (xs ++ ys) a end c
ends_after turn xs ys a b None c is then = turns_both turn xs ys a b c is then
ends_after turn xs ys a b (Some why) c is then = (
  xs ++ then.0,
  then.1,
  then.2,
  ap (λ l. xs ++ l) then.3 ∙ sym (append_assoc xs then.0 (then.1 ∷ [])),
  turns_both turn xs then.0 a b then.2 is then.4,
  then.5,
)

-- a single one
pub ends_with_one : {A S : Type 0} (turn : A → S → Option Why → S → Type 0) (x : A) (a : S) (end : Option Why) (b : S) →
    turn x a end b → EndsSo turn (x ∷ []) a end b
ends_with_one turn x a None b is = (b, is, refl)
ends_with_one turn x a (Some why) b is = ([], x, a, refl, refl, is)
