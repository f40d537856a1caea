-- That a recorder that has finished a journal has recorded all of it.
use Rattle.std.proofs.Common.{◌≡◌, ℕ, List, length, take, refl, sym, subst}
use Rattle.std.proofs.lemmas.List.{take_at}
use mathlib.Core.List.{IsPrefix}
use Rattle.swim_history.specs.Setting.{Setting}
use Rattle.swim_node.specs.Cells.{Filing}

pub recorded_all : {D : Type 0} (records : D → Setting → List Filing → D → Type 0) (o opening : Setting)
    (read all : List Filing) (count : ℕ) (old mid new : D) → IsPrefix read all → count ≡ length read → opening ≡ o →
    ((first : D) → records first opening (take count all) mid → records first opening all new) →
    records old o read mid → records old o all new
recorded_all records o opening read all count old mid new begins is same finishes recorded =
    let front : take (length read) all ≡ read =
    subst (λ (l : List Filing). take (length read) l ≡ read) begins.1 (take_at read begins.0 (length read) refl) in
    let read_is : take count all ≡ read = rw is front in
    subst (λ s. records old s all new) same
    (finishes old (subst (λ s. records old s (take count all) mid) (sym same)
    (subst (λ l. records old o l mid) (sym read_is) recorded)))
