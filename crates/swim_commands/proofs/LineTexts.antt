-- What was written of lines so far, a text for each, and the lines that are left.
use Rattle.std.proofs.Common.{◌≡◌, ℕ, true, false, List, [], ◌∷◌, ◌++◌, Option, append_assoc, append-nil, refl, sym, ap}
use Rattle.std.proofs.Common.{subst, ◌∙◌}
use Rattle.std.specs.List.{flat_map}
use Rattle.swim_text.specs.Streams.{Puts, appends_none, keeps_self, puts_less, puts_then}

-- a front of a text was written, and the texts of these lines are the rest of it
pub record WrittenSoFar (text_of : List ℕ → List ℕ) (whole : List ℕ) (left : List (List ℕ))
    (old new : Option (List ℕ)) : Type 0 where
  pub front : List ℕ
  pub put : Puts old new front true
  pub cut : whole ≡ front ++ flat_map text_of left

pub none_written : (text_of : List ℕ → List ℕ) (whole : List ℕ) (lines : List (List ℕ))
    (o : Option (List ℕ)) → whole ≡ flat_map text_of lines → WrittenSoFar text_of whole lines o o
none_written text_of whole lines o e = record { front = []; put = appends_none o o (keeps_self o); cut = e }

pub one_written : (text_of : List ℕ → List ℕ) (whole line : List ℕ) (lines rest : List (List ℕ))
    (o m n : Option (List ℕ)) → WrittenSoFar text_of whole lines o m → lines ≡ line ∷ rest →
    Puts m n (text_of line) true → WrittenSoFar text_of whole rest o n
one_written text_of whole line lines rest o m n t at put = record {
  front = t.front ++ text_of line;
  put = puts_then o m n t.front (text_of line) true t.put put;
  cut = t.cut ∙ ap (λ l. t.front ++ flat_map text_of l) at
      ∙ sym (append_assoc t.front (text_of line) (flat_map text_of rest));
}

pub all_written : (text_of : List ℕ → List ℕ) (whole : List ℕ) (lines : List (List ℕ))
    (o n : Option (List ℕ)) → WrittenSoFar text_of whole lines o n → lines ≡ [] → Puts o n whole true
all_written text_of whole lines o n t none =
    let is : whole ≡ t.front = t.cut ∙ ap (λ l. t.front ++ flat_map text_of l) none ∙ append-nil t.front in
    subst (λ text. Puts o n text true) (sym is) t.put

pub write_failed : (text_of : List ℕ → List ℕ) (whole line : List ℕ) (lines rest : List (List ℕ))
    (o m n : Option (List ℕ)) → WrittenSoFar text_of whole lines o m → lines ≡ line ∷ rest →
    Puts m n (text_of line) false → Puts o n whole false
write_failed text_of whole line lines rest o m n t at put =
    let is : whole ≡ (t.front ++ text_of line) ++ flat_map text_of rest =
    t.cut ∙ ap (λ l. t.front ++ flat_map text_of l) at
    ∙ sym (append_assoc t.front (text_of line) (flat_map text_of rest)) in
    subst (λ text. Puts o n text false) (sym is)
    (puts_less o n (t.front ++ text_of line) (flat_map text_of rest)
    (puts_then o m n t.front (text_of line) false t.put put))
