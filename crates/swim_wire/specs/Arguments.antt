-- Words of a line that are read one after another, each as an argument.
use Rattle.std.specs.Prelude.{◌≡◌, ℕ, List, [], ◌∷◌, Option, Some, None, Result, Ok, Err}

-- a step after another that may fail
infixl 10 ◌>>=◌
abbrev pub ◌>>=◌ : {A B E : Type 0} → Result A E → (A → Result B E) → Result B E
(Ok x) >>= f = f x
(Err fault) >>= f = Err fault

-- the value of a word that was read, and the words after it
abbrev pub with_words : {A E : Type 0} → E → List (List ℕ) → Option A → Result (A × List (List ℕ)) E
with_words fault after None = Err fault
with_words fault after (Some x) = Ok (x, after)

-- the first word as an argument of that kind: a missing or refused one is the kind's fault
abbrev pub argument : {A E : Type 0} → E → (List ℕ → Option A) → List (List ℕ) → Result (A × List (List ℕ)) E
argument fault read [] = Err fault
argument fault read (word ∷ after) = with_words fault after (read word)

-- what was taken from the words, of which those are left
abbrev pub TakesFrom : {A E : Type 0} → Result A E → List (List ℕ) → Result (A × List (List ℕ)) E → Type 0
TakesFrom (Ok x) after read = read ≡ Ok (x, after)
TakesFrom (Err fault) after read = read ≡ Err fault

-- words left over are a fault
abbrev pub nothing_left : {E : Type 0} → E → List (List ℕ) → Result (Unit {0}) E
nothing_left fault [] = Ok tt
nothing_left fault (word ∷ after) = Err fault
