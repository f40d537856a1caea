-- How a daemon is asked, and what there is to be told.
use Rattle.std.specs.Prelude.{◌≡◌, ℕ, Bool, true, false, not, List, [], ◌∷◌, Option, Some, None}
use Rattle.swim_web.specs.Asked.{Sent}
use Rattle.swim_web.specs.declared.questions.Question.{Question}
use Rattle.swim_trail.specs.Growing.{Grows}

-- what was asked so far, as far as that is known, and whether the daemon owed an answer just now
pub record Looked : Type 0 where
  pub asked : Option (List Sent)
  pub is_late : Bool

-- what a daemon answered, if it did
abbrev pub told_if : Bool → List ℕ → Option (List ℕ)
told_if true answer = Some answer
told_if false answer = None

-- nothing was asked
abbrev pub AsksNothing : Looked → Looked → Type 0
AsksNothing old new = Grows old.asked new.asked [] × (new.is_late ≡ old.is_late)

-- the daemon was asked this once, and the response says what came of it; it is noted whether an answer is owed
pub record AsksOnce (question : Question) (old new : Looked) (Tells : Option (List ℕ) → Type 0) : Type 0 where
  pub sent : Sent
  pub once : Grows old.asked new.asked (sent ∷ [])
  pub is : sent.question ≡ question
  pub noted : new.is_late ≡ not sent.is_answered
  pub tells : Tells (told_if sent.is_answered sent.answer)

-- a daemon that owed an answer just now isn't asked: there is none
abbrev pub AsksUnless : Bool → Question → Looked → Looked → (Option (List ℕ) → Type 0) → Type 0
AsksUnless true question old new Tells = AsksNothing old new × Tells None
AsksUnless false question old new Tells = AsksOnce question old new Tells

abbrev pub Asks : Question → Looked → Looked → (Option (List ℕ) → Type 0) → Type 0
Asks question old new Tells = AsksUnless old.is_late question old new Tells

-- the same before a response is made: whether there is an answer, and which
abbrev pub AsksTold : Bool → Question → Looked → Looked → Bool → List ℕ → Type 0
AsksTold true question old new is_told answer = AsksNothing old new × (is_told ≡ false)
AsksTold false question old new is_told answer =
    Grows old.asked new.asked (record { question = question; is_answered = is_told; answer = answer } ∷ [])
    × (new.is_late ≡ not is_told)
