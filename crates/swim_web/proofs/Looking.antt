-- What follows of the calls of a connection.
use Rattle.std.proofs.Common.{◌≡◌, ℕ, Bool, true, false, not, ◌&&◌, List, [], ◌∷◌, ◌++◌, Option, Some, None, refl, sym}
use Rattle.std.proofs.Common.{ap}
use Rattle.std.proofs.Common.{subst, ◌∙◌, append_assoc, append-nil}
use Rattle.std.specs.List.{list_all}
use Rattle.http_server.specs.declared.response.Response.{Response}
use Rattle.http_server.specs.Exchange.{Call, Chain}
use Rattle.swim_web.specs.Asked.{OnlyLooks, Sent, is_look, line_of}
use Rattle.swim_web.specs.Asking.{AsksNothing, AsksTold, AsksUnless, Looked, told_if}
use Rattle.swim_web.specs.Recent.{Kept}
use Rattle.swim_web.specs.Replies.{Answers, Serves}
use Rattle.swim_web.specs.declared.pages.Page.{Page}
use Rattle.swim_web.specs.declared.pages.Page.TheVariants as pages
use Rattle.swim_web.specs.declared.questions.Question.{Question}
use Rattle.swim_web.specs.declared.questions.Question.TheVariants as questions
use Rattle.swim_web.specs.declared.shelves.Found.{Found}
use Rattle.swim_trail.specs.Growing.{Grows, grows_both, grows_none}

-- ---- each question looks

question_looks : (question : Question) → is_look (line_of question) ≡ true
question_looks questions.List = refl
question_looks questions.Stats = refl

all_look : (sent : List Sent) → list_all (λ (s : Sent). is_look (line_of s.question)) sent ≡ true
all_look [] = refl
all_look (s ∷ sent) =
    ap (λ b. b && list_all (λ (t : Sent). is_look (line_of t.question)) sent) (question_looks s.question)
    ∙ all_look sent

grown_looks : (o n : Option (List Sent)) (sent : List Sent) → Grows o n sent → OnlyLooks o n
grown_looks o n sent grows = record { sent = sent; grows = grows; looks = all_look sent }

pub looks_none : (o : Option (List Sent)) → OnlyLooks o o
looks_none o = grown_looks o o [] (grows_none o)

pub looks_both : (o m n : Option (List Sent)) → OnlyLooks o m → OnlyLooks m n → OnlyLooks o n
looks_both o m n p q = grown_looks o n (p.sent ++ q.sent) (grows_both o m n p.sent q.sent p.grows q.grows)

-- ---- whoever asks

-- an answer was owed, and nothing was asked
pub asks_late : (is_late : Bool) (question : Question) (old : Looked) (answer : List ℕ) → is_late ≡ true →
    AsksTold is_late question old old false answer
asks_late true question old answer late = ((grows_none old.asked, refl), refl)
asks_late false question old answer late = absurd cc

-- none was, and this was asked
pub asks_sent : (is_late : Bool) (question : Question) (old new : Looked) (is_told : Bool) (answer : List ℕ) →
    is_late ≡ false →
    Grows old.asked new.asked (record { question = question; is_answered = is_told; answer = answer } ∷ []) →
    new.is_late ≡ not is_told → AsksTold is_late question old new is_told answer
asks_sent true question old new is_told answer late grows noted = absurd cc
asks_sent false question old new is_told answer late grows noted = (grows, noted)

-- the response says what there is to be told
pub asks_told : (is_late : Bool) (question : Question) (old new : Looked) (is_told : Bool) (answer : List ℕ)
    (Tells : Option (List ℕ) → Type 0) → AsksTold is_late question old new is_told answer →
    Tells (told_if is_told answer) → AsksUnless is_late question old new Tells
asks_told true question old new is_told answer Tells asks tells =
    (asks.0, subst (λ b. Tells (told_if b answer)) asks.1 tells)
asks_told false question old new is_told answer Tells asks tells = record {
  sent = record { question = question; is_answered = is_told; answer = answer };
  once = asks.0;
  is = refl;
  noted = asks.1;
  tells = tells;
}

-- ---- each page looks

none_looks : (o n : Looked) → AsksNothing o n → OnlyLooks o.asked n.asked
none_looks o n nothing = grown_looks o.asked n.asked [] nothing.0

asking_looks : (is_late : Bool) (question : Question) (o n : Looked) (Tells : Option (List ℕ) → Type 0) →
    AsksUnless is_late question o n Tells → OnlyLooks o.asked n.asked
asking_looks true question o n Tells is = none_looks o n is.0
asking_looks false question o n Tells is = grown_looks o.asked n.asked (is.sent ∷ []) is.once

serves_looks : (T : Found → ℕ → ℕ → List ℕ → Type 0) (is_open : Bool) (page : Page) (kept : Kept) (o : Looked)
    (r : Response) (n : Looked) → Serves T is_open page kept o r n → OnlyLooks o.asked n.asked
serves_looks T is_open pages.Health kept o r n is = asking_looks o.is_late questions.List o n _ is
serves_looks T is_open pages.Metrics kept o r n is = asking_looks o.is_late questions.Stats o n _ is
serves_looks T is_open pages.Members kept o r n is = asking_looks o.is_late questions.List o n _ is
serves_looks T is_open pages.Front kept o r n is = none_looks o n is.0
serves_looks T is_open (pages.Verdict member number) kept o r n is = none_looks o n is.0
serves_looks T is_open pages.Changes kept o r n is = none_looks o n is.0
serves_looks T is_open (pages.Events number) kept o r n is = none_looks o n is.0
serves_looks T is_open pages.Misdirected kept o r n is = none_looks o n is.0
serves_looks T is_open pages.Unknown kept o r n is = none_looks o n is.0
serves_looks T is_open pages.Forbidden kept o r n is = none_looks o n is.0

-- whatever requests came one after the other: what each keeps is kept by all of them
pub chain_keeps : {S N : Type 0} (T : S → Found → ℕ → ℕ → List ℕ → Type 0) (opened : S → Bool)
    (is_name : S → List ℕ → Bool) (names : S → N) (full : S → Bool) (kept : S → Kept) (looked : S → Looked)
    (old : S) (calls : List Call) (new : S) →
    Chain (λ a q r b. Answers (T b) (opened a) (is_name a) (full a) (kept a) (looked a) q r (kept b) (looked b)
    × (names b ≡ names a) × (full b ≡ full a)) old calls new →
    OnlyLooks (looked old).asked (looked new).asked × (kept new ≡ kept old) × (names new ≡ names old)
    × (full new ≡ full old)
chain_keeps T opened is_name names full kept looked old [] new is = (
  subst (λ s. OnlyLooks (looked old).asked (looked s).asked) (sym is) (looks_none (looked old).asked),
  ap kept is,
  ap names is,
  ap full is,
)
chain_keeps T opened is_name names full kept looked old (c ∷ calls) new is =
    let later = chain_keeps T opened is_name names full kept looked is.0 calls new is.2 in (
      looks_both (looked old).asked (looked is.0).asked (looked new).asked
          (serves_looks (T is.0) _ _ (kept old) (looked old) is.1.0.0.0 (looked is.0) is.1.0.0.1) later.0,
      later.1 ∙ is.1.0.1,
      later.2 ∙ is.1.1,
      later.3 ∙ is.1.2,
    )
