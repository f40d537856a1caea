-- What is asked beside a line, to write its answer.
use Rattle.std.proofs.Common.{◌≡◌, ℕ, true, false, List, [], ◌∷◌, Option, Some, None, Ok, Err, codes, refl, sym, subst}
use Rattle.swim_text.specs.Streams.{Puts}
use Rattle.swim_trail.specs.Growing.{Grows, grows_both, grows_none}
use Rattle.swim_commands.specs.Answers.{is_answer_to}
use Rattle.swim_commands.specs.Asking.{AsksBeside, IsAskedBeside, Passes, Sent, counts_of, listed, sent_with}
use Rattle.swim_commands.specs.Asking.{text_by}
use Rattle.swim_commands.specs.Forms.{needs_counts, shown}
use Rattle.swim_commands.specs.declared.askers.Came.{Came}
use Rattle.swim_commands.specs.declared.askers.Came.TheVariants as came
use Rattle.swim_commands.specs.declared.forms.Form.{Form}
use Rattle.swim_outcomes.specs.declared.outcomes.Outcome.TheVariants.{AskUnwritten}

-- nothing is, where no counts are needed
pub none_beside : (form : Form) (answer counts : List ℕ) (a : Option (List Sent)) → needs_counts form answer ≡ false →
    counts ≡ [] → AsksBeside form answer counts a a
none_beside form answer counts a needless none =
    (None, subst (λ needed. IsAskedBeside needed None) (sym needless) tt, none, grows_none a)

-- the counts are, of which this came
pub counts_beside : (form : Form) (answer counts text : List ℕ) (met : Came) (a b : Option (List Sent)) →
    needs_counts form answer ≡ true →
    Grows a b (record { line = codes "stats\n"; came = met; answer = text } ∷ []) → counts ≡ text_by met text →
    AsksBeside form answer counts a b
counts_beside form answer counts text met a b needed grows known = (
  Some (record { line = codes "stats\n"; came = met; answer = text }),
  subst (λ is. IsAskedBeside is (Some (record { line = codes "stats\n"; came = met; answer = text })))
      (sym needed) refl,
  known,
  grows,
)

-- a line was answered, what is needed was asked, and the answer was written, or not all of it
pub passed : (form : Form) (line answer counts : List ℕ) (o n : Option (List ℕ)) (a b c : Option (List Sent)) →
    is_answer_to line answer ≡ true →
    Grows a b (record { line = line; came = came.Answer; answer = answer } ∷ []) → AsksBeside form answer counts b c →
    Puts o n (shown form counts answer) true → Passes form line (Ok tt) answer o n a c
passed form line answer counts o n a b c whole grows (beside, is_beside, known, more) put = (
  beside,
  whole,
  is_beside,
  subst (λ text. Puts o n (shown form text answer) true) known put,
  grows_both a b c (record { line = line; came = came.Answer; answer = answer } ∷ []) (listed beside) grows more,
)

pub unpassed : (form : Form) (line answer counts : List ℕ) (o n : Option (List ℕ)) (a b c : Option (List Sent)) →
    is_answer_to line answer ≡ true →
    Grows a b (record { line = line; came = came.Answer; answer = answer } ∷ []) → AsksBeside form answer counts b c →
    Puts o n (shown form counts answer) false → Passes form line (Err AskUnwritten) answer o n a c
unpassed form line answer counts o n a b c whole grows (beside, is_beside, known, more) put = (
  beside,
  whole,
  is_beside,
  subst (λ text. Puts o n (shown form text answer) false) known put,
  grows_both a b c (record { line = line; came = came.Answer; answer = answer } ∷ []) (listed beside) grows more,
)
