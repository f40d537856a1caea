-- Messages of odd senders, one call on.
use Rattle.std.proofs.Common.{◌≡◌, ℕ, suc, ◌+◌, List, [], ◌∷◌, ◌++◌, length, Option, Some, None, append_assoc}
use Rattle.std.proofs.Common.{refl, sym, ap, ◌∙◌, arith}
use Rattle.std.specs.Option.{option_to_list}
use Rattle.swim_history.specs.declared.calls.Call.{Call}
use Rattle.swim_history.specs.declared.entries.Entry.{Entry}
use Rattle.swim_history.specs.declared.rows.Row.{Row}
use Rattle.swim_history.specs.Changes.{table}
use Rattle.swim_events.specs.Watched.{Lived, lived_on}
use Rattle.swim_metrics.specs.Counting.{capped}
use Rattle.swim_metrics.specs.OddSenders.{count_of, count_then, elsewhere, newest, odd, odd_in, own_id, senders_of}
use Rattle.swim_metrics.specs.OddSenders.{senders_then, unlisted}
use Rattle.swim_metrics.specs.declared.odd_senders.OddCount.{OddCount}
use Rattle.swim_metrics.specs.declared.odd_senders.OddMessage.{OddMessage}
use Rattle.swim_metrics.specs.declared.odd_senders.OddSenders.{OddSenders}

one_more : (n : ℕ) → capped (capped n + 1) ≡ capped (suc n)
one_more n = omega arith

count_on : (message : Option OddMessage) (messages : List OddMessage) →
    count_then message (count_of messages) ≡ count_of (option_to_list message ++ messages)
count_on None messages = refl
count_on (Some message) messages =
    ap (λ (n : ℕ). record { count = n; newest = Some message }) (one_more (length messages))

which_on : (which : ℕ → List Row → Call → Option OddMessage) (life : Lived) (older : List Lived) (e : Entry) →
    count_then (which life.opening.me (table life.opening life.past) e.call) (count_of (odd which (life ∷ older))) ≡
    count_of (odd which (lived_on life e ∷ older))
which_on which life older e =
    let message = which life.opening.me (table life.opening life.past) e.call in
    count_on message (odd which (life ∷ older))
    ∙ ap count_of
    (sym (append_assoc (option_to_list message) (odd_in which life.opening life.past) (odd which older)))

abbrev pub made : OddCount → OddCount → OddCount → OddSenders
made first second third = record { unlisted = first; own_id = second; elsewhere = third }

same_senders : (a b c d e f : OddCount) → a ≡ b → c ≡ d → e ≡ f → made a c e ≡ made b d f
same_senders a b c d e f one two three = rw (one, two, three) refl

all_on : (life : Lived) (older : List Lived) (e : Entry) →
    senders_then life.opening.me (table life.opening life.past) e.call (senders_of (life ∷ older)) ≡
    senders_of (lived_on life e ∷ older)
all_on life older e =
    same_senders _ _ _ _ _ _ (which_on unlisted life older e) (which_on own_id life older e)
    (which_on elsewhere life older e)

pub odd_on : (life : Lived) (older : List Lived) (e : Entry) (call : Call) (me : ℕ) (rows : List Row)
    (old new : OddSenders) → e.call ≡ call → rows ≡ table life.opening life.past → me ≡ life.opening.me →
    old ≡ senders_of (life ∷ older) → new ≡ senders_then me rows call old →
    new ≡ senders_of (lived_on life e ∷ older)
odd_on life older e call me rows old new calls are is held becomes =
    becomes ∙ rw (are, is, held, ← calls) (all_on life older e)
