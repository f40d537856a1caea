-- From line to line: what has been asked when one more was.
use Rattle.std.proofs.Common.{◌≡◌, ℕ, Bool, true, false, ◌||◌, List, [], ◌∷◌, ◌++◌, Option, Some, None, Ok, Err}
use Rattle.std.proofs.Common.{refl, sym, ap, ◌∙◌, append_assoc, append-nil, inl, inr}
use Rattle.std.proofs.lemmas.Grind.{flat_map-append}
use Rattle.std.proofs.lemmas.List.Folds.{list_any-append}
use Rattle.std.specs.List.{flat_map}
use Rattle.std.specs.Io.KnownBytes.{Appends, Consumes}
use Rattle.swim_text.specs.Streams.{appends_both, appends_none, keeps_self}
use Rattle.swim_trail.specs.Growing.{Grows, grows_both, grows_none}
use Rattle.swim_commands.specs.Answers.{is_stopping}
use Rattle.swim_commands.specs.Forms.{is_unmet}
use Rattle.swim_commands.specs.Asking.{Asker, Asking, EndsInStop, Exchange, HasAsked, IsDone, IsStopped}
use Rattle.swim_commands.specs.Asking.{Passes, Reads, Sent, asked_so, bytes_of, has_refusal}
use Rattle.swim_commands.specs.Asking.{sent, shown_of, stopped_so}
use Rattle.swim_commands.proofs.ControlLines.{all_taken}
use Rattle.swim_commands.specs.declared.askers.Came.{Came}
use Rattle.swim_commands.specs.declared.askers.Came.TheVariants as came
use Rattle.swim_commands.specs.declared.control_lines.NextLine.TheVariants.{Line, Over, Fault}
use Rattle.swim_commands.specs.declared.forms.Form.{Form}
use Rattle.swim_outcomes.specs.declared.outcomes.Outcome.{Outcome}
use Rattle.swim_outcomes.specs.declared.outcomes.Outcome.TheVariants as outcomes
use Rattle.swim_outcomes.specs.declared.outcomes.Outcome.TheVariants.{AskRefused, AskTimeout, Unanswered, AskUnwritten}
use Rattle.swim_outcomes.specs.declared.outcomes.Outcome.TheVariants.{AskUnread, Helped}
use Rattle.swim_outcomes.specs.declared.outcomes.Outcome.TheVariants.{Checked, Stopped, Usage}
use Rattle.swim_outcomes.specs.declared.outcomes.Outcome.TheVariants.{Unread, Refused, Unwritten}
use Rattle.swim_outcomes.specs.declared.outcomes.Outcome.TheVariants.{NoListen}
use Rattle.swim_outcomes.specs.declared.outcomes.Outcome.TheVariants.{NoControl, NoMemory, Socket}
use Rattle.swim_outcomes.specs.declared.outcomes.Outcome.TheVariants.{NoPlace, NoDaemon, NoRandom}
use Rattle.swim_outcomes.specs.declared.outcomes.Outcome.TheVariants.{NoEvents, NoTeller, WatchUnwritten}
use Rattle.swim_outcomes.specs.declared.outcomes.Outcome.TheVariants.{NoWeb, WebOver}

consumes_none : (o : Option (List ℕ)) → Consumes o o []
consumes_none None = tt
consumes_none (Some xs) = refl

consumes_both : (o m n : Option (List ℕ)) (xs ys : List ℕ) → Consumes o m xs → Consumes m n ys → Consumes o n (xs ++ ys)
consumes_both None m n xs ys p q = tt
consumes_both (Some x) None n xs ys p q = absurd p
consumes_both (Some x) (Some y) None xs ys p q = absurd q
consumes_both (Some x) (Some y) (Some z) xs ys p q = p ∙ ap (λ l. xs ++ l) q ∙ sym (append_assoc xs ys z)

-- lines were asked, and this is known of their answers
pub record Going (form : Form) (old new : Asker) (refused : Bool) : Type 0 where
  pub exchanges : List (Exchange form)
  pub asked : HasAsked form exchanges old new
  pub refused_is : has_refusal form exchanges ≡ refused

pub none_asked : (form : Form) (o : Asker) → Going form o o false
none_asked form o = record {
  exchanges = [];
  asked = record {
    read = consumes_none o.left;
    wrote = appends_none o.written o.written (keeps_self o.written);
    asked = grows_none o.asked;
  };
  refused_is = refl;
}

-- one exchange more
more_asked : (form : Form) (exchanges : List (Exchange form)) (e : Exchange form) (o m n : Asker) →
    HasAsked form exchanges o m →
    Consumes m.left n.left (bytes_of e.line) → Appends m.written n.written (shown_of form e) →
    Grows m.asked n.asked (sent form e) → HasAsked form (exchanges ++ e ∷ []) o n
more_asked form exchanges e o m n has read wrote asked = record {
  read = rw (flat_map-append (λ (x : Exchange form). bytes_of x.line) exchanges (e ∷ []), append-nil (bytes_of e.line))
      (consumes_both o.left m.left n.left _ (bytes_of e.line) has.read read);
  wrote = rw (flat_map-append (shown_of form) exchanges (e ∷ []), append-nil (shown_of form e))
      (appends_both o.written m.written n.written _ (shown_of form e) has.wrote wrote);
  asked = rw (flat_map-append (sent form) exchanges (e ∷ []), append-nil (sent form e))
      (grows_both o.asked m.asked n.asked _ (sent form e) has.asked asked);
}

-- what a line that was answered whole came to
pub record OneMore (form : Form) (old new : Asker) (refused : Bool) (answer : List ℕ) : Type 0 where
  pub before : List (Exchange form)
  pub last : Exchange form
  pub asked : HasAsked form (before ++ last ∷ []) old new
  pub refused_is : has_refusal form (before ++ last ∷ []) ≡ refused
  pub answer_is : last.answer ≡ answer

pub one_more_asked : (form : Form) (o : Asker) (l1 l2 w1 w2 : Option (List ℕ)) (a1 a2 : Option (List Sent))
    (line answer : List ℕ) (refused more : Bool) →
    Going form o (record { left = l1; written = w1; asked = a1 }) refused →
    Reads Line l1 l2 line →
    Passes form line (Ok tt) answer w1 w2 a1 a2 → more ≡ (refused || is_unmet form answer) →
    OneMore form o (record { left = l2; written = w2; asked = a2 }) more answer
one_more_asked form o l1 l2 w1 w2 a1 a2 line answer refused more going (input, taken, sent_is)
    (beside, whole, is_beside, wrote, asked) e =
    let last : Exchange form = record {
      line = input;
      answer = answer;
      whole = rw (← sent_is) whole;
      beside = beside;
      is_beside = is_beside;
    } in
    record {
      before = going.exchanges;
      last = last;
      asked = more_asked form going.exchanges last o (record { left = l1; written = w1; asked = a1 })
          (record { left = l2; written = w2; asked = a2 }) going.asked taken.taken wrote (rw (← sent_is) asked);
      refused_is = list_any-append (λ (x : Exchange form). is_unmet form x.answer) going.exchanges (last ∷ [])
          ∙ last_of (has_refusal form going.exchanges) (is_unmet form answer) ∙
          ap (λ b. b || is_unmet form answer) going.refused_is ∙ sym e;
      answer_is = refl;
    }
  where
    last_of : (a b : Bool) → (a || (b || false)) ≡ (a || b)
    last_of true b = refl
    last_of false true = refl
    last_of false false = refl

pub goes_on : (form : Form) (o n : Asker) (refused : Bool) (answer : List ℕ) →
    OneMore form o n refused answer → Going form o n refused
goes_on form o n refused answer more =
    record { exchanges = more.before ++ more.last ∷ []; asked = more.asked; refused_is = more.refused_is }

-- the ends

done_so : (form : Form) (o n : Asker) (refused : Bool) → IsDone form refused o n → Asking form o n (asked_so refused)
done_so form o n true done = done
done_so form o n false done = done

pub ends_asked : (form : Form) (o : Asker) (l1 l2 w1 : Option (List ℕ)) (a1 : Option (List Sent)) (line : List ℕ)
    (refused : Bool) →
    Going form o (record { left = l1; written = w1; asked = a1 }) refused → Reads Over l1 l2 line →
    Asking form o (record { left = l2; written = w1; asked = a1 }) (asked_so refused)
ends_asked form o l1 l2 w1 a1 line refused going (over, none) =
    done_so form o (record { left = l2; written = w1; asked = a1 }) refused (record {
      exchanges = going.exchanges;
      asked = record {
        read = rw (← append-nil (flat_map (λ (x : Exchange form). bytes_of x.line) going.exchanges))
            (consumes_both o.left l1 l2 _ [] going.asked.read none);
        wrote = going.asked.wrote;
        asked = going.asked.asked;
      };
      refused_is = going.refused_is;
      whole = inl (all_taken o.left l1 _ going.asked.read over);
    })

pub ends_unread : (form : Form) (o : Asker) (l1 l2 w1 : Option (List ℕ)) (a1 : Option (List Sent)) (line : List ℕ)
    (refused : Bool) →
    Going form o (record { left = l1; written = w1; asked = a1 }) refused → Reads Fault l1 l2 line →
    Asking form o (record { left = l2; written = w1; asked = a1 }) AskUnread
ends_unread form o l1 l2 w1 a1 line refused going part = record {
  exchanges = going.exchanges;
  mid = record { left = l1; written = w1; asked = a1 };
  asked = going.asked;
  last = record { taken = part; kept = keeps_self w1; asked = grows_none a1 };
}

pub ends_spent : (form : Form) (o n : Asker) (refused : Bool) → Going form o n refused → Asking form o n AskUnread
ends_spent form o n refused going = record {
  exchanges = going.exchanges;
  mid = n;
  asked = going.asked;
  last = record { taken = ([], consumes_none n.left, refl); kept = keeps_self n.written; asked = grows_none n.asked };
}

pub ends_broken : (form : Form) (o : Asker) (l1 l2 w1 w2 : Option (List ℕ)) (a1 a2 : Option (List Sent))
    (line answer : List ℕ) (refused : Bool) (outcome : Outcome) →
    Going form o (record { left = l1; written = w1; asked = a1 }) refused →
    Reads Line l1 l2 line → Passes form line (Err outcome) answer w1 w2 a1 a2 →
    Asking form o (record { left = l2; written = w2; asked = a2 }) outcome
ends_broken form o l1 l2 w1 w2 a1 a2 line answer refused AskTimeout going (input, taken, sent_is) (kept, asked) =
    inl (record {
      exchanges = going.exchanges;
      mid = record { left = l1; written = w1; asked = a1 };
      asked = going.asked;
      last = record { line = input; answer = answer; taken = taken; asked = rw (← sent_is) asked; kept = kept };
    })
ends_broken form o l1 l2 w1 w2 a1 a2 line answer refused Unanswered going (input, taken, sent_is)
    (kept, asked) = record {
      exchanges = going.exchanges;
      mid = record { left = l1; written = w1; asked = a1 };
      asked = going.asked;
      last = record { line = input; answer = answer; taken = taken; asked = rw (← sent_is) asked; kept = kept };
    }
ends_broken form o l1 l2 w1 w2 a1 a2 line answer refused AskUnwritten going (input, taken, sent_is)
    (beside, whole, is_beside, wrote, asked) =
    record {
      exchanges = going.exchanges;
      mid = record { left = l1; written = w1; asked = a1 };
      asked = going.asked;
      last = record {
        exchange = record {
          line = input;
          answer = answer;
          whole = rw (← sent_is) whole;
          beside = beside;
          is_beside = is_beside;
        };
        taken = taken;
        asked = rw (← sent_is) asked;
        wrote = wrote;
      };
    }
ends_broken form o l1 l2 w1 w2 a1 a2 line answer refused Checked going reads passes = absurd passes
ends_broken form o l1 l2 w1 w2 a1 a2 line answer refused Stopped going reads passes = absurd passes
ends_broken form o l1 l2 w1 w2 a1 a2 line answer refused outcomes.Asked going reads passes = absurd passes
ends_broken form o l1 l2 w1 w2 a1 a2 line answer refused AskRefused going reads passes = absurd passes
ends_broken form o l1 l2 w1 w2 a1 a2 line answer refused AskUnread going reads passes = absurd passes
ends_broken form o l1 l2 w1 w2 a1 a2 line answer refused Helped going reads passes = absurd passes
ends_broken form o l1 l2 w1 w2 a1 a2 line answer refused Usage going reads passes = absurd passes
ends_broken form o l1 l2 w1 w2 a1 a2 line answer refused Unread going reads passes = absurd passes
ends_broken form o l1 l2 w1 w2 a1 a2 line answer refused (Refused fault) going reads passes = absurd passes
ends_broken form o l1 l2 w1 w2 a1 a2 line answer refused Unwritten going reads passes = absurd passes
ends_broken form o l1 l2 w1 w2 a1 a2 line answer refused NoListen going reads passes = absurd passes
ends_broken form o l1 l2 w1 w2 a1 a2 line answer refused NoControl going reads passes = absurd passes
ends_broken form o l1 l2 w1 w2 a1 a2 line answer refused NoMemory going reads passes = absurd passes
ends_broken form o l1 l2 w1 w2 a1 a2 line answer refused Socket going reads passes = absurd passes
ends_broken form o l1 l2 w1 w2 a1 a2 line answer refused NoPlace going reads passes = absurd passes
ends_broken form o l1 l2 w1 w2 a1 a2 line answer refused NoDaemon going reads passes = absurd passes
ends_broken form o l1 l2 w1 w2 a1 a2 line answer refused NoRandom going reads passes = absurd passes
ends_broken form o l1 l2 w1 w2 a1 a2 line answer refused NoEvents going reads passes = absurd passes
ends_broken form o l1 l2 w1 w2 a1 a2 line answer refused NoTeller going reads passes = absurd passes
ends_broken form o l1 l2 w1 w2 a1 a2 line answer refused WatchUnwritten going reads passes = absurd passes
ends_broken form o l1 l2 w1 w2 a1 a2 line answer refused NoWeb going reads passes = absurd passes
ends_broken form o l1 l2 w1 w2 a1 a2 line answer refused WebOver going reads passes = absurd passes

stop_of : (form : Form) (o n : Asker) (refused : Bool) (answer : List ℕ) →
    OneMore form o n refused answer → is_stopping answer ≡ true →
    IsDone form refused o n × IsStopped form o n
stop_of form o n refused answer more is = (
  record {
    exchanges = more.before ++ more.last ∷ [];
    asked = more.asked;
    refused_is = more.refused_is;
    whole = inr last;
  },
  record { exchanges = more.before ++ more.last ∷ []; asked = more.asked; last = last },
)
  where
    last : EndsInStop form (more.before ++ more.last ∷ [])
    last = (more.before, more.last, refl, ap is_stopping more.answer_is ∙ is)

pub ends_stopped : (form : Form) (o : Asker) (l w : Option (List ℕ)) (a a' : Option (List Sent)) (refused : Bool)
    (answer : List ℕ) (met : Came)
    → OneMore form o (record { left = l; written = w; asked = a }) refused answer → is_stopping answer ≡ true → a' ≡ a →
    Asking form o (record { left = l; written = w; asked = a' }) (stopped_so met refused)
ends_stopped form o l w a a' refused answer met more is same =
    rw same (by met (stop_of form o _ refused answer more is))
  where
    n : Asker
    n = record { left = l; written = w; asked = a }

    by : (c : Came) → IsDone form refused o n × IsStopped form o n → Asking form o n (stopped_so c refused)
    by came.Late ends = inr ends.1
    by came.Answer ends = done_so form o n refused ends.0
    by came.Nothing ends = done_so form o n refused ends.0
