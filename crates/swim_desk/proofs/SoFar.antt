-- What all connections gave stays answered, step by step, and their lines become the calls of the seat.
use Rattle.std.proofs.Common.{◌≡◌, ◌≢◌, ℕ, ◌+◌, ◌-◌, ◌^◌, ◌<◌, min, Bool, cond, List, [], ◌∷◌, ◌++◌, Option, Some, None}
use Rattle.std.proofs.Common.{refl, sym, ap, subst, ◌∙◌, inl, inr, arith, append_assoc, append-nil}
use Rattle.std.specs.Prelude.{◌==◌}
use Rattle.std.specs.List.{AllByRecursion, count_by}
use Rattle.std.proofs.lemmas.Bool.{eq-eqb, ne_eqb}
use Rattle.std.proofs.lemmas.Bool.Decides.{eqb_tells}
use Rattle.std.proofs.lemmas.List.Sums.{sum_by-append, sum_by-cons}
use Rattle.swim_history.specs.declared.rows.Change.{Change}
use Rattle.swim_history.specs.Setting.{Setting}
use Rattle.swim_node.specs.Seats.{Seated}
use Rattle.swim_control.specs.declared.connections.Stand.{Stand}
use Rattle.swim_control.specs.declared.connections.Stand.TheVariants as stands
use Rattle.swim_control.specs.declared.desks.DeskCommand.{DeskCommand}
use Rattle.swim_control.specs.Connections.{TakesTurn, closed_with, kept_at, newcomer}
use Rattle.swim_control.specs.Desks.{Told}
use Rattle.swim_control.specs.SideBySide.{Brought, Called, Leads, calls_by}
use Rattle.swim_control.specs.Talks.{Talk, Talks}
use Rattle.swim_work.specs.declared.workers.End.{End}
use Rattle.swim_work.specs.Callers.{fresh_seat}
use Rattle.swim_desk.specs.Connected.{AnswersLines, AreAnswered, BecomeSo, BringsSo, unmade_in}
use Rattle.swim_desk.specs.Controlling.{AtControl, ControlsLife, Step, at_control, at_desk, with_newcomer}
use Rattle.swim_desk.specs.Controlling.Step.{Came, Knocked, Turned}
use Rattle.swim_desk.specs.Desk.{Asks, AtDesk}
use Rattle.swim_desk.specs.Given.{AnswersGiven, AreAnsweredSoFar, IsAnsweredSoFar, all_come}
use Rattle.swim_desk.proofs.Becoming.{led_made}
use Rattle.swim_desk.proofs.Connected.{TakesSteps, led_both, life_answered}
use Rattle.swim_desk.proofs.Given.{given_on, given_still, newcomer_given}
use Rattle.swim_desk.proofs.Shown.{led_shown}

-- ---- lists of connections

all_both : {A : Type 0} (P : A → Type 0) (xs ys : List A) → AllByRecursion P xs → AllByRecursion P ys →
    AllByRecursion P (xs ++ ys)
all_both P [] ys p q = q
all_both P (x ∷ xs) ys p q = (p.0, all_both P xs ys p.1 q)

all_first : {A : Type 0} (P : A → Type 0) (xs ys : List A) → AllByRecursion P (xs ++ ys) → AllByRecursion P xs
all_first P [] ys all = tt
all_first P (x ∷ xs) ys all = (all.0, all_first P xs ys all.1)

all_last : {A : Type 0} (P : A → Type 0) (xs ys : List A) → AllByRecursion P (xs ++ ys) → AllByRecursion P ys
all_last P [] ys all = all
all_last P (x ∷ xs) ys all = all_last P xs ys all.1

all_so : {A : Type 0} (P Q : A → Type 0) (xs : List A) → ((x : A) → P x → Q x) → AllByRecursion P xs →
    AllByRecursion Q xs
all_so P Q [] each all = tt
all_so P Q (x ∷ xs) each all = (each x all.0, all_so P Q xs each all.1)

abbrev bit : Bool → ℕ
bit b = cond b 1 0

-- how many have this number
abbrev having : ℕ → List Talk → ℕ
having id talks = count_by (λ t. t.id == id) talks

having_both : (id : ℕ) (xs ys : List Talk) → having id (xs ++ ys) ≡ having id xs + having id ys
having_both id xs ys = sum_by-append (λ (t : Talk). bit (t.id == id)) xs ys

having_first : (id : ℕ) (t : Talk) (talks : List Talk) → having id (t ∷ talks) ≡ bit (t.id == id) + having id talks
having_first id t talks = sum_by-cons (λ (t : Talk). bit (t.id == id)) t talks

having_one : (id : ℕ) (t : Talk) → having id (t ∷ []) ≡ bit (t.id == id)
having_one id t = let one = having_first id t [] in let none : having id [] ≡ 0 = refl in omega (arith, one, none)

-- where none has it the numbers are others
none_has : (id : ℕ) (talks : List Talk) → having id talks ≡ 0 → AllByRecursion (λ (t : Talk). t.id ≢ id) talks
none_has id [] none = tt
none_has id (t ∷ talks) none =
    let first = having_first id t talks in (
      (λ (same : t.id ≡ id).
          let one : bit (t.id == id) ≡ 1 = ap bit (eq-eqb t.id id same) in
          absurd (omega (arith, first, none, one))),
      none_has id talks (omega (arith, first, none)),
    )

-- and where all are less, none has it
less_has : (id : ℕ) (talks : List Talk) → AllByRecursion (λ (t : Talk). t.id < id) talks → having id talks ≡ 0
less_has id [] less = refl
less_has id (t ∷ talks) less =
    let first = having_first id t talks in
    let none : bit (t.id == id) ≡ 0 =
    ap bit (ne_eqb t.id id (λ same. absurd (omega (arith, same, less.0)))) in
    let rest = less_has id talks less.1 in
    omega (arith, first, none, rest)

-- one that had its turn is among the others, or among those that were closed
all_then : (P : Talk → Type 0) (stand : Stand) (others closed : List Talk) (t : Talk) →
    AllByRecursion P (others ++ closed) → P t →
    AllByRecursion P ((others ++ kept_at stand t) ++ closed_with stand t closed)
all_then P stand others closed t all is =
    by stand (all_first P others closed all) (all_last P others closed all) where
      stays : AllByRecursion P others → AllByRecursion P closed → AllByRecursion P ((others ++ t ∷ []) ++ closed)
      stays o c = all_both P (others ++ t ∷ []) closed (all_both P others (t ∷ []) o (is, tt)) c

      by : (s : Stand) → AllByRecursion P others → AllByRecursion P closed →
          AllByRecursion P ((others ++ kept_at s t) ++ closed_with s t closed)
      by stands.Idle o c = stays o c
      by stands.Busy o c = stays o c
      by (stands.Ended end) o c = stays o c
      by (stands.Closed why) o c =
          all_both P (others ++ []) (closed ++ t ∷ []) (subst (AllByRecursion P) (sym (append-nil others)) o)
          (all_both P closed (t ∷ []) c (is, tt))

having_then : (id : ℕ) (stand : Stand) (others closed : List Talk) (t : Talk) →
    having id ((others ++ kept_at stand t) ++ closed_with stand t closed) ≡ having id (t ∷ (others ++ closed))
having_then id stand others closed t = by stand where
  all : having id (t ∷ (others ++ closed)) ≡ bit (t.id == id) + (having id others + having id closed)
  all = having_first id t (others ++ closed) ∙ ap (λ n. bit (t.id == id) + n) (having_both id others closed)

  stays : having id ((others ++ t ∷ []) ++ closed) ≡ having id (t ∷ (others ++ closed))
  stays =
      let x = having_both id (others ++ t ∷ []) closed in
      let y = having_both id others (t ∷ []) in
      let z = having_one id t in
      omega (arith, all, x, y, z)

  goes : having id ((others ++ []) ++ (closed ++ t ∷ [])) ≡ having id (t ∷ (others ++ closed))
  goes =
      let x = having_both id (others ++ []) (closed ++ t ∷ []) in
      let y = having_both id closed (t ∷ []) in
      let z = having_one id t in
      let w : having id (others ++ []) ≡ having id others = ap (having id) (append-nil others) in
      omega (arith, all, x, y, z, w)

  by : (s : Stand) → having id ((others ++ kept_at s t) ++ closed_with s t closed) ≡ having id (t ∷ (others ++ closed))
  by stands.Idle = stays
  by stands.Busy = stays
  by (stands.Ended end) = stays
  by (stands.Closed why) = goes

-- ---- a turn

-- the calls of one are no calls of the others
others_given : (log after : List Called) (id : ℕ) (talks : List Talk) →
    ((other : ℕ) → id ≢ other → calls_by other after ≡ calls_by other log) →
    AllByRecursion (λ (t : Talk). t.id ≢ id) talks → AllByRecursion (IsAnsweredSoFar log) talks →
    AllByRecursion (IsAnsweredSoFar after) talks
others_given log after id [] others apart all = tt
others_given log after id (t ∷ talks) others apart all = (
  given_still log after t (others t.id (λ same. apart.0 (sym same))) all.0,
  others_given log after id talks others apart.1 all.1,
)

all_called : (count id : ℕ) (more log : List Called) → id < count →
    AllByRecursion (λ (c : Called). c.by ≡ id) more → AllByRecursion (λ (c : Called). c.by < count) log →
    AllByRecursion (λ (c : Called). c.by < count) (more ++ log)
all_called count id more log within mine called =
    all_both (λ (c : Called). c.by < count) more log
    (all_so (λ (c : Called). c.by ≡ id) (λ (c : Called). c.by < count) more
    (λ c is. subst (λ (n : ℕ). n < count) (sym is) within) mine) called

turn_given : {S : Type 0} (asks : S → DeskCommand → Told → S → Type 0) (now : ℕ) (stand : Stand) (old new : Talks)
    (desk after : S) (log : List Called) →
    TakesTurn asks now stand old new desk after → new.count ≡ old.count → AreAnsweredSoFar log old →
    (more : List Called) × Leads asks desk more after × AreAnsweredSoFar (more ++ log) new
turn_given asks now stand old new desk after log t count all =
    let rest : List Talk = t.others ++ old.closed in
    let whole : all_come old ≡ t.first ∷ rest = ap (λ l. l ++ old.closed) t.was in
    let then : all_come new ≡ (t.others ++ kept_at stand t.then_so) ++ closed_with stand t.then_so old.closed =
    ap (λ l. l ++ new.closed) t.are ∙ ap (λ l. (t.others ++ kept_at stand t.then_so) ++ l) t.closed in
    let served : AllByRecursion (IsAnsweredSoFar log) (t.first ∷ rest) =
    subst (AllByRecursion (IsAnsweredSoFar log)) whole all.served in
    let came : AllByRecursion (λ (u : Talk). u.id < old.count) (t.first ∷ rest) =
    subst (AllByRecursion (λ (u : Talk). u.id < old.count)) whole all.came in
    let o = given_on asks desk after log now stand t.first t.then_so t.given served.0 in
    let mine : bit (t.first.id == t.first.id) ≡ 1 =
    ap bit (eq-eqb t.first.id t.first.id refl) in
    let one : having t.first.id (t.first ∷ rest) ≡ 1 =
    sym (ap (having t.first.id) whole) ∙ all.once t.first.id came.0 in
    let first = having_first t.first.id t.first rest in
    let apart = none_has t.first.id rest (omega (arith, one, first, mine)) in (
      o.more,
      o.leads,
      record {
        served = subst (AllByRecursion (IsAnsweredSoFar (o.more ++ log))) (sym then)
            (all_then (IsAnsweredSoFar (o.more ++ log)) stand t.others old.closed t.then_so
            (others_given log (o.more ++ log) t.first.id rest o.others apart served.1) o.answered);
        once = λ id within.
            let all_one : having id (t.first ∷ rest) ≡ 1 =
            sym (ap (having id) whole) ∙ all.once id (subst (λ (n : ℕ). id < n) count within) in
            let same : having id (t.then_so ∷ rest) ≡ having id (t.first ∷ rest) =
            having_first id t.then_so rest
            ∙ (ap (λ (n : ℕ). bit (n == id) + having id rest) o.same ∙ sym (having_first id t.first rest)) in
            ap (having id) then ∙ (having_then id stand t.others old.closed t.then_so ∙ (same ∙ all_one));
        came = subst (λ (n : ℕ). AllByRecursion (λ (u : Talk). u.id < n) (all_come new)) (sym count)
            (subst (AllByRecursion (λ (u : Talk). u.id < old.count)) (sym then)
            (all_then (λ (u : Talk). u.id < old.count) stand t.others old.closed t.then_so came.1
            (subst (λ (n : ℕ). n < old.count) (sym o.same) came.0)));
        called = subst (λ (n : ℕ). AllByRecursion (λ (c : Called). c.by < n) (o.more ++ log)) (sym count)
            (all_called old.count t.first.id o.more log came.0 o.mine all.called);
      },
    )

-- ---- who comes

-- with one more, of a number that none has, or of another
having_with : (id : ℕ) (talks closed : List Talk) (t : Talk) → having id (talks ++ closed) + bit (t.id == id) ≡ 1 →
    having id ((talks ++ t ∷ []) ++ closed) ≡ 1
having_with id talks closed t one =
    let x = having_both id (talks ++ t ∷ []) closed in
    let y = having_both id talks (t ∷ []) in
    let z = having_one id t in
    let w = having_both id talks closed in
    omega (arith, x, y, z, w, one)

come_given : (log : List Called) (old : Talks) (left : Option (List ℕ)) (now : ℕ) → AreAnsweredSoFar log old →
    AreAnsweredSoFar log (with_newcomer left now old)
come_given log old left now all =
    let t : Talk = newcomer old.count left (Some []) (Some []) now in
    let is = newcomer_given log old.count left now all.called in
    record {
      served = with_one (IsAnsweredSoFar log) t all.served is;
      once = λ id within. having_with id old.talks old.closed t (elim (eqb_tells old.count id) [
        | inl here ↦
            let none_yet : having old.count (all_come old) ≡ 0 = less_has old.count (all_come old) all.came in
            both (having id (all_come old)) (bit (old.count == id)) 0 1
            (subst (λ (n : ℕ). having n (all_come old) ≡ 0) here.1 none_yet) (ap bit here.0) refl
        | inr elsewhere ↦
            both (having id (all_come old)) (bit (old.count == id)) 1 0
            (all.once id (below id old.count within (λ same. elsewhere.1 (sym same))))
            (ap bit elsewhere.0) refl
      ]);
      came = with_one (λ (u : Talk). u.id < old.count + 1) t
          (all_so (λ (u : Talk). u.id < old.count) (λ (u : Talk). u.id < old.count + 1) (all_come old)
          (λ u less. omega (arith, less)) all.came) (omega arith);
      called = all_so (λ (c : Called). c.by < old.count) (λ (c : Called). c.by < old.count + 1) log
          (λ c less. omega (arith, less)) all.called;
    }
  where
    below : (id count : ℕ) → id < count + 1 → id ≢ count → id < count
    below id count within apart = omega (arith, within, apart)

    both : (m n a b : ℕ) → m ≡ a → n ≡ b → a + b ≡ 1 → m + n ≡ 1
    both m n a b first second sum = omega (arith, first, second, sum)

    with_one : (P : Talk → Type 0) (t : Talk) → AllByRecursion P (old.talks ++ old.closed) → P t →
        AllByRecursion P ((old.talks ++ t ∷ []) ++ old.closed)
    with_one P t all is =
        all_both P (old.talks ++ t ∷ []) old.closed
        (all_both P old.talks (t ∷ []) (all_first P old.talks old.closed all) (is, tt))
        (all_last P old.talks old.closed all)

-- nobody has come
pub none_given : AreAnsweredSoFar [] (record { talks = []; count = 0; closed = [] })
none_given = record {
  served = tt;
  once = λ id within. absurd (omega (arith, within));
  came = tt;
  called = tt;
}

-- ---- one step after the other

-- with these steps the desk gets calls, or none, and all that was given stays answered
abbrev StayGiven : Setting → ℕ → Talks → AtDesk → Talks → AtDesk → Type 0
StayGiven o limit old desk new after =
    (log : List Called) → AreAnsweredSoFar log old →
    (more : List Called) × Leads (Asks o limit) desk more after × AreAnsweredSoFar (more ++ log) new

-- what is said of equal connections and desks is the same
of_same : (o : Setting) (limit : ℕ) (old mid : Talks) (desk there : AtDesk) (new : Talks) (after : AtDesk) →
    mid ≡ old → there ≡ desk → StayGiven o limit mid there new after → StayGiven o limit old desk new after
of_same o limit old mid desk there new after same at is =
    subst (λ (c : Talks). StayGiven o limit c desk new after) same
    (subst (λ (d : AtDesk). StayGiven o limit mid d new after) at is)

stay_given : (o : Setting) (limit : ℕ) (steps : List Step) (old new : AtControl) →
    TakesSteps o limit steps old new → StayGiven o limit old.connections old.desk new.connections new.desk
stay_given o limit [] old new is = λ log all. (
  [],
  ap (λ (s : AtControl). s.desk) is,
  subst (λ (s : AtControl). AreAnsweredSoFar log s.connections) (sym is) all,
)
stay_given o limit (Knocked fault ∷ steps) old new is =
    of_same o limit old.connections is.0.connections old.desk is.0.desk new.connections new.desk
    (ap (λ (s : AtControl). s.connections) is.2.0) (ap (λ (s : AtControl). s.desk) is.2.0)
    (stay_given o limit steps is.0 new is.3)
stay_given o limit (Came left now ∷ steps) old new is =
    let come = with_newcomer left now old.connections in
    let rest : StayGiven o limit come old.desk new.connections new.desk =
    of_same o limit come is.0.connections old.desk is.0.desk new.connections new.desk
    (ap (λ (s : AtControl). s.connections) is.2.0) (ap (λ (s : AtControl). s.desk) is.2.0)
    (stay_given o limit steps is.0 new is.3) in
    λ log all. rest log (come_given log old.connections left now all)
stay_given o limit (Turned now stand ∷ steps) old new is = λ log all.
    let mid = is.0 in
    let turn = turn_given (Asks o limit) now stand old.connections mid.connections old.desk mid.desk log is.2.0 is.2.1
    all in
    let rest = stay_given o limit steps mid new is.3 (turn.0 ++ log) turn.2 in (
      rest.0 ++ turn.0,
      led_both (Asks o limit) rest.0 turn.0 old.desk mid.desk new.desk turn.1 rest.1,
      subst (λ (l : List Called). AreAnsweredSoFar l new.connections) (sym (append_assoc rest.0 turn.0 log)) rest.2,
    )

-- ---- a life

-- what was given in the steps of a life became its calls
steps_given : (o : Setting) (limit : ℕ) (steps : List Step) (old new : AtControl) (seen : List Change)
    (seat : Seated) (count : ℕ) → TakesSteps o limit steps old new →
    old.desk ≡ at_desk (fresh_seat seat.number) [] 0 → new.desk ≡ at_desk seat seen count →
    (log : List Called) → AreAnsweredSoFar log old.connections →
    AnswersGiven o limit log seen seat count new.connections
steps_given o limit steps old new seen seat count is began ended log all =
    let stay = stay_given o limit steps old new is log all in
    let leads : Leads (Asks o limit) (at_desk (fresh_seat seat.number) [] 0) stay.0 (at_desk seat seen count) =
    subst (λ (d : AtDesk). Leads (Asks o limit) d stay.0 (at_desk seat seen count)) began
    (subst (λ (d : AtDesk). Leads (Asks o limit) old.desk stay.0 d) ended stay.1) in
    let made = led_made o limit stay.0 (at_desk (fresh_seat seat.number) [] 0) (at_desk seat seen count) leads in
    record {
      more = stay.0;
      answered = stay.2;
      leads = leads;
      become = subst (BecomeSo stay.0) (sym made.calls) made.become;
      refused =
          let counted : count ≡ min (0 + unmade_in stay.0) (2 ^ 64 - 1) = made.refused (omega arith) in
          omega (arith, counted);
      shown = (led_shown o limit stay.0 (at_desk (fresh_seat seat.number) [] 0) (at_desk seat seen count) leads).1;
    }

-- each line that was brought, or given, in a life became its calls
pub life_given : (o : Setting) (limit : ℕ) (before after : Option (List Bool)) (old new : Talks) (seat : Seated)
    (seen : List Change) (end : End) → ControlsLife o limit before after old seat seen end new → (steps : List Step)
    × ((b : Brought) (log : List Called) → BringsSo b old.count steps → AreAnswered b log old →
    AnswersLines o limit b log seen seat end.counts.refused new)
    × ((log : List Called) → AreAnsweredSoFar log old → AnswersGiven o limit log seen seat end.counts.refused new)
life_given o limit before after old new seat seen end life =
    let is = life_answered o limit before after old new seat seen end life in
    let first = at_control old (at_desk (fresh_seat seat.number) [] 0) 0 in
    let last = at_control new (at_desk seat seen end.counts.refused) life.row in (
      is.0,
      is.2,
      λ log all. steps_given o limit is.0 first last seen seat end.counts.refused is.1 refl refl log all,
    )
