-- The steps and the turns of the controller, one after the other.
use Rattle.std.proofs.Common.{◌≡◌, ℕ, ◌+◌, Bool, true, false, List, [], ◌∷◌, ◌++◌, length, flat_map, Option, Some, None}
use Rattle.std.proofs.Common.{refl, sym, subst, ap, ◌∙◌, inl, inr, append-nil}
use Rattle.std.specs.Bool.{MatchBool}
use Rattle.std.proofs.lemmas.Grind.{flat_map-append}
use Rattle.swim_history.specs.declared.rows.Change.{Change}
use Rattle.swim_history.specs.declared.seats.Kept.{Kept}
use Rattle.swim_history.specs.Setting.{Setting}
use Rattle.swim_trail.specs.Growing.{Grows, grows_both, grows_none}
use Rattle.swim_node.specs.Seats.{Seated}
use Rattle.swim_control.specs.declared.connections.Stand.{Stand}
use Rattle.swim_control.specs.Connections.{TakesTurn, newcomer}
use Rattle.swim_control.specs.Talks.{Talks}
use Rattle.swim_work.specs.declared.counts.Why.{Why}
use Rattle.swim_work.specs.declared.workers.End.{End}
use Rattle.swim_work.specs.Callers.{fresh_seat}
use Rattle.swim_desk.specs.Controlling.{AreFull, AsksOnce, AtControl, ControlsLife, ControlsNext, HasControlled}
use Rattle.swim_desk.specs.Controlling.{IsControlTurn, LetsIn, Serves, ShutsOut, Step, TakesStep, at_control, at_desk}
use Rattle.swim_desk.specs.Controlling.{knocks_in, with_newcomer}
use Rattle.swim_desk.specs.Controlling.Step.{Came, Knocked, Turned}
use Rattle.swim_desk.specs.Desk.{Asks, AtDesk}
use Rattle.swim_desk.specs.Ending.{why_at}
use Rattle.swim_desk.proofs.Steps.{ends_after, ends_with_one}

-- ---- who comes

-- there is no place
pub lets_nobody_in : (before : Option (List Bool)) (old : Talks) (row : ℕ) → AreFull old →
    LetsIn before before old row None old row
lets_nobody_in before old row full = record {
  steps = [];
  once = inl (full, refl);
  grown = grows_none before;
  ends = λ o limit desk. refl;
}

-- nobody came, or somebody was turned away
pub nobody_came : (before after : Option (List Bool)) (old : Talks) (row later : ℕ) →
    Grows before after (false ∷ []) → later ≡ 0 → LetsIn before after old row None old later
nobody_came before after old row later grown none = record {
  steps = Knocked false ∷ [];
  once = inr (false, [], refl, refl);
  grown = grown;
  ends = λ o limit desk. ends_with_one (TakesStep o limit) (Knocked false) (at_control old desk row) None
      (at_control old desk later) (refl, (none, refl));
}

-- the connections with one of which this was given, and for which this was written
abbrev with_one : Option (List ℕ) → Option (List ℕ) → Option (List ℕ) → ℕ → Talks → Talks
with_one left given written now old = record {
  talks = old.talks ++ newcomer old.count left given written now ∷ [];
  count = old.count + 1;
  closed = old.closed;
}

-- of the new one it is known that both are nothing
with_new : (old new : Talks) (left given written : Option (List ℕ)) (now : ℕ) → given ≡ Some [] → written ≡ Some [] →
    new ≡ with_one left given written now old → new ≡ with_newcomer left now old
with_new old new left given written now none blank is =
    is ∙ (ap (λ (g : Option (List ℕ)). with_one left g written now old) none
    ∙ ap (λ (w : Option (List ℕ)). with_one left (Some []) w now old) blank)

-- somebody came, and was let in, where there was memory
pub somebody_came : (before after : Option (List Bool)) (old new : Talks) (row later : ℕ)
    (left given written : Option (List ℕ)) (now : ℕ) (is_in : Bool) →
    Grows before after (false ∷ []) → later ≡ 0 → (given ≡ Some []) × (written ≡ Some []) →
    MatchBool is_in (new ≡ with_one left given written now old) (new ≡ old) →
    LetsIn before after old row None new later
somebody_came before after old new row later left given written now true grown none blank is = record {
  steps = Knocked false ∷ Came left now ∷ [];
  once = inr (false, Came left now ∷ [], refl, refl);
  grown = grown;
  ends = λ o limit desk. (
    at_control old desk later,
    (refl, (none, refl)),
    ends_with_one (TakesStep o limit) (Came left now) (at_control old desk later) None
        (at_control new desk later)
        (ap (λ c. at_control c desk later) (with_new old new left given written now blank.0 blank.1 is), refl),
  );
}
somebody_came before after old new row later left given written now false grown none blank is =
    subst (λ c. LetsIn before after old row None c later) (sym is)
    (nobody_came before after old row later grown none)

-- the door is out of order
pub out_of_order : (before after : Option (List Bool)) (old : Talks) (row : ℕ) (end : Option Why) (later : ℕ) →
    Grows before after (true ∷ []) → ShutsOut (length old.talks) row end later →
    LetsIn before after old row end old later
out_of_order before after old row end later grown shuts = record {
  steps = Knocked true ∷ [];
  once = inr (true, [], refl, refl);
  grown = grown;
  ends = λ o limit desk. ends_with_one (TakesStep o limit) (Knocked true) (at_control old desk row) end
      (at_control old desk later) (refl, shuts);
}

-- ---- turns of connections

pub none_served : (o : Setting) (limit : ℕ) (old : AtControl) → Serves o limit old None old
none_served o limit old = record { steps = []; none = refl; ends = refl }

knocks_both : (xs ys : List Step) → knocks_in (xs ++ ys) ≡ knocks_in xs ++ knocks_in ys
knocks_both [] ys = refl
knocks_both (Knocked fault ∷ xs) ys = ap (λ l. fault ∷ l) (knocks_both xs ys)
knocks_both (Came left now ∷ xs) ys = knocks_both xs ys
knocks_both (Turned now stand ∷ xs) ys = knocks_both xs ys

no_knock : (xs ys : List Step) → knocks_in xs ≡ [] → knocks_in ys ≡ [] → knocks_in (xs ++ ys) ≡ []
no_knock xs ys none nor = knocks_both xs ys ∙ (ap (λ l. l ++ knocks_in ys) none ∙ nor)

pub more_served : (o : Setting) (limit : ℕ) (old mid : AtControl) (end : Option Why) (new : AtControl) →
    Serves o limit old None mid → Serves o limit mid end new → Serves o limit old end new
more_served o limit old mid end new is then = record {
  steps = is.steps ++ then.steps;
  none = no_knock is.steps then.steps is.none then.none;
  ends = ends_after (TakesStep o limit) is.steps then.steps old mid end new is.ends then.ends;
}

-- the turn of one
one_served : (o : Setting) (limit now : ℕ) (stand : Stand) (old new : Talks) (desk after : AtDesk) (row : ℕ)
    (end : Option Why) →
    TakesTurn (Asks o limit) now stand old new desk after → new.count ≡ old.count → end ≡ why_at stand →
    Serves o limit (at_control old desk row) end (at_control new after row)
one_served o limit now stand old new desk after row end turn count is = record {
  steps = Turned now stand ∷ [];
  none = refl;
  ends = ends_with_one (TakesStep o limit) (Turned now stand) (at_control old desk row) end (at_control new after row)
      (turn, count, refl, is);
}

-- which goes on
pub one_goes_on : (o : Setting) (limit now : ℕ) (stand : Stand) (old new : Talks) (desk after : AtDesk) (row : ℕ)
    (found : Option Why) →
    TakesTurn (Asks o limit) now stand old new desk after → new.count ≡ old.count → found ≡ why_at stand →
    found ≡ None → Serves o limit (at_control old desk row) None (at_control new after row)
one_goes_on o limit now stand old new desk after row found turn count is none =
    one_served o limit now stand old new desk after row None turn count (sym none ∙ is)

-- or with which the controller ends
pub one_ends : (o : Setting) (limit now : ℕ) (stand : Stand) (old new : Talks) (desk after : AtDesk) (row : ℕ)
    (found : Option Why) (why : Why) →
    TakesTurn (Asks o limit) now stand old new desk after → new.count ≡ old.count → found ≡ why_at stand →
    found ≡ Some why → Serves o limit (at_control old desk row) (Some why) (at_control new after row)
one_ends o limit now stand old new desk after row found why turn count is some =
    one_served o limit now stand old new desk after row (Some why) turn count (sym some ∙ is)

-- there was no connection
pub no_turn : (o : Setting) (limit : ℕ) (old new : Talks) (desk after : AtDesk) (row : ℕ) → new ≡ old →
    after ≡ desk → Serves o limit (at_control old desk row) None (at_control new after row)
no_turn o limit old new desk after row is same = rw (is, same) (none_served o limit (at_control old desk row))

-- ---- a turn of the controller

once_with : (connections : Talks) (xs ys : List Step) → AsksOnce connections xs → knocks_in ys ≡ [] →
    AsksOnce connections (xs ++ ys)
once_with connections xs ys (inl (full, none)) nor = inl (full, no_knock xs ys none nor)
once_with connections xs ys (inr (fault, rest, is, none)) nor =
    inr (fault, rest ++ ys, ap (λ l. l ++ ys) is, no_knock rest ys none nor)

-- who came was let in, and then connections had turns
pub let_in_and_served : (o : Setting) (limit : ℕ) (before after last : Option (List Bool)) (old mid new : Talks)
    (desk then : AtDesk) (row later : ℕ) (end : Option Why) →
    LetsIn before after old row None mid later → last ≡ after →
    Serves o limit (at_control mid desk later) end (at_control new then later) →
    IsControlTurn o limit before last (at_control old desk row) end (at_control new then later)
let_in_and_served o limit before after last old mid new desk then row later end lets same serves = record {
  steps = lets.steps ++ serves.steps;
  grown =
      let all : knocks_in (lets.steps ++ serves.steps) ≡ knocks_in lets.steps =
      knocks_both lets.steps serves.steps
      ∙ (ap (λ l. knocks_in lets.steps ++ l) serves.none ∙ append-nil (knocks_in lets.steps)) in
      rw (all, same) lets.grown;
  turned = (
    once_with old lets.steps serves.steps lets.once serves.none,
    ends_after (TakesStep o limit) lets.steps serves.steps (at_control old desk row) (at_control mid desk later) end
        (at_control new then later) (lets.ends o limit desk) serves.ends,
  );
}

-- the door ended it
pub let_in_last : (o : Setting) (limit : ℕ) (before after : Option (List Bool)) (old new : Talks) (desk : AtDesk)
    (row later : ℕ) (end : Option Why) → LetsIn before after old row end new later →
    IsControlTurn o limit before after (at_control old desk row) end (at_control new desk later)
let_in_last o limit before after old new desk row later end lets = record {
  steps = lets.steps;
  grown = lets.grown;
  turned = (lets.once, lets.ends o limit desk);
}

-- ---- its turns

pub none_controlled : (o : Setting) (limit : ℕ) (before : Option (List Bool)) (old : AtControl) →
    HasControlled o limit before before old None old
none_controlled o limit before old = record { turns = []; grown = grows_none before; ends = refl }

pub more_controlled : (o : Setting) (limit : ℕ) (before now after : Option (List Bool)) (old mid : AtControl)
    (end : Option Why) (new : AtControl) →
    HasControlled o limit before now old None mid → IsControlTurn o limit now after mid end new →
    HasControlled o limit before after old end new
more_controlled o limit before now after old mid end new has is = record {
  turns = has.turns ++ is.steps ∷ [];
  grown =
      let all : flat_map knocks_in (has.turns ++ is.steps ∷ []) ≡ flat_map knocks_in has.turns ++ knocks_in is.steps =
      flat_map-append knocks_in has.turns (is.steps ∷ [])
      ∙ ap (λ l. flat_map knocks_in has.turns ++ l) (append-nil (knocks_in is.steps)) in
      rw all (grows_both before now after (flat_map knocks_in has.turns) (knocks_in is.steps) has.grown is.grown);
  ends = ends_after (ControlsNext o limit) has.turns (is.steps ∷ []) old mid end new has.ends
      (ends_with_one (ControlsNext o limit) is.steps mid end new is.turned);
}

-- ---- a life

abbrev seated : ℕ → List Kept → ℕ → Seated
seated number calls full = record { number = number; calls = calls; full = full }

pub life_controlled : (o : Setting) (limit : ℕ) (before after : Option (List Bool)) (old new : Talks)
    (first seat : Seated) (began desk : AtDesk) (saw seen : List Change) (begins row : ℕ)
    (why : Option Why) (end : End) →
    first.calls ≡ [] → first.full ≡ 0 → saw ≡ [] → seat.number ≡ first.number → began ≡ at_desk first saw 0 →
    begins ≡ 0 → seat ≡ desk.seat → seen ≡ desk.seen →
    end ≡ record { why = why; counts = record { unsent = 0; wire = 0; refused = desk.refused } } →
    HasControlled o limit before after (at_control old began begins) why (at_control new desk row) →
    ControlsLife o limit before after old seat seen end new
life_controlled o limit before after old new first seat began desk saw seen begins row why end no_calls unmet unseen
    same began_is at_none seat_is seen_is is has =
    let first_is : first ≡ fresh_seat seat.number =
    ap (λ (cs : List Kept). seated first.number cs first.full) no_calls
    ∙ (ap (λ (n : ℕ). seated first.number [] n) unmet ∙ sym (ap fresh_seat same)) in
    let desk_is : desk ≡ at_desk seat seen desk.refused =
    ap (λ (s : Seated). at_desk s desk.seen desk.refused) (sym seat_is)
    ∙ ap (λ (l : List Change). at_desk seat l desk.refused) (sym seen_is) in
    let start = at_control old (at_desk (fresh_seat seat.number) [] 0) 0 in
    let now = at_control new desk row in
    let from_none : HasControlled o limit before after (at_control old began 0) why now =
    subst (λ (n : ℕ). HasControlled o limit before after (at_control old began n) why now) at_none has in
    let from_nothing : HasControlled o limit before after (at_control old (at_desk first [] 0) 0) why now =
    subst (λ (l : List Change). HasControlled o limit before after (at_control old (at_desk first l 0) 0) why now)
    unseen (subst (λ (d : AtDesk). HasControlled o limit before after (at_control old d 0) why now) began_is from_none)
    in
    let from_fresh : HasControlled o limit before after start why now =
    subst (λ (s : Seated). HasControlled o limit before after (at_control old (at_desk s [] 0) 0) why now) first_is
    from_nothing in
    let whole : HasControlled o limit before after start why (at_control new (at_desk seat seen desk.refused) row)
    = subst (λ (d : AtDesk). HasControlled o limit before after start why (at_control new d row)) desk_is from_fresh in
    rw is (record { row = row; controlled = whole; counted = refl })
