-- What happened before an N of 0 is forgotten.
use Rattle.std.proofs.Common.{◌≡◌, ℕ, cond, nat_eq, List, [], ◌∷◌, ◌++◌, take, Option, Some, None, refl, ap, ◌∙◌}
use Rattle.std.specs.Option.{is_some, option_and_then, option_or}
use Rattle.swim_wire.specs.Address.{Address}
use Rattle.swim_wire.specs.Messages.{Message}
use Rattle.swim_history.specs.Rows.{row_at}
use Rattle.swim_history.specs.declared.rows.Row.{Row}
use Rattle.swim_rejoin.specs.Believing.{believed, is_believed}
use Rattle.swim_rejoin.specs.Failed.{verdict_in}
use Rattle.swim_rejoin.specs.Histories.{Event, is_known, knocks_at, last_joined, last_verdict, table_in, times}
use Rattle.swim_rejoin.specs.Histories.Event.{Joined, Knocked, Looked, Ruled}
use Rattle.swim_rejoin.specs.Waits.{times_once_judged}

-- all that happened, and what happened since the 0 alone
abbrev all : List Event → List Event → List Event
all later before = later ++ Ruled 0 ∷ before

abbrev since : List Event → List Event
since later = later ++ Ruled 0 ∷ []

table_since : (later before : List Event) → table_in (all later before) ≡ table_in (since later)
table_since [] before = refl
table_since (Knocked id number ∷ later) before = table_since later before
table_since (Looked rows ∷ later) before = refl
table_since (Joined id period ∷ later) before = table_since later before
table_since (Ruled r ∷ later) before = ap (λ (rows : List Row). cond (nat_eq r 0) [] rows) (table_since later before)

known_since : (id : ℕ) (later before : List Event) → is_known id (all later before) ≡ is_known id (since later)
known_since id later before = ap (λ (rows : List Row). is_some (row_at rows id)) (table_since later before)

-- what a look keeps, where the member was known
kept_since : {A : Type 0} (id : ℕ) (later before : List Event) (old new none : A) → old ≡ new →
    cond (is_known id (all later before)) old none ≡ cond (is_known id (since later)) new none
kept_since id later before old new none same =
    ap (λ b. cond b old none) (known_since id later before) ∙ ap (λ x. cond (is_known id (since later)) x none) same

knocks_since : (id : ℕ) (later before : List Event) → knocks_at id (all later before) ≡ knocks_at id (since later)
knocks_since id [] before = refl
knocks_since id (Knocked other number ∷ later) before =
    ap (λ (numbers : List ℕ). cond (nat_eq other id) (number ∷ numbers) numbers) (knocks_since id later before)
knocks_since id (Looked rows ∷ later) before =
    kept_since id later before (knocks_at id (all later before)) (knocks_at id (since later)) []
    (knocks_since id later before)
knocks_since id (Joined other period ∷ later) before = knocks_since id later before
knocks_since id (Ruled r ∷ later) before =
    ap (λ (numbers : List ℕ). cond (nat_eq r 0) [] numbers) (knocks_since id later before)

joined_since : (id : ℕ) (later before : List Event) → last_joined id (all later before) ≡ last_joined id (since later)
joined_since id [] before = refl
joined_since id (Knocked other number ∷ later) before = joined_since id later before
joined_since id (Looked rows ∷ later) before =
    kept_since id later before (last_joined id (all later before)) (last_joined id (since later)) None
    (joined_since id later before)
joined_since id (Joined other period ∷ later) before =
    ap (λ (o : Option ℕ). cond (nat_eq other id) (Some period) o) (joined_since id later before)
joined_since id (Ruled r ∷ later) before =
    ap (λ (o : Option ℕ). cond (nat_eq r 0) None o) (joined_since id later before)

verdict_since : (id : ℕ) (later before : List Event) →
    last_verdict id (all later before) ≡ last_verdict id (since later)
verdict_since id [] before = refl
verdict_since id (Knocked other number ∷ later) before = verdict_since id later before
verdict_since id (Looked rows ∷ later) before =
    ap (option_or (verdict_in rows id))
    (kept_since id later before (last_verdict id (all later before)) (last_verdict id (since later)) None
    (verdict_since id later before))
verdict_since id (Joined other period ∷ later) before = verdict_since id later before
verdict_since id (Ruled r ∷ later) before =
    ap (λ (o : Option ℕ). cond (nat_eq r 0) None o) (verdict_since id later before)

times_since : (id : ℕ) (later before : List Event) → times id (all later before) ≡ times id (since later)
times_since id [] before = refl
times_since id (Knocked other number ∷ later) before = times_since id later before
times_since id (Looked rows ∷ later) before =
    let old = all later before in
    let new = since later in
    let verdict = verdict_in rows id in
    kept_since id later before (times_once_judged (times id old) (last_joined id old) (last_verdict id old) verdict)
    (times_once_judged (times id new) (last_joined id new) (last_verdict id new) verdict) 1
    (ap (λ n. times_once_judged n (last_joined id old) (last_verdict id old) verdict) (times_since id later before)
    ∙ ap (λ o. times_once_judged (times id new) o (last_verdict id old) verdict) (joined_since id later before)
    ∙ ap (λ o. times_once_judged (times id new) (last_joined id new) o verdict) (verdict_since id later before))
times_since id (Joined other period ∷ later) before = times_since id later before
times_since id (Ruled r ∷ later) before = ap (λ n. cond (nat_eq r 0) 1 n) (times_since id later before)

-- whom a message is believed of, by what is known of its sender
abbrev believed_by : ℕ → ℕ → Message → Address → List Row → List ℕ → ℕ → Option Row
believed_by rejoin me m from table knocks times =
    cond (nat_eq rejoin 0) None
    (option_and_then (λ row. cond (is_believed me row (take 64 knocks) times m from) (Some row) None)
    (row_at table m.sender))

pub believed_since : (rejoin me : ℕ) (later before : List Event) (m : Message) (from : Address) →
    believed rejoin me (later ++ Ruled 0 ∷ before) m from ≡ believed rejoin me (later ++ Ruled 0 ∷ []) m from
believed_since rejoin me later before m from =
    let old = all later before in
    let new = since later in
    let id = m.sender in
    ap (λ (rows : List Row). believed_by rejoin me m from rows (knocks_at id old) (times id old))
    (table_since later before)
    ∙ ap (λ (numbers : List ℕ). believed_by rejoin me m from (table_in new) numbers (times id old))
    (knocks_since id later before)
    ∙ ap (λ n. believed_by rejoin me m from (table_in new) (knocks_at id new) n) (times_since id later before)
