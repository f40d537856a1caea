-- Hearings that are held, one entry on.
use Rattle.std.proofs.Common.{◌≡◌, ℕ, ◌<◌, ◌==◌, Bool, true, false, ◌||◌, cond, nat_eq, nat_lt, List, []}
use Rattle.std.proofs.Common.{◌∷◌, length, Option, Some, None, refl, sym, ap, ◌∙◌, arith}
use Rattle.std.specs.Prelude.{is_some}
use Rattle.std.specs.Option.{option_map}
use Rattle.std.proofs.lemmas.Bool.{eqb-true, lt-ltb}
use Rattle.std.proofs.lemmas.Cmp.{nat_eq_equiv}
use Rattle.std.proofs.lemmas.List.{length-map}
use Rattle.swim_wire.specs.Address.{Address}
use Rattle.swim_wire.specs.Ids.{has}
use Rattle.swim_wire.specs.Messages.{Message}
use Rattle.swim_wire.specs.declared.messages.Kind.{Kind}
use Rattle.swim_wire.specs.declared.messages.Kind.TheVariants.{Ping, PingReq, Ack}
use Rattle.swim_history.specs.declared.calls.Call.{Call}
use Rattle.swim_history.specs.declared.calls.Call.TheVariants.{Tick, Hear, Join, Remove}
use Rattle.swim_history.specs.declared.replies.Reply.{Reply}
use Rattle.swim_history.specs.declared.replies.Reply.TheVariants.{Started, Heard, Joined, Removed}
use Rattle.swim_history.specs.declared.entries.Choice.{Choice}
use Rattle.swim_history.specs.declared.entries.Choice.TheVariants.{Nothing}
use Rattle.swim_history.specs.declared.entries.Entry.{Entry}
use Rattle.swim_history.specs.declared.rows.Row.{Row}
use Rattle.swim_history.specs.Aim.{aim}
use Rattle.swim_history.specs.Changes.{table}
use Rattle.swim_history.specs.Clock.{period_number}
use Rattle.swim_history.specs.Gap.{is_member}
use Rattle.swim_history.specs.Laws.Listed.{aim_listed, has_row, no_longer}
use Rattle.swim_history.specs.Laws.Table.{table_bound, table_shows}
use Rattle.swim_history.specs.Rows.{failed, is_up, row_of, row_then, up}
use Rattle.swim_history.specs.Run.{Answers, Hears, IsRun}
use Rattle.swim_history.specs.Setting.{IsSetting, Setting, ids_of}
use Rattle.swim_metrics.specs.declared.hearings.LastHearing.{LastHearing}
use Rattle.swim_metrics.specs.LastHeard.{AreDifferent, Tell, forgotten, heard_at, heard_then, last_heard, members}
use Rattle.swim_metrics.specs.LastHeard.{noted, rows_then}
use Rattle.swim_metrics.proofs.Noting.{forgotten_shows, has_hearing, noted_shows, once_forgotten, once_with}

-- ---- who was heard, and wasn't removed since, is known

failed_known : (b : Bool) (number : ℕ) (row : Option Row) → is_some row ≡ true →
    is_some (cond b (option_map (failed number) row) row) ≡ true
failed_known true number None known = known
failed_known true number (Some row) known = refl
failed_known false number row known = known

known_then : (call : Call) (reply : Reply) (aimed : Option ℕ) (number m : ℕ) (old : Option ℕ) (row : Option Row) →
    (is_member m aimed ≡ true → is_some row ≡ true) → (is_some old ≡ true → is_some row ≡ true) →
    is_some (heard_then call reply aimed number m old) ≡ true → is_some (row_then call reply number m row) ≡ true
known_then (Hear source ack) Heard aimed number m old row of_aim before heard = by (is_member m aimed) refl heard where
  by : (b : Bool) → is_member m aimed ≡ b → is_some (cond b (Some number) old) ≡ true → is_some row ≡ true
  by true is heard = of_aim is
  by false is heard = before heard
known_then (Join joiner peer) (Joined place) aimed number m old row of_aim before heard = by (joiner == m) where
  by : (b : Bool) → is_some (cond b (Some (up joiner peer)) row) ≡ true
  by true = refl
  by false = before heard
known_then (Remove gone) Removed aimed number m old row of_aim before heard = by (gone == m) heard where
  by : (b : Bool) → is_some (cond b None old) ≡ true → is_some (cond b None row) ≡ true
  by true heard = heard
  by false heard = before heard
known_then Tick (Started (Some judged) probe) aimed number m old row of_aim before heard =
    failed_known (judged == m) number row (before heard)
known_then call reply aimed number m old row of_aim before heard = before heard

up_is_known : (row : Option Row) → is_up row ≡ true → is_some row ≡ true
up_is_known None is = absurd cc
up_is_known (Some row) is = refl

member_is : (m : ℕ) (aimed : Option ℕ) → is_member m aimed ≡ true → aimed ≡ Some m
member_is m None is = absurd cc
member_is m (Some id) is = ap (λ (n : ℕ). Some n) (eqb-true id m is)

aim_known : (o : Setting) (h : List Entry) (m : ℕ) → IsSetting o → IsRun o h → is_member m (aim h) ≡ true →
    is_some (row_of o h m) ≡ true
aim_known o h m s run is = up_is_known (row_of o h m) (aim_listed o h m s run (member_is m (aim h) is))

heard_known : (o : Setting) (h : List Entry) (m : ℕ) → IsSetting o → IsRun o h → is_some (last_heard o h m) ≡ true →
    is_some (row_of o h m) ≡ true
heard_known o [] m s run heard = absurd cc
heard_known o (e ∷ h) m s run heard =
    known_then e.call e.reply (aim h) (period_number o h) m (last_heard o h m) (row_of o h m) (aim_known o h m s run.1)
    (heard_known o h m s run.1) heard

-- ---- so there is room for the aim

some_forgotten : (b : Bool) (old : Option ℕ) → is_some (cond b None old) ≡ true → is_some old ≡ true
some_forgotten true old is = absurd cc
some_forgotten false old is = is

in_table : (o : Setting) (h : List Entry) (m : ℕ) → is_some (row_of o h m) ≡ true → has (ids_of (table o h)) m ≡ true
in_table o h m known = has_row (table o h) m ∙ ap is_some (table_shows o h m) ∙ known

are_known : (o : Setting) (h : List Entry) (id : ℕ) (rows : List LastHearing) → IsSetting o → IsRun o h →
    aim h ≡ Some id → Tell rows o h →
    (m : ℕ) → has (id ∷ members (forgotten id rows)) m ≡ true → has (ids_of (table o h)) m ≡ true
are_known o h id rows s run aimed tell m is = in_table o h m (by (nat_eq m id) refl is) where
  by : (b : Bool) → nat_eq m id ≡ b → (b || has (members (forgotten id rows)) m) ≡ true → is_some (row_of o h m) ≡ true
  by true same is = aim_known o h m s run (rw aimed (nat_eq_equiv.symm id m ∙ same))
  by false other is =
      let shown : is_some (cond (id == m) None (heard_at rows m)) ≡ true =
      sym (has_hearing (forgotten id rows) m ∙ ap is_some (forgotten_shows id m rows)) ∙ is in
      heard_known o h m s run (sym (ap is_some (tell m)) ∙ some_forgotten (id == m) (heard_at rows m) shown)

room_for : (o : Setting) (h : List Entry) (id : ℕ) (rows : List LastHearing) → IsSetting o → IsRun o h →
    aim h ≡ Some id → Tell rows o h → AreDifferent rows →
    length (forgotten id rows) < 128
room_for o h id rows s run aimed tell once =
    omega (
      arith,
      no_longer (id ∷ members (forgotten id rows)) (ids_of (table o h)) (once_with id rows once)
          (are_known o h id rows s run aimed tell),
      length-map (forgotten id rows) (λ (row : LastHearing). row.member),
      length-map (table o h) (λ (row : Row). row.id),
      table_bound o h s run,
    )

-- ---- one entry on

-- an ack that is heard is of the aim, and of the period that runs
heard_ack : (o : Setting) (h : List Entry) (ack : Message) (source : Address) (kind : Kind) →
    Hears o h ack source kind Heard →
    (aim h ≡ Some ack.target) × (ack.number ≡ period_number o h)
heard_ack o h ack source Ping fits = absurd fits
heard_ack o h ack source PingReq fits = absurd fits
heard_ack o h ack source Ack fits = (fits.1, fits.2)

hearing_then : (o : Setting) (h : List Entry) (id number : ℕ) (rows : List LastHearing) → IsSetting o → IsRun o h →
    aim h ≡ Some id → number ≡ period_number o h →
    AreDifferent rows → Tell rows o h → (m : ℕ) →
    heard_at (noted id number rows) m ≡ cond (is_member m (aim h)) (Some (period_number o h)) (last_heard o h m)
hearing_then o h id number rows s run aimed runs once tell m =
    rw (lt-ltb (length (forgotten id rows)) 128 (room_for o h id rows s run aimed tell once), aimed)
    (noted_shows id number m rows ∙ rw (runs, tell m) refl)

tells_then : (o : Setting) (h : List Entry) (call : Call) (reply : Reply) (choice : Choice) (rows : List LastHearing) →
    IsSetting o → IsRun o h →
    Answers o h call reply choice → AreDifferent rows → Tell rows o h → (m : ℕ) →
    heard_at (rows_then call reply rows) m ≡ heard_then call reply (aim h) (period_number o h) m (last_heard o h m)
tells_then o h (Hear source ack) Heard Nothing rows s run fits once tell m =
    let is = heard_ack o h ack source ack.kind fits in
    hearing_then o h ack.target ack.number rows s run is.0 is.1 once tell m
tells_then o h (Hear source ack) Heard choice rows s run fits once tell m = absurd fits
tells_then o h (Remove id) Removed choice rows s run fits once tell m = forgotten_shows id m rows ∙
    ap (λ n. cond (id == m) None n) (tell m)
tells_then o h call reply choice rows s run fits once tell m = tell m

pub tell_then : (o : Setting) (h : List Entry) (e : Entry) (call : Call) (reply : Reply) (rows new : List LastHearing) →
    IsSetting o → IsRun o (e ∷ h) →
    e.call ≡ call → e.reply ≡ reply → AreDifferent rows → Tell rows o h → new ≡ rows_then call reply rows →
    Tell new o (e ∷ h)
tell_then o h e call reply rows new s run calls replies once tell is m =
    let same : heard_at new m ≡ heard_at (rows_then e.call e.reply rows) m = rw (is, calls, replies) refl in
    same ∙ tells_then o h e.call e.reply e.choice rows s run.1 run.0.answer once tell m

noted_once : (b : Bool) (id number : ℕ) (rows : List LastHearing) → AreDifferent rows →
    AreDifferent (cond b (record { member = id; number = number } ∷ forgotten id rows) (forgotten id rows))
noted_once true id number rows once = once_with id rows once
noted_once false id number rows once = once_forgotten id rows once

-- they stay of different members
pub once_then : (call : Call) (reply : Reply) (rows : List LastHearing) → AreDifferent rows →
    AreDifferent (rows_then call reply rows)
once_then (Hear source ack) Heard rows once =
    noted_once (nat_lt (length (forgotten ack.target rows)) 128) ack.target ack.number rows once
once_then (Remove id) Removed rows once = once_forgotten id rows once
once_then call reply rows once = once
