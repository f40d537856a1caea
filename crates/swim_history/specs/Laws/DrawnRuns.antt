-- Where a chooser always answers, each list of calls has a drawn run.
use Rattle.std.proofs.Common.{◌≡◌, ◌≢◌, ◌⊎◌, ℕ, ◌+◌, ◌<◌, ◌≤◌, Bool, true, false, cond, List, [], ◌∷◌, ◌++◌, length}
use Rattle.std.proofs.Common.{Option, Some, None, refl, sym, ap, subst, ◌∙◌, inl, inr, arith}
use Rattle.std.proofs.lemmas.Bool.{cases_eq, cases_lt, and_parts, or_left, or_right, or_parts, or_from}
use Rattle.std.proofs.lemmas.Bool.{eq-eqb}
use Rattle.std.proofs.lemmas.List.{length-map, length-take, take-append-drop}
use Rattle.std.proofs.lemmas.List.Folds.{list_any-append}
use Rattle.std.proofs.lemmas.List.Sorted.{length_permutation}
use Rattle.std.specs.Prelude.{map, min, take, drop, not, nat_eq, IsPermutation}
use Rattle.std.specs.List.{AllByRecursion}
use Rattle.swim_wire.specs.Address.{Address}
use Rattle.swim_wire.specs.Ids.{has, has_twice, front}
use Rattle.swim_wire.specs.IdLaws.{once-IsPermutation, has-IsPermutation, has_part, once_part}
use Rattle.swim_wire.specs.Round.{Lists, all_of, leave_judged, MayDraw, redraw}
use Rattle.swim_history.specs.declared.calls.Call.{Call}
use Rattle.swim_history.specs.declared.calls.Call.TheVariants.{Tick, Hear, Join, Remove}
use Rattle.swim_history.specs.declared.replies.Reply.{Reply}
use Rattle.swim_history.specs.declared.replies.Reply.TheVariants.{Quiet, Started, Asked, Joined}
use Rattle.swim_history.specs.declared.replies.Reply.TheVariants.{Removed, Refused}
use Rattle.swim_history.specs.declared.replies.Probe.{Probe}
use Rattle.swim_history.specs.declared.replies.Relay.{Relay}
use Rattle.swim_history.specs.declared.replies.Refusal.TheVariants.{Myself, Listed, Full, Unknown, Spent}
use Rattle.swim_history.specs.declared.rows.Row.{Row}
use Rattle.swim_history.specs.declared.entries.Choice.{Choice}
use Rattle.swim_history.specs.declared.entries.Choice.TheVariants.{Nothing, Round}
use Rattle.swim_history.specs.declared.entries.Entry.{Entry}
use Rattle.swim_history.specs.Setting.{Setting, IsSetting}
use Rattle.swim_history.specs.Clock.{period_number, phase}
use Rattle.swim_history.specs.Aim.{unheard}
use Rattle.swim_history.specs.Events.{is_start}
use Rattle.swim_history.specs.Rows.{up, row_of, is_listed}
use Rattle.swim_history.specs.Changes.{known_count}
use Rattle.swim_history.specs.Laws.Table.{table_bound, listed_row}
use Rattle.swim_history.specs.Round.{drawn, lists, listed}
use Rattle.swim_history.specs.Run.{greatest_number, IsProbe, candidates}
use Rattle.swim_history.specs.Run.{Answers, calls_of, IsRun}
use Rattle.swim_history.specs.Laws.Run.{begins, number_then}
use Rattle.swim_history.specs.Laws.Listed.{no_longer, all-redraw, next_is_in, stays_from, once_judged, listed_is}
use Rattle.swim_history.specs.Laws.Listed.{listed_once, listed_bound, room_to_join, unheard_aim, aim_listed}
use Rattle.swim_history.specs.Laws.HeardReplies.{hear_reply}
use Rattle.swim_history.specs.Drawn.{DrawsEntry, IsDrawn}
use Rattle.swim_history.specs.Laws.Drawn.{calls_in}

-- choosers always answer: with an order of at most 128 ids of which none stands twice, and with one of at most
-- 128 places
pub record IsTotal {S : Type 0} (orders : S → List ℕ → List ℕ → S → Type 0)
    (places : S → ℕ → ℕ → S → Type 0) : Type 0 where
  pub order : (before : S) (ids : List ℕ) → length ids ≤ 128 → has_twice ids ≡ false → (order : List ℕ) × (after : S)
      × IsPermutation ids order × orders before ids order after
  pub place : (before : S) (last : ℕ) → last < 128 → (place : ℕ) × (after : S) × (place ≤ last)
      × places before last place after

-- a drawn run of those calls
pub record HasDrawnRun {S : Type 0} (orders : S → List ℕ → List ℕ → S → Type 0) (places : S → ℕ → ℕ → S → Type 0)
    (o : Setting) (start : S) (calls : List (ℕ × Call)) : Type 0 where
  pub run : List Entry
  pub now : S
  pub is_run : IsRun o run
  pub is_drawn : IsDrawn orders places o start run now
  pub of_calls : calls_in run ≡ calls

-- each list of calls by seats that there are has a drawn run, whatever the chooser is before it
abbrev pub DrawsAlways : {S : Type 0} → (S → List ℕ → List ℕ → S → Type 0) → (S → ℕ → ℕ → S → Type 0) → Setting → Type 0
DrawsAlways {S} orders places o = (start : S) (calls : List (ℕ × Call)) → AllByRecursion (λ asked. asked.0 < 4) calls →
    HasDrawnRun orders places o start calls

-- ---- the clock and the lists

-- in a run no number is past the last
pub number_bound : (o : Setting) (h : List Entry) → IsSetting o → IsRun o h → period_number o h ≤ greatest_number
number_bound o [] s run = omega (arith, s.last)
number_bound o (e ∷ h) s run = by (is_start e) refl (number_then o h e s run.0) (number_bound o h s run.1) where
  by : (b : Bool) → is_start e ≡ b → period_number o (e ∷ h) ≡ cond (is_start e) (period_number o h + 1)
      (period_number o h) → period_number o h ≤ greatest_number → period_number o (e ∷ h) ≤ greatest_number
  by true starts then most =
      let b = begins o h e.call e.reply e.choice run.0.answer starts in
      omega (arith, rw starts at then, b.fits.unspent)
  by false starts then most = omega (arith, rw starts at then)

-- ids of listed members, none twice, are at most 128
few : (o : Setting) (h : List Entry) → IsSetting o → IsRun o h → (ids : List ℕ) → has_twice ids ≡ false →
    ((id : ℕ) → has ids id ≡ true → has (listed o h) id ≡ true) → length ids ≤ 128
few o h s run ids once within =
    omega (arith, no_longer ids (listed o h) once within, listed_bound o h s run, table_bound o h s run)

once_front : (xs ys : List ℕ) → has_twice (xs ++ ys) ≡ false → has_twice xs ≡ false
once_front [] ys once = refl
once_front (x ∷ xs) ys once =
    let parts = or_parts (has (xs ++ ys) x) (has_twice (xs ++ ys)) once in
    or_from (has xs x) (has_twice xs)
    (or_parts (has xs x) (has ys x) (sym (list_any-append (nat_eq x) xs ys) ∙ parts.0)).0 (once_front xs ys parts.1)

has_in_front : (id : ℕ) (xs ys : List ℕ) → has xs id ≡ true → has (xs ++ ys) id ≡ true
has_in_front id xs ys is = list_any-append (nat_eq id) xs ys ∙ or_left (has xs id) (has ys id) is

-- ---- an entry

-- an entry that may follow a history, with what the chooser answers for it
record HasAnswer {S : Type 0} (orders : S → List ℕ → List ℕ → S → Type 0) (places : S → ℕ → ℕ → S → Type 0)
    (o : Setting) (h : List Entry) (call : Call) (before : S) : Type 0 where
  reply : Reply
  choice : Choice
  after : S
  fits : Answers o h call reply choice
  draws : DrawsEntry orders places o h call reply choice before after

module _ {S : Type 0} (orders : S → List ℕ → List ℕ → S → Type 0) (places : S → ℕ → ℕ → S → Type 0)
    (total : IsTotal orders places) (o : Setting) (h : List Entry) (s : IsSetting o) (run : IsRun o h)
    (before : S) where
  -- the order of a new round, where one begins
  record HasRound (r : Lists) : Type 0 where
    choice : Choice
    after : S
    may : MayDraw (drawn choice) r
    draws : (judged : Option ℕ) (probe : Option Probe) → leave_judged judged (lists o h) ≡ r →
        DrawsEntry orders places o h Tick (Started judged probe) choice before after

  round_drawn : (r : Lists) → length r.probed ≤ 128 → has_twice r.probed ≡ false → HasRound r
  round_drawn r most once = by r.rest r.probed refl refl where
    by : (rest probed : List ℕ) → r.rest ≡ rest → r.probed ≡ probed → HasRound r
    by (id ∷ rest) probed is was =
        record { choice = Nothing; after = before; may = λ none. absurd cc; draws = λ judged probe same. refl }
    by [] [] is was = record { choice = Nothing; after = before; may = λ none. was; draws = λ judged probe same. refl }
    by [] (id ∷ probed) is was =
        let order = total.order before r.probed most once in
        record {
          choice = Round (record { items = order.0 });
          after = order.1;
          may = (is, λ none. absurd cc, order.2);
          draws = λ judged probe same. subst (λ (x : Lists). orders before x.probed order.0 order.1) (sym same) order.3;
        }

  -- the probe of who is next
  next_probed : (number : ℕ) (next : Option ℕ) → ((id : ℕ) → next ≡ Some id → is_listed o h id ≡ true) →
      (probe : Option Probe) × IsProbe o h number next probe
  next_probed number None listed = (None, refl)
  next_probed number (Some id) listed =
      let row = listed_row o h id (listed id refl) in
      (Some (record { target = id; peer = row.0; number = number }), (row.0, row.1, refl))

  started : phase o h ≡ 0 → period_number o h < greatest_number → HasAnswer orders places o h Tick before
  started begins unspent =
      let judged = unheard o h in
      let r = leave_judged judged (lists o h) in
      let in_lists = λ (id : ℕ) (is : has (all_of r) id ≡ true). stays_from judged (lists o h) id is in
      let once : has_twice r.probed ≡ false =
      once_front r.probed r.rest (once_judged judged (lists o h) (listed_once o h s run)) in
      let most = few o h s run r.probed once (λ id is. in_lists id (has_in_front id r.probed r.rest is)) in
      let round = round_drawn r most once in
      let next = redraw (drawn round.choice) r in
      let is_next : (id : ℕ) → front next.rest ≡ Some id → is_listed o h id ≡ true =
      λ id e. sym (listed_is o h s run id)
      ∙ in_lists id (sym (has-IsPermutation id (all_of r) (all_of next) (all-redraw (drawn round.choice) r round.may))
      ∙ next_is_in next id e) in
      let probe = next_probed (period_number o h + 1) (front next.rest) is_next in
      record {
        reply = Started judged probe.0;
        choice = round.choice;
        after = round.after;
        fits = record { begins = begins; unspent = unspent; judges = refl; draws = round.may; probes = probe.1 };
        draws = round.draws judged probe.0 refl;
      }

  -- the relays, in the order that was drawn
  record HasRelays (target : ℕ) (ids : List ℕ) : Type 0 where
    relays : List Relay
    are : map (λ relay. relay.id) relays ≡ ids
    each : AllByRecursion
        (λ relay. (has (candidates o h target) relay.id ≡ true)
        × (row_of o h relay.id ≡ Some (up relay.id relay.peer))) relays

  candidate_listed : (target id : ℕ) → has (candidates o h target) id ≡ true → has (listed o h) id ≡ true
  candidate_listed target id is =
      (and_parts (has (listed o h) id) (not (nat_eq id target))
      (sym (has_part (λ other. not (nat_eq other target)) id (listed o h)) ∙ is)).0

  relays_of : (target : ℕ) (ids : List ℕ) → ((id : ℕ) → has ids id ≡ true → has (candidates o h target) id ≡ true) →
      HasRelays target ids
  relays_of target [] within = record { relays = []; are = refl; each = tt }
  relays_of target (id ∷ ids) within =
      let first : has (candidates o h target) id ≡ true =
      within id (or_left (nat_eq id id) (has ids id) (eq-eqb id id refl)) in
      let row = listed_row o h id (sym (listed_is o h s run id) ∙ candidate_listed target id first) in
      let others = relays_of target ids (λ q is. within q (or_right (nat_eq q id) (has ids q) is)) in
      record {
        relays = record { id = id; peer = row.0 } ∷ others.relays;
        are = ap (λ (xs : List ℕ). id ∷ xs) others.are;
        each = ((first, row.1), others.each);
      }

  -- the aim is listed, and has an address
  aim_row : (target : ℕ) → unheard o h ≡ Some target → (peer : Address) × (row_of o h target ≡ Some (up target peer))
  aim_row target silent = listed_row o h target (aim_listed o h target s run (unheard_aim o h target silent))

  nobody_asked : (target : ℕ) → phase o h ≡ o.rtt → unheard o h ≡ Some target →
      (o.k ≡ 0) ⊎ (candidates o h target ≡ []) → HasAnswer orders places o h Tick before
  nobody_asked target timeout silent none =
      let count : 0 ≡ min o.k (length (candidates o h target)) =
      elim none [
        | inl zero ↦ omega arith
        | inr empty ↦ omega (arith, ap (λ (xs : List ℕ). length xs) empty)
      ] in
      let row = aim_row target silent in
      record {
        reply = Asked target row.0 (period_number o h) (record { items = [] });
        choice = Nothing;
        after = before;
        fits = (timeout, silent, refl, record { count = count; once = refl; each = tt }, row.1);
        draws = inl (none, refl);
      }

  some_asked : (target : ℕ) → phase o h ≡ o.rtt → unheard o h ≡ Some target → o.k ≢ 0 → candidates o h target ≢ [] →
      HasAnswer orders places o h Tick before
  some_asked target timeout silent some others =
      let row = aim_row target silent in
      let ids = candidates o h target in
      let once : has_twice ids ≡ false =
      once_part (λ other. not (nat_eq other target)) (listed o h) (listed_once o h s run) in
      let order = total.order before ids (few o h s run ids once (candidate_listed target)) once in
      let front = take o.k order.0 in
      let whole = take-append-drop o.k order.0 in
      let within : (id : ℕ) → has front id ≡ true → has ids id ≡ true =
      λ id is. sym (has-IsPermutation id ids order.0 order.2) ∙ ap (λ (xs : List ℕ). has xs id) (sym whole)
      ∙ has_in_front id front (drop o.k order.0) is in
      let drawn = relays_of target front within in
      let count : length drawn.relays ≡ min o.k (length ids) =
      sym (length-map drawn.relays (λ relay. relay.id)) ∙ ap (λ (xs : List ℕ). length xs) drawn.are
      ∙ length-take o.k order.0 ∙ ap (min o.k) (length_permutation ids order.0 order.2) in
      let differ : has_twice front ≡ false =
      once_front front (drop o.k order.0) (ap has_twice whole ∙ once-IsPermutation ids order.0 order.2 once) in
      record {
        reply = Asked target row.0 (period_number o h) (record { items = drawn.relays });
        choice = Nothing;
        after = order.1;
        fits = (
          timeout,
          silent,
          refl,
          record {
            count = count;
            once = ap has_twice drawn.are ∙ differ;
            each =
                drawn.each;
          },
          row.1,
        );
        draws = inr (some, others, order.0, order.3, drawn.are);
      }

  asked : (target : ℕ) → phase o h ≡ o.rtt → unheard o h ≡ Some target → HasAnswer orders places o h Tick before
  asked target timeout silent =
      elim (cases_eq o.k 0) [
        | inl zero ↦ nobody_asked target timeout silent (inl zero)
        | inr some ↦ by some (candidates o h target) refl
      ]
    where
      by : o.k ≢ 0 → (ids : List ℕ) → candidates o h target ≡ ids → HasAnswer orders places o h Tick before
      by some [] is = nobody_asked target timeout silent (inr is)
      by some (id ∷ ids) is = some_asked target timeout silent some (λ none. absurd cc)

  -- what is answered without asking the chooser
  plain : (call : Call) (reply : Reply) → Answers o h call reply Nothing →
      DrawsEntry orders places o h call reply Nothing before before → HasAnswer orders places o h call before
  plain call reply fits draws = record { reply = reply; choice = Nothing; after = before; fits = fits; draws = draws }

  within_period : phase o h ≢ 0 → HasAnswer orders places o h Tick before
  within_period inside =
      elim (cases_eq (phase o h) o.rtt) [
        | inl timeout ↦ by timeout (unheard o h) refl
        | inr other ↦ plain Tick Quiet (inside, λ at. absurd (other at)) refl
      ]
    where
      by : phase o h ≡ o.rtt → (silent : Option ℕ) → unheard o h ≡ silent → HasAnswer orders places o h Tick before
      by timeout None is = plain Tick Quiet (inside, λ at. is) refl
      by timeout (Some target) is = asked target timeout is

  ticked : HasAnswer orders places o h Tick before
  ticked =
      elim (cases_eq (phase o h) 0) [
        | inl begins ↦
            elim (cases_lt (period_number o h) greatest_number) [
              | inl unspent ↦ started begins unspent
              | inr spent ↦ plain Tick (Refused Spent) (begins, omega (arith, number_bound o h s run)) refl
            ]
        | inr inside ↦ within_period inside
      ]

  joined : (id : ℕ) (peer : Address) → HasAnswer orders places o h (Join id peer) before
  joined id peer =
      elim (cases_eq id o.me) [
        | inl myself ↦ plain (Join id peer) (Refused Myself) myself refl
        | inr other ↦ by other (is_listed o h id) refl (row_of o h id) refl
      ]
    where
      placed : id ≢ o.me → is_listed o h id ≡ false → (row_of o h id ≡ None → known_count o h ≢ 128) →
          HasAnswer orders places o h (Join id peer) before
      placed other down room =
          let place = total.place before (length (listed o h)) (room_to_join o h id s run down room) in
          record {
            reply = Joined place.0;
            choice = Nothing;
            after = place.1;
            fits =
                (other, down, room, place.2);
            draws = place.3;
          }

      by : id ≢ o.me → (b : Bool) → is_listed o h id ≡ b → (row : Option Row) → row_of o h id ≡ row →
          HasAnswer orders places o h (Join id peer) before
      by other true is row known = plain (Join id peer) (Refused Listed) (other, is) refl
      by other false is (Some row) known = placed other is (λ unknown. absurd cc)
      by other false is None unknown =
          elim (cases_eq (known_count o h) 128) [
            | inl full ↦ plain (Join id peer) (Refused Full) (other, unknown, full) refl
            | inr free ↦ placed other is (λ _. free)
          ]

  removed : (id : ℕ) → HasAnswer orders places o h (Remove id) before
  removed id =
      elim (cases_eq id o.me) [
        | inl myself ↦ plain (Remove id) (Refused Myself) myself refl
        | inr other ↦ by other (row_of o h id) refl
      ]
    where
      by : id ≢ o.me → (row : Option Row) → row_of o h id ≡ row → HasAnswer orders places o h (Remove id) before
      by other None unknown = plain (Remove id) (Refused Unknown) (other, unknown) refl
      by other (Some row) known = plain (Remove id) Removed (other, λ unknown. absurd cc) refl

  answered : (call : Call) → HasAnswer orders places o h call before
  answered Tick = ticked
  answered (Hear source m) = let reply = hear_reply o h m source m.kind in plain (Hear source m) reply.0 reply.1 refl
  answered (Join id peer) = joined id peer
  answered (Remove id) = removed id

-- ---- a run

-- each list of calls has a drawn run
pub drawn_run : {S : Type 0} (orders : S → List ℕ → List ℕ → S → Type 0) (places : S → ℕ → ℕ → S → Type 0) →
    IsTotal orders places → (o : Setting) → IsSetting o → DrawsAlways orders places o
drawn_run orders places total o s start [] seats =
    record { run = []; now = start; is_run = tt; is_drawn = refl; of_calls = refl }
drawn_run orders places total o s start (asked ∷ calls) seats =
    let earlier = drawn_run orders places total o s start calls seats.1 in
    let answer = answered orders places total o earlier.run s earlier.is_run earlier.now asked.1 in
    let entry : Entry = record {
      seat = asked.0;
      number = calls_of asked.0 earlier.run;
      call = asked.1;
      choice =
          answer.choice;
      reply = answer.reply;
    } in
    record {
      run = entry ∷ earlier.run;
      now = answer.after;
      is_run = (record { seat = seats.0; number = refl; answer = answer.fits }, earlier.is_run);
      is_drawn = (earlier.now, earlier.is_drawn, answer.draws);
      of_calls = ap (λ (rest : List (ℕ × Call)). asked ∷ rest) earlier.of_calls;
    }
