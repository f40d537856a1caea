-- What is shown within so many ticks.
use Rattle.std.proofs.Common.{◌≡◌, ℕ, ◌+◌, ◌^◌, ◌<◌, ◌≤◌, Bool, true, false, cond, List, [], ◌∷◌, ◌++◌, length}
use Rattle.std.proofs.Common.{append-nil, filter, nat_le, Some, None, refl, sym, ap, subst, ◌∙◌, arith}
use Rattle.std.proofs.lemmas.Bool.{le-leb, lt-leb, le-ltb, lt-ltb}
use Rattle.std.proofs.lemmas.List.Elements.{filter-append}
use Rattle.swim_history.specs.declared.entries.Entry.{Entry}
use Rattle.swim_history.specs.declared.calls.Call.{Call}
use Rattle.swim_history.specs.declared.calls.Call.TheVariants.{Hear, Join, Remove}
use Rattle.swim_history.specs.declared.replies.Reply.{Reply}
use Rattle.swim_history.specs.declared.replies.Reply.TheVariants.{Started, Asked, Heard, Joined, Removed}
use Rattle.swim_history.specs.Setting.{Setting, IsSetting}
use Rattle.swim_history.specs.Events.{is_tick}
use Rattle.swim_history.specs.Clock.{ticks, number_at, period_number}
use Rattle.swim_history.specs.Run.{IsRun, greatest_number}
use Rattle.swim_history.specs.Laws.UntilProbed.{length-filter-le}
use Rattle.swim_history.specs.Laws.DrawnRuns.{number_bound}
use Rattle.swim_timeline.specs.declared.earlier_runs.EarlierRun.{EarlierRun}
use Rattle.swim_timeline.specs.declared.pictures.Picture.{Picture}
use Rattle.swim_timeline.specs.Marks.{marks, marks_by}
use Rattle.swim_timeline.specs.Lanes.{Lanes, lanes_from, lanes_then, with_rows}
use Rattle.swim_timeline.specs.Shown.{Draws, from_tick, within}
use Rattle.swim_timeline.proofs.Oldest.{oldest, oldest_length, oldest_run}

-- a history of no more ticks than that is within them
pub within_all : (most : ℕ) (h : List Entry) → ticks h ≤ most → within most h ≡ h
within_all most [] fits = refl
within_all most (e ∷ before) fits = rw (le-leb (ticks (e ∷ before)) most fits) refl

within_length : (most : ℕ) (h : List Entry) → length (within most h) ≤ length h
within_length most [] = omega arith
within_length most (e ∷ before) = by (nat_le (ticks (e ∷ before)) most) (within_length most before) where
  by : (fits : Bool) → length (within most before) ≤ length before →
      length (cond fits (e ∷ before) (within most before)) ≤ length (e ∷ before)
  by true less = omega arith
  by false less = omega arith

-- an entry takes no tick back
pub ticks_more : (e : Entry) (h : List Entry) → ticks h ≤ ticks (e ∷ h)
ticks_more e h = by (is_tick e) where
  by : (is : Bool) → length (filter is_tick h) ≤ length (cond is (e ∷ filter is_tick h) (filter is_tick h))
  by true = omega arith
  by false = omega arith

-- the marks of an entry are those of its tick
marks_shown : (first t ended : ℕ) (call : Call) (reply : Reply) → first ≤ t →
    from_tick first (marks_by t ended call reply) ≡ marks_by t ended call reply
marks_shown first t ended call (Started None None) from = refl
marks_shown first t ended call (Started (Some judged) None) from = rw (le-leb first t from) refl
marks_shown first t ended call (Started None (Some probe)) from = rw (le-leb first t from) refl
marks_shown first t ended call (Started (Some judged) (Some probe)) from = rw (le-leb first t from) refl
marks_shown first t ended call (Asked target peer number relays) from = rw (le-leb first t from) refl
marks_shown first t ended (Hear source message) Heard from = rw (le-leb first t from) refl
marks_shown first t ended (Join id peer) (Joined place) from = rw (le-leb first t from) refl
marks_shown first t ended (Remove id) Removed from = rw (le-leb first t from) refl
marks_shown first t ended call reply from = refl

marks_hidden : (first t ended : ℕ) (call : Call) (reply : Reply) → t < first →
    from_tick first (marks_by t ended call reply) ≡ []
marks_hidden first t ended call (Started None None) before = refl
marks_hidden first t ended call (Started (Some judged) None) before = rw (lt-leb first t before) refl
marks_hidden first t ended call (Started None (Some probe)) before = rw (lt-leb first t before) refl
marks_hidden first t ended call (Started (Some judged) (Some probe)) before = rw (lt-leb first t before) refl
marks_hidden first t ended call (Asked target peer number relays) before = rw (lt-leb first t before) refl
marks_hidden first t ended (Hear source message) Heard before = rw (lt-leb first t before) refl
marks_hidden first t ended (Join id peer) (Joined place) before = rw (lt-leb first t before) refl
marks_hidden first t ended (Remove id) Removed before = rw (lt-leb first t before) refl
marks_hidden first t ended call reply before = refl

-- the marks from a tick on, of one entry more
marks_of_more : (o : Setting) (h : List Entry) (e : Entry) (first : ℕ) → from_tick first (marks o (e ∷ h)) ≡
    from_tick first (marks o h) ++ from_tick first (marks_by (ticks (e ∷ h)) (period_number o h) e.call e.reply)
marks_of_more o h e first =
    filter-append (λ mark. nat_le first mark.tick) (marks o h)
    (marks_by (ticks (e ∷ h)) (period_number o h) e.call e.reply)

-- before that tick no lane is added
lanes_hidden : (first : ℕ) (lanes : Lanes) (h : List Entry) → ticks h < first → lanes_from first lanes h ≡ lanes
lanes_hidden first lanes [] few = refl
lanes_hidden first lanes (e ∷ before) few = rw (lt-ltb (ticks (e ∷ before)) first few) refl

-- what is drawn of one entry more that is shown
pub draws_more : (o : Setting) (h : List Entry) (e : Entry) (first until : ℕ) (old new : Picture) (ended : ℕ) →
    Draws o h first until old →
    new.ticks ≡ ticks (e ∷ h) → new.ticks ≤ until → first ≤ new.ticks → new.before ≡ old.before →
    new.entries ≡ old.entries + 1 →
    ended ≡ number_at o.last o.period old.ticks →
    new.marks.items ≡ old.marks.items ++ marks_by new.ticks ended e.call e.reply →
    new.lanes.entries ≡ lanes_then old.lanes.entries e.call e.reply → Draws o (e ∷ h) first until new
draws_more o h e first until old new ended draws now fits from before one_more last marked laned =
    let all : ticks (e ∷ h) ≤ until = subst (λ (n : ℕ). n ≤ until) now fits in
    let later : first ≤ ticks (e ∷ h) = subst (λ (n : ℕ). first ≤ n) now from in
    let whole = within_all until (e ∷ h) all in
    let older : within until h ≡ h = within_all until h (omega (arith, ticks_more e h, all)) in
    let count : old.entries ≡ length h = draws.entries ∙ ap length older in
    let drawn : old.marks.items ≡ from_tick first (marks o h) = draws.marks ∙
    ap (λ (l : List Entry). from_tick first (marks o l)) older in
    let shown = marks_shown first (ticks (e ∷ h)) (period_number o h) e.call e.reply later in
    let lanes_old : old.lanes.entries ≡ lanes_from first (with_rows [] old.before.rows.items) h
    = draws.lanes ∙ ap (λ (l : List Entry). lanes_from first (with_rows [] old.before.rows.items) l) older in
    let lanes_new : lanes_from first (with_rows [] old.before.rows.items) (e ∷ h) ≡
    lanes_then (lanes_from first (with_rows [] old.before.rows.items) h) e.call e.reply =
    rw (le-ltb (ticks (e ∷ h)) first later) refl in
    let laned_from : new.lanes.entries ≡ lanes_from first (with_rows [] old.before.rows.items) (e ∷ h)
    = laned ∙ (ap (λ (l : Lanes). lanes_then l e.call e.reply) lanes_old ∙ sym lanes_new) in
    record {
      ticks = now;
      entries = rw whole (omega (arith, one_more, count));
      marks = rw (whole, marks_of_more o h e first, shown) (rw (marked, drawn, now, last, draws.ticks) refl);
      lanes = rw whole (laned_from ∙
          ap (λ (b : EarlierRun). lanes_from first (with_rows [] b.rows.items) (e ∷ h)) (sym before));
    }

-- of one more that lies before what is shown
pub draws_before : (o : Setting) (h : List Entry) (e : Entry) (first until : ℕ) (old new : Picture) →
    Draws o h first until old →
    new.ticks ≡ ticks (e ∷ h) → new.ticks ≤ until → new.ticks < first → new.before ≡ old.before →
    new.entries ≡ old.entries + 1 →
    new.marks.items ≡ old.marks.items → new.lanes.entries ≡ old.lanes.entries → Draws o (e ∷ h) first until new
draws_before o h e first until old new draws now fits less before one_more marked laned =
    let all : ticks (e ∷ h) ≤ until = subst (λ (n : ℕ). n ≤ until) now fits in
    let few : ticks (e ∷ h) < first = subst (λ (n : ℕ). n < first) now less in
    let few_before : ticks h < first = omega (arith, ticks_more e h, few) in
    let whole = within_all until (e ∷ h) all in
    let older : within until h ≡ h = within_all until h (omega (arith, ticks_more e h, all)) in
    let count : old.entries ≡ length h = draws.entries ∙ ap length older in
    let drawn : old.marks.items ≡ from_tick first (marks o h) = draws.marks ∙
    ap (λ (l : List Entry). from_tick first (marks o l)) older in
    let hidden = marks_hidden first (ticks (e ∷ h)) (period_number o h) e.call e.reply few in
    let lanes_old : old.lanes.entries ≡ with_rows [] old.before.rows.items
    = draws.lanes ∙ (ap (λ (l : List Entry). lanes_from first (with_rows [] old.before.rows.items) l) older
    ∙ lanes_hidden first (with_rows [] old.before.rows.items) h few_before) in
    record {
      ticks = now;
      entries = rw whole (omega (arith, one_more, count));
      marks = rw (whole, marks_of_more o h e first, hidden, append-nil) (marked ∙ drawn);
      lanes = rw (whole, before, lt-ltb (ticks (e ∷ h)) first few) (laned ∙ lanes_old);
    }

-- of one more that lies behind it
pub draws_behind : (o : Setting) (h : List Entry) (e : Entry) (first until : ℕ) (old new : Picture) →
    Draws o h first until old →
    new.ticks ≡ ticks (e ∷ h) → until < new.ticks → new.before ≡ old.before → new.entries ≡ old.entries →
    new.marks.items ≡ old.marks.items → new.lanes.entries ≡ old.lanes.entries → Draws o (e ∷ h) first until new
draws_behind o h e first until old new draws now past before entries marked laned =
    let many : until < ticks (e ∷ h) = subst (λ (n : ℕ). until < n) now past in
    let same : within until (e ∷ h) ≡ within until h = rw (lt-leb (ticks (e ∷ h)) until many) refl in
    record {
      ticks = now;
      entries = rw same (entries ∙ draws.entries);
      marks = rw same (marked ∙ draws.marks);
      lanes = rw (same, before) (laned ∙ draws.lanes);
    }

-- the last number used in the first entries of a run fits
pub number_fits : (o : Setting) (h : List Entry) (i : ℕ) → IsSetting o → IsRun o h →
    period_number o (oldest i h) < 2 ^ 64
number_fits o h i setting run =
    let number : period_number o (oldest i h) ≤ greatest_number =
    number_bound o (oldest i h) setting (oldest_run o h i run) in
    omega (arith, number)

-- as many ticks as entries at the most
pub ticks_fit : (h : List Entry) (i : ℕ) → ticks (oldest i h) ≤ i
ticks_fit h i = omega (arith, length-filter-le is_tick (oldest i h), oldest_length h i)

-- what is drawn of the first entries of a run
pub record Fits (o : Setting) (i : ℕ) (shown : Picture) : Type 0 where
  pub ticks : shown.ticks ≤ i
  pub entries : shown.entries ≤ i
  pub number : number_at o.last o.period shown.ticks < 2 ^ 64

pub shown_fits : (o : Setting) (h : List Entry) (i first until : ℕ) (shown : Picture) → IsSetting o → IsRun o h →
    Draws o (oldest i h) first until shown → Fits o i shown
shown_fits o h i first until shown setting run draws =
    record {
      ticks = omega (arith, draws.ticks, ticks_fit h i);
      entries = omega (arith, draws.entries, within_length until (oldest i h), oldest_length h i);
      number = rw draws.ticks (number_fits o h i setting run);
    }
