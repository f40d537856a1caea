-- The judgement rule, both ways: what a run judges by its aim and what was heard is what the rule judges.
use Rattle.std.proofs.Common.{◌≡◌, ℕ, ◌+◌, Bool, true, false, List, [], ◌∷◌, ◌++◌, Option, Some, None, refl, sym, ap}
use Rattle.std.proofs.Common.{subst, ◌∙◌}
use Rattle.std.proofs.lemmas.Bool.{or_parts}
use Rattle.std.proofs.lemmas.Option.{same_Some}
use Rattle.std.specs.Prelude.{find, option_and_then}
use Rattle.std.specs.Option.{option_map}
use Rattle.std.specs.List.{list_any}
use Rattle.swim_history.specs.declared.replies.Probe.{Probe}
use Rattle.swim_history.specs.declared.entries.Entry.{Entry}
use Rattle.swim_history.specs.Setting.{Setting, IsSetting}
use Rattle.swim_history.specs.Events.{is_start, probe_in, judged_in, removes, acks}
use Rattle.swim_history.specs.Clock.{period_number}
use Rattle.swim_history.specs.Aim.{since, unless, last_probed, aim, was_heard, unheard}
use Rattle.swim_history.specs.Run.{Continues, IsRun}
use Rattle.swim_history.specs.Laws.Run.{IsRun-older, number_between, begins, probe_number, number_then}
use Rattle.swim_history.specs.Judgement.{EndsUnheard, JudgesByRule}

-- a history at the last entry that passes a test
pub record IsSplit (test : Entry → Bool) (h : List Entry) (s : Entry) : Type 0 where
  pub before : List Entry
  pub whole : h ≡ since test h ++ s ∷ before
  pub passes : test s ≡ true
  pub none : list_any test (since test h) ≡ false

split_by : (test : Entry → Bool) (e : Entry) (h : List Entry) (s : Entry) → (find test h ≡ Some s → IsSplit test h s) →
    (b : Bool) → test e ≡ b → find test (e ∷ h) ≡ Some s → IsSplit test (e ∷ h) s
split_by test e h s again true is found =
    let same : e ≡ s = same_Some e s (rw is at found) in
    record {
      before = h;
      whole = rw is (ap (λ (x : Entry). x ∷ h) same);
      passes = ap test (sym same) ∙ is;
      none =
          rw is refl;
    }
split_by test e h s again false is found =
    let rest = again (rw is at found) in
    record {
      before = rest.before;
      whole = rw is (ap (λ (t : List Entry). e ∷ t) rest.whole);
      passes =
          rest.passes;
      none = rw is (rw is rest.none);
    }

pub split_at : (test : Entry → Bool) (h : List Entry) (s : Entry) → find test h ≡ Some s → IsSplit test h s
split_at test [] s found = absurd cc
split_at test (e ∷ h) s found = split_by test e h s (split_at test h s) (test e) refl found

-- the entries since the last that passes, where none of the newer ones does
pub since_at : (test : Entry → Bool) (newer : List Entry) (s : Entry) (before : List Entry) →
    list_any test newer ≡ false → test s ≡ true → (find test (newer ++ s ∷ before) ≡ Some s)
    × (since test (newer ++ s ∷ before) ≡ newer)
since_at test [] s before none passes = (rw passes refl, rw passes refl)
since_at test (e ∷ newer) s before none passes =
    let parts = or_parts (test e) (list_any test newer) none in
    let rest = since_at test newer s before parts.1 passes in
    (rw parts.0 rest.0, rw (parts.0, rest.1) refl)

-- where a value is there unless a test holds, the test doesn't
unless_some : {A : Type 0} (b : Bool) (x y : A) → unless b x ≡ Some y → (b ≡ false) × (x ≡ y)
unless_some true x y e = absurd cc
unless_some false x y e = (refl, same_Some x y e)

pub map_some : {A B : Type 0} (f : A → B) (o : Option A) (y : B) → option_map f o ≡ Some y → (x : A) × (o ≡ Some x)
    × (f x ≡ y)
map_some f None y e = absurd cc
map_some f (Some x) y e = (x, refl, same_Some (f x) y e)

then_some : {A B : Type 0} (f : A → Option B) (o : Option A) (y : B) → option_and_then f o ≡ Some y →
    (x : A) × (o ≡ Some x) × (f x ≡ Some y)
then_some f None y e = absurd cc
then_some f (Some x) y e = (x, refl, e)

-- a start of a run has the number of the period that it begins in its probe
pub started_number : (o : Setting) (h : List Entry) (e : Entry) (probe : Probe) → IsSetting o → Continues o h e →
    is_start e ≡ true → probe_in e.reply ≡ Some probe → probe.number ≡ period_number o (e ∷ h)
started_number o h e probe s c starts probes =
    let b = begins o h e.call e.reply e.choice c.answer starts in
    let is : b.probe ≡ Some probe = sym (ap probe_in b.says) ∙ probes in
    let number = probe_number o h (period_number o h + 1) _ probe (rw is at b.fits.probes) in
    let next = number_then o h e s c in
    number ∙ sym (rw starts at next)

-- the number of a period is in the probe that it begins with
period_of_start : (o : Setting) (period : List Entry) (start : Entry) (before : List Entry) (probe : Probe) →
    IsSetting o → IsRun o (period ++ start ∷ before) → list_any is_start period ≡ false → is_start start ≡ true →
    probe_in start.reply ≡ Some probe → probe.number ≡ period_number o (period ++ start ∷ before)
period_of_start o period start before probe s run none starts probes =
    started_number o before start probe s (IsRun-older o period (start ∷ before) run).0 starts probes
    ∙ sym (number_between o period (start ∷ before) s run none)

-- whom a run judges at its next start is judged by the rule
pub unheard-by_rule : (o : Setting) (h : List Entry) (m : ℕ) → IsSetting o → IsRun o h → unheard o h ≡ Some m →
    EndsUnheard o h m
unheard-by_rule o h m s run judged =
    let silent = then_some (λ m. unless (was_heard o h m) m) (aim h) m judged in
    let quiet = unless_some (was_heard o h silent.0) silent.0 m silent.2 in
    let aimed = then_some (λ m. unless (list_any (removes m) (since is_start h)) m) (last_probed h) silent.0 silent.1 in
    let stays = unless_some (list_any (removes aimed.0) (since is_start h)) aimed.0 silent.0 aimed.2 in
    let probed =
    map_some (λ probe. probe.target) (option_and_then (λ e. probe_in e.reply) (find is_start h)) aimed.0 aimed.1 in
    let start = then_some (λ e. probe_in e.reply) (find is_start h) probed.0 probed.1 in
    let split = split_at is_start h start.0 start.1 in
    let period = since is_start h in
    let target : aimed.0 ≡ m = stays.1 ∙ quiet.1 in
    let number : probed.0.number ≡ period_number o h =
    rw (← split.whole) at
    (period_of_start o period start.0 split.before probed.0 s
    (subst (λ (h : List Entry). IsRun o h) {y =
    period ++ start.0 ∷ split.before} split.whole run) split.none split.passes start.2) in
    record {
      period = period;
      start = start.0;
      before = split.before;
      probe = probed.0;
      split = split.whole;
      starts = split.passes;
      last = split.none;
      probes = start.2;
      aimed = probed.2 ∙ target;
      stays = ap (λ m. list_any (removes m) period) (sym target) ∙ stays.0;
      unheard = ap (λ n. list_any (acks o.me m n) period) number ∙ (ap (λ m. was_heard o h m) (sym quiet.1) ∙ quiet.0);
    }

-- whom the rule judges, a run judges at its next start
pub unheard_from_rule : (o : Setting) (h : List Entry) (m : ℕ) → IsSetting o → IsRun o h → EndsUnheard o h m →
    unheard o h ≡ Some m
unheard_from_rule o h m s run r =
    let at = since_at is_start r.period r.start r.before r.last r.starts in
    let found : find is_start h ≡ Some r.start = ap (find is_start) r.split ∙ at.0 in
    let period : since is_start h ≡ r.period = ap (since is_start) r.split ∙ at.1 in
    let number : r.probe.number ≡ period_number o h =
    period_of_start o r.period r.start r.before r.probe s
    (subst (λ (h : List Entry). IsRun o h) r.split run) r.last r.starts r.probes ∙ ap (period_number o)
    (sym r.split) in
    let probed : last_probed h ≡ Some m = rw (found, r.probes, r.aimed) refl in
    let stays : list_any (removes m) (since is_start h) ≡ false = rw period r.stays in
    let aimed : aim h ≡ Some m = rw (probed, stays) refl in
    let silent : was_heard o h m ≡ false = rw (period, ← number) r.unheard in
    rw (aimed, silent) refl

pub judges_by_rule : (o : Setting) (h : List Entry) → IsSetting o → IsRun o h → JudgesByRule o h
judges_by_rule o h s run newer e before split starts m =
    let older = IsRun-older o newer (e ∷ before) (subst (λ (h : List Entry). IsRun o h) split run) in
    let b = begins o before e.call e.reply e.choice older.0.answer starts in
    let judges : judged_in e.reply ≡ unheard o before = ap judged_in b.says ∙ b.fits.judges in
    (λ j. unheard-by_rule o before m s older.1 (sym judges ∙ j), λ r. judges ∙ unheard_from_rule o before m s older.1 r)
