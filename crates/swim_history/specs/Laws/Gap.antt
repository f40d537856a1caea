-- Successive probes of a member that is listed all the time are at most 2 n - 1 periods apart, and within so many
-- starts it is probed; n is how many members are listed at first, and how many join.
use Rattle.std.proofs.Common.{◌≡◌, ℕ, ◌+◌, ◌*◌, ◌≤◌, Bool, true, false, cond, nat_eq, List, [], ◌∷◌, ◌++◌, length}
use Rattle.std.proofs.Common.{Option, Some, None, refl, sym, ap, subst, ◌∙◌, arith}
use Rattle.std.proofs.lemmas.Bool.{both_ways, or_parts, eqb-true}
use Rattle.std.proofs.lemmas.Cmp.{nat_eq_equiv}
use Rattle.std.specs.Prelude.{filter}
use Rattle.std.specs.List.{list_any}
use Rattle.swim_history.specs.declared.rows.Row.{Row}
use Rattle.swim_history.specs.declared.calls.Call.{Call}
use Rattle.swim_history.specs.declared.calls.Call.TheVariants.{Tick, Join, Remove}
use Rattle.swim_history.specs.declared.replies.Probe.{Probe}
use Rattle.swim_history.specs.declared.replies.Reply.{Reply}
use Rattle.swim_history.specs.declared.replies.Reply.TheVariants.{Started, Joined, Removed}
use Rattle.swim_history.specs.declared.entries.Choice.{Choice}
use Rattle.swim_history.specs.declared.entries.Choice.TheVariants.{Nothing, Round}
use Rattle.swim_history.specs.declared.entries.Entry.{Entry}
use Rattle.swim_history.specs.Setting.{Setting, IsSetting}
use Rattle.swim_history.specs.Events.{is_starting, is_start, probe_in, judged_in, is_removing, is_joining, removes}
use Rattle.swim_history.specs.Events.{joins}
use Rattle.swim_history.specs.Clock.{period_number}
use Rattle.swim_history.specs.Aim.{aim}
use Rattle.swim_history.specs.Rows.{is_up, row_then, row_of, is_listed}
use Rattle.swim_history.specs.Round.{drawn, lists_then, lists}
use Rattle.swim_history.specs.Run.{IsProbe, Answers, Continues, IsRun}
use Rattle.swim_history.specs.Laws.Run.{begins, number_then, IsRun-older}
use Rattle.swim_history.specs.Laws.Judgement.{started_number}
use Rattle.swim_history.specs.Laws.Listed.{listed_is, aim_listed, up_then}
use Rattle.swim_history.specs.Gap.{is_member, is_probe_of, probes_member, unlists, AreGapsBounded, IsProbedInTime}
use Rattle.swim_history.specs.Laws.UntilProbed.{until_probed, until_probed-leave, until_probed-start, until_probed-join}
use Rattle.swim_history.specs.Laws.UntilProbed.{until_probed_bound}

-- ---- one entry

-- a start probes the member exactly where it is next
probes_next : (o : Setting) (h : List Entry) (number m : ℕ) (next : Option ℕ) (probe : Option Probe) →
    IsProbe o h number next probe → is_probe_of m probe ≡ is_member m next
probes_next o h number m None probe p = ap (is_probe_of m) p
probes_next o h number m (Some id) probe p = ap (is_probe_of m) p.2

-- a start that judges another member leaves the member listed
up_started : (judged : Option ℕ) (probe : Option Probe) (number m : ℕ) (row : Option Row) → is_member m judged ≡ false →
    is_up row ≡ true → is_up (row_then Tick (Started judged probe) number m row) ≡ true
up_started None probe number m row other is = is
up_started (Some judged) probe number m row other is = rw other is

-- a listed member stays so where nothing unlists it
stays_up : (o : Setting) (h : List Entry) (e : Entry) (m : ℕ) → Continues o h e → unlists m e ≡ false →
    is_listed o h m ≡ true → is_listed o (e ∷ h) m ≡ true
stays_up o h e m c stays is = by (is_start e) refl
  where
    by : (b : Bool) → is_start e ≡ b → is_up (row_then e.call e.reply (period_number o h) m (row_of o h m)) ≡ true
    by true starts =
        let b = begins o h e.call e.reply e.choice c.answer starts in
        let spared : is_member m b.judged ≡ false =
        rw b.says at (or_parts (removes m e) (is_member m (judged_in e.reply)) stays).1 in
        rw (b.ticks, b.says) (up_started b.judged b.probe (period_number o h) m (row_of o h m) spared is)
    by false starts = up_then e.call e.reply (period_number o h) m (row_of o h m) starts
        (or_parts (removes m e) (is_member m (judged_in e.reply)) stays).0 is

-- an entry that begins no period and doesn't remove the member: only a join puts its probe off
waits_on : (o : Setting) (h : List Entry) (call : Call) (reply : Reply) (choice : Choice) (m : ℕ) →
    Answers o h call reply choice → is_starting reply ≡ false → is_removing m call reply ≡ false →
    is_listed o h m ≡ true
    → until_probed m (lists_then call reply choice (lists o h)) ≤ until_probed m (lists o h) + 2 * cond
    (is_joining call reply) 1 0
waits_on o h Tick (Started judged probe) choice m a starts stays is = absurd cc
waits_on o h (Join id peer) (Joined place) Nothing m a starts stays is =
    until_probed-join m id place (lists o h) (differ (nat_eq m id) refl)
  where
    differ : (b : Bool) → nat_eq m id ≡ b → nat_eq m id ≡ false
    differ true same = absurd (both_ways (is_listed o h m) (ap (is_listed o h) (eqb-true m id same) ∙ a.1) is)
    differ false same = same
waits_on o h (Join id peer) (Joined place) (Round order) m a starts stays is = absurd a
waits_on o h (Remove id) Removed Nothing m a starts stays is =
    omega (arith, until_probed-leave m id (lists o h) (nat_eq_equiv.symm m id ∙ stays))
waits_on o h (Remove id) Removed (Round order) m a starts stays is = absurd a
waits_on o h call reply choice m a starts stays is = omega arith

-- what an entry that neither probes nor unlists the member does to the starts until its probe: a start lowers them, a
-- join raises them by at most two
pub until_probed_then : (o : Setting) (h : List Entry) (e : Entry) (m : ℕ) → IsSetting o → IsRun o h → Continues o h e →
    probes_member m e ≡ false → unlists m e ≡ false → is_listed o h m ≡ true
    → until_probed m (lists o (e ∷ h)) + cond (is_start e) 1 0 ≤ until_probed m (lists o h) + 2 * cond (joins e) 1 0
until_probed_then o h e m s run c none stays is = by (is_start e) refl
  where
    parts : (removes m e ≡ false) × (is_member m (judged_in e.reply) ≡ false)
    parts = or_parts (removes m e) (is_member m (judged_in e.reply)) stays

    by : (b : Bool) → is_start e ≡ b → until_probed m (lists_then e.call e.reply e.choice (lists o h)) + cond b 1 0 ≤
        until_probed m (lists o h) + 2 * cond (is_joining e.call e.reply) 1 0
    by true starts =
        let b = begins o h e.call e.reply e.choice c.answer starts in
        let spared : is_member m b.judged ≡ false = rw b.says at parts.1 in
        let other : is_probe_of m b.probe ≡ false = rw b.says at none in
        let next = sym (probes_next o h (period_number o h + 1) m _ b.probe b.fits.probes) ∙ other in
        let nearer = until_probed-start m b.judged (drawn e.choice) (lists o h) b.fits.draws
        (listed_is o h s run m ∙ is) spared next in
        rw (b.ticks, b.says) (omega (arith, nearer))
    by false starts = omega (arith, waits_on o h e.call e.reply e.choice m c.answer starts parts.0 is)

-- ---- entries one after the other

pub counted : (test : Entry → Bool) (e : Entry) (h : List Entry) → length (filter test (e ∷ h)) ≡ cond
    (test e) 1 0 + length (filter test h)
counted test e h = by (test e)
  where
    by : (b : Bool) → length (cond b (e ∷ filter test h) (filter test h)) ≡ cond b 1 0 + length (filter test h)
    by true = omega arith
    by false = omega arith

-- the last number used rises by as many as there are starts
pub number_after : (o : Setting) (newer before : List Entry) → IsSetting o → IsRun o (newer ++ before) →
    period_number o (newer ++ before) ≡ period_number o before + length (filter is_start newer)
number_after o [] before s run = omega arith
number_after o (e ∷ newer) before s run =
    by (is_start e) (number_then o (newer ++ before) e s run.0) (number_after o newer before s run.1)
  where
    by : (b : Bool) → period_number o (e ∷ (newer ++ before)) ≡ cond b (period_number o (newer ++ before) + 1)
        (period_number o (newer ++ before)) → period_number o (newer ++ before) ≡ period_number o before + length
        (filter is_start newer)
        → period_number o (e ∷ (newer ++ before)) ≡ period_number o before + length
        (cond b (e ∷ filter is_start newer) (filter is_start newer))
    by true next again = omega arith
    by false next again = omega arith

-- after entries that neither probe nor unlist the member, it is listed, and for each start it waits one start less, but
-- for each join two more
pub until_probed_between : (o : Setting) (newer before : List Entry) (m : ℕ) → IsSetting o → IsRun o (newer ++ before) →
    list_any (probes_member m) newer ≡ false → list_any (unlists m) newer ≡ false → is_listed o before m ≡ true
    → (is_listed o (newer ++ before) m ≡ true)
    × (until_probed m (lists o (newer ++ before)) + length (filter is_start newer) ≤ until_probed m
    (lists o before) + 2 * length (filter joins newer))
until_probed_between o [] before m s run none stays is = (is, omega arith)
until_probed_between o (e ∷ newer) before m s run none stays is =
    let others = or_parts (probes_member m e) (list_any (probes_member m) newer) none in
    let stay = or_parts (unlists m e) (list_any (unlists m) newer) stays in
    let again = until_probed_between o newer before m s run.1 others.1 stay.1 is in (
      stays_up o (newer ++ before) e m run.0 stay.0 again.0,
      omega (
        arith,
        again.1,
        until_probed_then o (newer ++ before) e m s run.1 run.0 others.0 stay.0 again.0,
        counted is_start e newer,
        counted joins e newer,
      ),
    )

-- ---- gaps

-- only a start probes
pub probing_starts : (reply : Reply) (probe : Probe) → probe_in reply ≡ Some probe → is_starting reply ≡ true
probing_starts (Started judged found) probe is = refl
probing_starts reply probe is = absurd cc

-- whom a start probes is listed after it
pub probed_listed : (o : Setting) (h : List Entry) (e : Entry) (probe : Probe) → IsSetting o → IsRun o (e ∷ h) →
    probe_in e.reply ≡ Some probe → is_listed o (e ∷ h) probe.target ≡ true
probed_listed o h e probe s run is =
    let starts = probing_starts e.reply probe is in
    let aimed : aim (e ∷ h) ≡ Some probe.target = rw (starts, is) refl in
    aim_listed o (e ∷ h) probe.target s run aimed

-- a gap is at most so wide
pub gap_bound : (o : Setting) (h : List Entry) → IsSetting o → IsRun o h → AreGapsBounded o h
gap_bound o h s run m a b n gap =
    let probed = gap.first ∷ gap.before in
    let ended = gap.between ++ probed in
    let older = IsRun-older o gap.newer (gap.second ∷ ended) (subst (λ (h : List Entry). IsRun o h) gap.split run) in
    let began : IsRun o probed = IsRun-older o gap.between probed older.1 in
    let starts = probing_starts gap.first.reply gap.from gap.probed in
    let again = probing_starts gap.second.reply gap.to gap.again in
    let from = started_number o gap.before gap.first gap.from s began.0 starts gap.probed in
    let to = started_number o ended gap.second gap.to s older.0 again gap.again in
    let next : period_number o (gap.second ∷ ended) ≡ period_number o ended + 1 =
    rw again at (number_then o ended gap.second s older.0) in
    let at_first : is_listed o probed m ≡ true =
    rw gap.members.0 at (probed_listed o gap.before gap.first gap.from s began gap.probed) in
    let waits = until_probed_between o gap.between probed m s older.1 gap.none_between gap.stays at_first in
    let most = until_probed_bound m (lists o probed) (listed_is o probed s began m ∙ at_first) in
    let least = until_probed_bound m (lists o ended) (listed_is o ended s older.1 m ∙ waits.0) in
    let rises = number_after o gap.between probed s older.1 in
    (omega (arith, gap.numbers), omega (arith, gap.numbers, gap.count, waits.1, most.1, least.0))

-- ---- rounds

-- a member that is listed all the time is probed within so many starts
pub probed_in_time : (o : Setting) (h : List Entry) → IsSetting o → IsRun o h → IsProbedInTime o h
probed_in_time o h s run m n stretch is enough = by (list_any (probes_member m) stretch) refl
  where
    by : (b : Bool) → list_any (probes_member m) stretch ≡ b → b ≡ true
    by true some = refl
    by false none =
        let older : IsRun o (stretch ++ is.before) =
        IsRun-older o is.newer (stretch ++ is.before) (subst (λ (h : List Entry). IsRun o h) is.split run) in
        let began : IsRun o is.before = IsRun-older o stretch is.before older in
        let waits = until_probed_between o stretch is.before m s older none is.stays is.listed_at_first in
        let most = until_probed_bound m (lists o is.before) (listed_is o is.before s began m ∙ is.listed_at_first) in
        let least = until_probed_bound m (lists o (stretch ++ is.before))
        (listed_is o (stretch ++ is.before) s older m ∙ waits.0) in
        absurd (omega (arith, enough, is.count, waits.1, most.1, least.0))
