-- What is kept of a member that was probed, after one more entry.
use Rattle.std.proofs.Common.{◌≡◌, ℕ, ◌+◌, ◌-◌, ◌≤◌, Bool, true, false, cond, List, ◌∷◌, length, Option, Some, None}
use Rattle.std.proofs.Common.{refl, sym, ap, ◌∙◌, arith}
use Rattle.std.proofs.lemmas.Bool.{false≢true}
use Rattle.std.specs.Prelude.{is_some, IfSome}
use Rattle.std.specs.Option.{option_map}
use Rattle.swim_history.specs.declared.calls.Call.{Call}
use Rattle.swim_history.specs.declared.calls.Call.TheVariants.{Tick, Join}
use Rattle.swim_history.specs.declared.rows.Row.{Row}
use Rattle.swim_history.specs.declared.replies.Probe.{Probe}
use Rattle.swim_history.specs.declared.replies.Reply.{Reply}
use Rattle.swim_history.specs.declared.replies.Reply.TheVariants.{Started, Joined}
use Rattle.swim_history.specs.declared.entries.Entry.{Entry}
use Rattle.swim_history.specs.declared.gaps.ProbeStart.{ProbeStart}
use Rattle.swim_history.specs.declared.gaps.MemberGaps.{MemberGaps}
use Rattle.swim_history.specs.Setting.{Setting, IsSetting}
use Rattle.swim_history.specs.Events.{is_starting, probe_in, is_joining, joins}
use Rattle.swim_history.specs.Clock.{period_number}
use Rattle.swim_history.specs.Rows.{failed, is_up, row_then, row_of, is_listed}
use Rattle.swim_history.specs.Round.{listed}
use Rattle.swim_history.specs.Run.{IsRun}
use Rattle.swim_history.specs.Laws.Run.{begins}
use Rattle.swim_history.specs.Gap.{is_member, unlists}
use Rattle.swim_history.specs.Laws.Gap.{probing_starts, probed_listed}
use Rattle.swim_history.specs.LastProbe.{probed_at, with_joiner, gap_since, last_probe, widest_gap}
use Rattle.swim_history.specs.Storing.MemberGaps.{last_at, last_in, widest_in, unlisted, probed_again, gaps_then}
use Rattle.swim_history.specs.Storing.MemberGaps.{IsKept, IsOpenTo}
use Rattle.swim_history.proofs.LastProbes.{ProbesIt, probes_it, probes_other, probing}
use Rattle.swim_history.proofs.GapWalk.{wider_none, walked, gap_rises, widest_rises}

-- ---- an entry that doesn't probe the member

some_stays : (gone : Bool) (kept : Option MemberGaps) →
    is_some (cond gone (option_map unlisted kept) kept) ≡ is_some kept
some_stays true None = refl
some_stays true (Some kept) = refl
some_stays false kept = refl

widest_stays : (gone : Bool) (kept : Option MemberGaps) →
    widest_in (cond gone (option_map unlisted kept) kept) ≡ widest_in kept
widest_stays true None = refl
widest_stays true (Some kept) = refl
widest_stays false kept = refl

-- one more join counts for each member that is listed
last_more : (joined : Bool) (joins : ℕ) (last : Option ProbeStart) → IfSome last (λ start. start.joins ≤ joins)
    → last_at (cond joined (joins + 1) joins) last ≡ option_map (with_joiner joined) (last_at joins last)
last_more joined joins None past = refl
last_more true joins (Some start) past =
    let more : start.listed + (joins + 1 - start.joins) ≡ start.listed + (joins - start.joins) + 1 =
    omega (arith, past) in
    ap (λ (x : ℕ). Some (record { number = start.number; n = x })) more
last_more false joins (Some start) past = refl

last_stays : (gone joined : Bool) (joins : ℕ) (kept : Option MemberGaps) →
    IfSome (last_in kept) (λ start. start.joins ≤ joins)
    → last_at (cond joined (joins + 1) joins) (last_in (cond gone (option_map unlisted kept) kept)) ≡
    cond gone None (option_map (with_joiner joined) (last_at joins (last_in kept)))
last_stays true joined joins None past = refl
last_stays true joined joins (Some kept) past = refl
last_stays false joined joins kept past = last_more joined joins (last_in kept) past

past_more : (joined : Bool) (joins : ℕ) (last : Option ProbeStart) → IfSome last (λ start. start.joins ≤ joins) →
    IfSome last (λ start. start.joins ≤ cond joined (joins + 1) joins)
past_more joined joins None past = tt
past_more true joins (Some start) past = omega (arith, past)
past_more false joins (Some start) past = past

past_stays : (gone joined : Bool) (joins : ℕ) (kept : Option MemberGaps) →
    IfSome (last_in kept) (λ start. start.joins ≤ joins)
    → IfSome (last_in (cond gone (option_map unlisted kept) kept))
    (λ start. start.joins ≤ cond joined (joins + 1) joins)
past_stays true joined joins None past = tt
past_stays true joined joins (Some kept) past = tt
past_stays false joined joins kept past = past_more joined joins (last_in kept) past

kept_past : (o : Setting) (h : List Entry) (e : Entry) (before m : ℕ) (kept : Option MemberGaps) →
    probed_at m e.reply ≡ None → IsKept o h before m kept
    → IsKept o (e ∷ h) (cond (joins e) (before + 1) before) m (cond (unlists m e) (option_map unlisted kept) kept)
kept_past o h e before m kept at k = record {
  probed = let other = probes_other m e at in rw other (some_stays (unlists m e) kept ∙ k.probed);
  past = past_stays (unlists m e) (joins e) before kept k.past;
  last = rw (at, ← k.last) (last_stays (unlists m e) (joins e) before kept k.past);
  widest = rw (at, wider_none) (widest_stays (unlists m e) kept ∙ k.widest);
}

-- ---- an entry that probes the member

failed_down : (number : ℕ) (row : Option Row) → is_up (option_map (failed number) row) ≡ false
failed_down number None = refl
failed_down number (Some row) = refl

judged_down : (judged : Option ℕ) (probe : Option Probe) (number m : ℕ) (row : Option Row) → is_member m judged ≡ true →
    is_up (row_then Tick (Started judged probe) number m row) ≡ false
judged_down None probe number m row is = absurd cc
judged_down (Some id) probe number m row is = rw is (failed_down number row)

-- it leaves the member listed
probed_stays : (o : Setting) (h : List Entry) (e : Entry) (m b : ℕ) → IsSetting o → IsRun o (e ∷ h) → ProbesIt m e b →
    unlists m e ≡ false
probed_stays o h e m b s run it =
    let starts = probing_starts e.reply it.probe it.is in
    let g = begins o h e.call e.reply e.choice run.0.answer starts in
    let is : is_listed o (e ∷ h) m ≡ true = rw it.member at (probed_listed o h e it.probe s run it.is) in
    rw (g.ticks, g.says) (by g.judged g.probe (is_member m g.judged) refl (rw (g.ticks, g.says) at is))
  where
    by : (judged : Option ℕ) (probe : Option Probe) (t : Bool) → is_member m judged ≡ t →
        is_up (row_then Tick (Started judged probe) (period_number o h) m (row_of o h m)) ≡ true → t ≡ false
    by judged probe true same is =
        absurd (false≢true (sym (judged_down judged probe (period_number o h) m (row_of o h m) same) ∙ is))
    by judged probe false same is = refl

starts_no_join : (call : Call) (reply : Reply) → is_starting reply ≡ true → is_joining call reply ≡ false
starts_no_join (Join id peer) (Joined place) starts = absurd cc
starts_no_join call reply starts = refl

kept_probed : (o : Setting) (h : List Entry) (e : Entry) (before m b : ℕ) (kept : Option MemberGaps) →
    probed_at m e.reply ≡ Some b → is_joining e.call e.reply ≡ false → IsKept o h before m kept
    → IsKept o (e ∷ h) before m
    (Some (probed_again (record { number = b; joins = before; listed = length (listed o (e ∷ h)) }) kept))
kept_probed o h e before m b kept at apart k =
    let it = probes_it m e b at in
    let probes = probing m e it.probe it.is it.member in
    let members : length (listed o (e ∷ h)) + (before - before) ≡ length (listed o (e ∷ h)) = omega arith in
    record {
      probed = rw probes.0 refl;
      past = omega arith;
      last = rw at (ap (λ (x : ℕ). Some (record { number = b; n = x })) members);
      widest = rw (at, k.last, k.widest) refl;
    }

-- ---- any entry

pub kept_next : (o : Setting) (h : List Entry) (e : Entry) (before m : ℕ) (kept : Option MemberGaps) → IsSetting o →
    IsRun o (e ∷ h) → IsKept o h before m kept
    → IsKept o (e ∷ h) (cond (joins e) (before + 1) before) m
    (gaps_then m e.call e.reply (length (listed o (e ∷ h))) before kept)
kept_next o h e before m kept s run k = by (probed_at m e.reply) refl
  where
    by : (found : Option ℕ) → probed_at m e.reply ≡ found →
        IsKept o (e ∷ h) (cond (joins e) (before + 1) before) m
        (gaps_then m e.call e.reply (length (listed o (e ∷ h))) before kept)
    by None at = rw at (kept_past o h e before m kept at k)
    by (Some b) at =
        let it = probes_it m e b at in
        let stays = probed_stays o h e m b s run it in
        let apart = starts_no_join e.call e.reply (probing_starts e.reply it.probe it.is) in
        rw (stays, apart, at) (kept_probed o h e before m b kept at apart k)

-- a probe comes after what is kept of its member
pub kept_open : (o : Setting) (h : List Entry) (e : Entry) (before : ℕ) (kept : Option MemberGaps) (probe : Probe) →
    IsSetting o → IsRun o (e ∷ h) → probe_in e.reply ≡ Some probe → IsKept o h before probe.target kept
    → IsOpenTo before probe.number kept
kept_open o h e before kept probe s run is k =
    let w = walked o h probe.target s run.1 in
    let at = (probing probe.target e probe is refl).1 in
    let rises : IfSome (gap_since (last_at before (last_in kept)) probe.number) (λ g. g.a ≤ g.b) =
    rw k.last (rw at at (gap_rises o h e probe.target (last_probe o probe.target h) (widest_gap o probe.target h) s run
    w)) in
    record {
      last = by (last_in kept) k.past rises;
      widest = rw k.widest (widest_rises o h probe.target (last_probe o probe.target h) (widest_gap o probe.target h) s
          run.1 w);
    }
  where
    by : (last : Option ProbeStart) → IfSome last (λ start. start.joins ≤ before) →
        IfSome (gap_since (last_at before last) probe.number) (λ g. g.a ≤ g.b)
        → IfSome last (λ start. (start.joins ≤ before) × (start.number ≤ probe.number))
    by None past rises = tt
    by (Some start) past rises = (past, rises)
