-- The judgements that are told are those of the history.
use Rattle.std.proofs.Common.{◌≡◌, ℕ, Bool, true, false, cond, List, [], ◌∷◌, ◌++◌, length, map, ◌-◌, Option, Some}
use Rattle.std.proofs.Common.{None, refl, sym, ap, ap₂, subst, ◌∙◌, append_assoc}
use Rattle.std.proofs.lemmas.Bool.{or_parts}
use Rattle.std.specs.Prelude.{slice_get}
use Rattle.std.specs.List.{list_any}
use Rattle.std.specs.Option.{option_to_list}
use Rattle.swim_history.specs.declared.calls.Call.{Call}
use Rattle.swim_history.specs.declared.replies.Probe.{Probe}
use Rattle.swim_history.specs.declared.replies.Reply.{Reply}
use Rattle.swim_history.specs.declared.replies.Reply.TheVariants.{Started}
use Rattle.swim_history.specs.declared.entries.Entry.{Entry}
use Rattle.swim_history.specs.Setting.{Setting, IsSetting}
use Rattle.swim_history.specs.Events.{is_start, is_starting, probe_in, judged_in}
use Rattle.swim_history.specs.Clock.{period_number}
use Rattle.swim_history.specs.Run.{IsRun}
use Rattle.swim_history.specs.Judgement.{EndsUnheard, judgement, judgements}
use Rattle.swim_history.specs.Laws.Run.{IsRun-older, number_between}
use Rattle.swim_history.specs.Laws.Judgement.{judges_by_rule, started_number}
use Rattle.swim_evidence.specs.declared.findings.Finding.{Finding}
use Rattle.swim_evidence.specs.declared.findings.Finding.TheVariants.{Late, Other}
use Rattle.swim_evidence.specs.declared.findings.Stray.{Stray}
use Rattle.swim_evidence.specs.declared.trails.Probing.{Probing}
use Rattle.swim_evidence.specs.Evidence.{probing, strays, judged_by_starts, is_judged, stray_in, late, found_in}
use Rattle.swim_evidence.specs.Evidence.{findings, told_in, judgements_told}

judgements_told-append : (xs ys : List Finding) → judgements_told (xs ++ ys) ≡ judgements_told xs ++ judgements_told ys
judgements_told-append [] ys = refl
judgements_told-append (x ∷ xs) ys =
    ap (λ t. told_in x ++ t) (judgements_told-append xs ys) ∙
    sym (append_assoc (told_in x) (judgements_told xs) (judgements_told ys))

-- strays are no judgements
none_of_strays : (xs : List Stray) → judgements_told (map Other xs) ≡ []
none_of_strays [] = refl
none_of_strays (x ∷ xs) = none_of_strays xs

none_late : (judged : List (Option ℕ)) (last : ℕ) (stray : Option Stray) → judgements_told (late judged last stray) ≡ []
none_late judged last None = refl
none_late judged last (Some stray) = by (is_judged (slice_get judged (stray.number - last)) stray.member) where
  by : (b : Bool) → judgements_told (cond b (Late stray ∷ []) []) ≡ []
  by true = refl
  by false = refl

-- the start of the period that runs
probing_at : (period : List Entry) (start : Entry) (before : List Entry) (probe : Probe) →
    list_any is_start period ≡ false →
    is_start start ≡ true → probe_in start.reply ≡ Some probe →
    probing (period ++ start ∷ before) ≡ Some (record { place = length before; probe = probe })
probing_at [] start before probe none starts probes = rw (starts, probes) refl
probing_at (e ∷ period) start before probe none starts probes =
    let parts = or_parts (is_start e) (list_any is_start period) none in
    rw parts.0 (probing_at period start before probe parts.1 starts probes)

-- whoever is judged was probed in the period that ends
probed_in : (o : Setting) (h : List Entry) (m : ℕ) → IsSetting o → IsRun o h → EndsUnheard o h m →
    (p : Probing) × (probing h ≡ Some p) × (p.probe.number ≡ period_number o h)
probed_in o h m s run r =
    let whole = subst (λ (x : List Entry). IsRun o x) r.split run in
    let number : r.probe.number ≡ period_number o (r.period ++ r.start ∷ r.before) =
    started_number o r.before r.start r.probe s (IsRun-older o r.period (r.start ∷ r.before) whole).0 r.starts r.probes
    ∙ sym (number_between o r.period (r.start ∷ r.before) s whole r.last) in (
      record { place = length r.before; probe = r.probe },
      ap probing r.split ∙ probing_at r.period r.start r.before r.probe r.last r.starts r.probes,
      number ∙ ap (period_number o) (sym r.split),
    )

-- a reply that judges is a start's
starts_where : (reply : Reply) (m : ℕ) → judged_in reply ≡ Some m → is_starting reply ≡ true
starts_where (Started judged probe) m is = refl
starts_where reply m is = absurd cc

told_of : (o : Setting) (h : List Entry) (call : Call) (reply : Reply) → IsSetting o → IsRun o h →
    ((m : ℕ) → judged_in reply ≡ Some m → EndsUnheard o h m) →
    judgements_told (found_in o h call reply) ≡ option_to_list (judgement (period_number o h) (judged_in reply))
told_of o h call (Started None probe) s run rule = refl
told_of o h call (Started (Some m) probe) s run rule =
    let p = probed_in o h m s run (rule m refl) in
    rw (p.1, none_of_strays (strays h), p.2) refl
told_of o h call reply s run rule = none_late (judged_by_starts h) o.last (stray_in (length h) call reply)

pub judgements_are_told : (o : Setting) (h : List Entry) → IsSetting o → IsRun o h →
    judgements_told (findings o h) ≡ judgements o h
judgements_are_told o [] s run = refl
judgements_are_told o (e ∷ before) s run =
    let rule : (m : ℕ) → judged_in e.reply ≡ Some m →
    EndsUnheard o before m =
    λ m is. (judges_by_rule o (e ∷ before) s run [] e before refl (starts_where e.reply m is) m).0 is in
    judgements_told-append (findings o before) (found_in o before e.call e.reply)
    ∙ ap₂ (λ x y. x ++ y) (judgements_are_told o before s run.1) (told_of o before e.call e.reply s run.1 rule)
