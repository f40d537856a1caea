-- Laws of runs: what a start is, and what each entry does to the clock.
use Rattle.std.proofs.Common.{◌≡◌, ◌≢◌, ◌⊎◌, ◌↔◌, ℕ, ◌+◌, true, false, cond, List, [], ◌∷◌, ◌++◌, Option, Some, None}
use Rattle.std.proofs.Common.{refl, sym, ap, ◌∙◌, inl, inr, arith}
use Rattle.std.proofs.lemmas.Bool.{false≢true, or_parts}
use Rattle.std.specs.List.{list_any}
use Rattle.swim_wire.specs.Address.{Address}
use Rattle.swim_wire.specs.declared.messages.Kind.{Kind}
use Rattle.swim_wire.specs.declared.messages.Kind.TheVariants.{Ping, PingReq, Ack}
use Rattle.swim_wire.specs.Messages.{Message}
use Rattle.swim_history.specs.declared.calls.Call.{Call}
use Rattle.swim_history.specs.declared.calls.Call.TheVariants.{Tick, Hear, Join, Remove}
use Rattle.swim_history.specs.declared.replies.Reply.{Reply}
use Rattle.swim_history.specs.declared.replies.Reply.TheVariants.{Quiet, Started, Asked, Joined, Removed, Refused}
use Rattle.swim_history.specs.declared.replies.Probe.{Probe}
use Rattle.swim_history.specs.declared.replies.Refusal.TheVariants.{Spent}
use Rattle.swim_history.specs.declared.entries.Choice.{Choice}
use Rattle.swim_history.specs.declared.entries.Choice.TheVariants.{Nothing, Round}
use Rattle.swim_history.specs.declared.entries.Entry.{Entry}
use Rattle.swim_history.specs.Setting.{Setting, IsSetting}
use Rattle.swim_history.specs.Events.{is_ticking, is_tick, is_starting, is_start}
use Rattle.swim_history.specs.Clock.{period_number, phase, ticks}
use Rattle.swim_history.specs.Laws.Clock.{number_at-start, number_at-within}
use Rattle.swim_history.specs.Run.{Answers, Hears, IsStart, IsProbe, Continues, IsRun}

-- no message begins a period
pub hears_no_start : (o : Setting) (h : List Entry) (m : Message) (source : Address) (kind : Kind) (reply : Reply) →
    Hears o h m source kind reply → is_starting reply ≡ false
hears_no_start o h m source Ping (Started judged probe) a = absurd a
hears_no_start o h m source PingReq (Started judged probe) a = absurd a
hears_no_start o h m source Ack (Started judged probe) a = absurd a
hears_no_start o h m source kind reply a = refl

-- what a reply that begins a period says
pub record Begins (o : Setting) (h : List Entry) (call : Call) (reply : Reply) (choice : Choice) : Type 0 where
  pub judged : Option ℕ
  pub probe : Option Probe
  pub ticks : call ≡ Tick
  pub says : reply ≡ Started judged probe
  pub fits : IsStart o h judged probe choice

pub begins : (o : Setting) (h : List Entry) (call : Call) (reply : Reply) (choice : Choice) →
    Answers o h call reply choice → is_starting reply ≡ true → Begins o h call reply choice
begins o h Tick (Started judged probe) choice a starts =
    record { judged = judged; probe = probe; ticks = refl; says = refl; fits = a }
begins o h (Hear source m) reply Nothing a starts =
    absurd (false≢true (sym (hears_no_start o h m source m.kind reply a) ∙ starts))
begins o h (Hear source m) reply (Round order) a starts = absurd a
begins o h (Join id peer) (Started judged probe) choice a starts = absurd a
begins o h (Remove id) (Started judged probe) choice a starts = absurd a
begins o h call reply choice a starts = absurd cc

-- an accepted tick that begins no period
pub record Passes (o : Setting) (h : List Entry) (call : Call) (reply : Reply) : Type 0 where
  pub ticks : is_ticking call reply ≡ true
  pub starts : is_starting reply ≡ false
  pub within : phase o h ≢ 0

-- no accepted tick
pub record Stands (call : Call) (reply : Reply) : Type 0 where
  pub ticks : is_ticking call reply ≡ false
  pub starts : is_starting reply ≡ false

-- an accepted tick that begins a period
pub record Starts (o : Setting) (h : List Entry) (call : Call) (reply : Reply) : Type 0 where
  pub ticks : is_ticking call reply ≡ true
  pub starts : is_starting reply ≡ true
  pub at : phase o h ≡ 0

-- an entry begins a period at phase 0, is another accepted tick at another phase, or is none
pub moves : (o : Setting) (h : List Entry) (call : Call) (reply : Reply) (choice : Choice) → IsSetting o →
    Answers o h call reply choice → Starts o h call reply ⊎ (Passes o h call reply ⊎ Stands call reply)
moves o h Tick (Refused Spent) Nothing s a = inr (inr (record { ticks = refl; starts = refl }))
moves o h Tick (Started judged probe) choice s a = inl (record { ticks = refl; starts = refl; at = a.begins })
moves o h Tick (Asked m peer number relays) Nothing s a =
    inr (inl (record { ticks = refl; starts = refl; within = λ e. omega (arith, a.0, s.timing.0) }))
moves o h Tick Quiet Nothing s a = inr (inl (record { ticks = refl; starts = refl; within = a.0 }))
moves o h (Hear source m) reply Nothing s a =
    inr (inr (record { ticks = refl; starts = hears_no_start o h m source m.kind reply a }))
moves o h (Join id peer) (Refused why) choice s a = inr (inr (record { ticks = refl; starts = refl }))
moves o h (Join id peer) (Joined place) choice s a = inr (inr (record { ticks = refl; starts = refl }))
moves o h (Remove id) (Refused why) choice s a = inr (inr (record { ticks = refl; starts = refl }))
moves o h (Remove id) Removed choice s a = inr (inr (record { ticks = refl; starts = refl }))
moves o h call reply choice s a = absurd a

-- the number and the phase after an entry: the number rises by one exactly at starts
pub period_number-start : (o : Setting) (h : List Entry) (e : Entry) → IsSetting o → is_tick e ≡ true → phase o h ≡ 0 →
    period_number o (e ∷ h) ≡ period_number o h + 1
period_number-start o h e s ticking at =
    rw ticking (number_at-start o.last o.period (ticks h) (omega (arith, s.timing.0, s.timing.1)) at)

pub period_number-within : (o : Setting) (h : List Entry) (e : Entry) → IsSetting o → is_tick e ≡ true → phase o h ≢ 0 →
    period_number o (e ∷ h) ≡ period_number o h
period_number-within o h e s ticking inside =
    rw ticking (number_at-within o.last o.period (ticks h) (omega (arith, s.timing.0, s.timing.1)) inside)

pub period_number-same : (o : Setting) (h : List Entry) (e : Entry) → is_tick e ≡ false →
    period_number o (e ∷ h) ≡ period_number o h
period_number-same o h e idle = rw idle refl

pub number_then : (o : Setting) (h : List Entry) (e : Entry) → IsSetting o → Continues o h e →
    period_number o (e ∷ h) ≡ cond (is_start e) (period_number o h + 1) (period_number o h)
number_then o h e s c =
    elim (moves o h e.call e.reply e.choice s c.answer) [
      | inl start ↦ rw start.starts (period_number-start o h e s start.ticks start.at)
      | inr (inl pass) ↦ rw pass.starts (period_number-within o h e s pass.ticks pass.within)
      | inr (inr stand) ↦ rw stand.starts (period_number-same o h e stand.ticks)
    ]

-- an entry is a start exactly where it is an accepted tick at phase 0
pub start_by_clock : (o : Setting) (h : List Entry) (e : Entry) → IsSetting o → Continues o h e →
    (is_start e ≡ true) ↔ ((is_tick e ≡ true) × (phase o h ≡ 0))
start_by_clock o h e s c =
    elim (moves o h e.call e.reply e.choice s c.answer) [
      | inl start ↦ (λ _. (start.ticks, start.at), λ _. start.starts)
      | inr (inl pass) ↦ (λ t. absurd (false≢true (sym pass.starts ∙ t)), λ p. absurd (pass.within p.1))
      | inr (inr stand) ↦
          (λ t. absurd (false≢true (sym stand.starts ∙ t)), λ p. absurd (false≢true (sym stand.ticks ∙ p.0)))
    ]

-- a run's older part is a run
pub IsRun-older : (o : Setting) (newer before : List Entry) → IsRun o (newer ++ before) → IsRun o before
IsRun-older o [] before run = run
IsRun-older o (e ∷ newer) before run = IsRun-older o newer before run.1

-- as long as no period begins, the number stays
pub number_between : (o : Setting) (newer before : List Entry) → IsSetting o → IsRun o (newer ++ before) →
    list_any is_start newer ≡ false → period_number o (newer ++ before) ≡ period_number o before
number_between o [] before s run none = refl
number_between o (e ∷ newer) before s run none =
    let parts = or_parts (is_start e) (list_any is_start newer) none in
    let step = number_then o (newer ++ before) e s run.0 in
    rw parts.0 at step ∙ number_between o newer before s run.1 parts.1

-- a probe has the number of the period that it begins
pub probe_number : (o : Setting) (h : List Entry) (number : ℕ) (next : Option ℕ) (probe : Probe) →
    IsProbe o h number next (Some probe) → probe.number ≡ number
probe_number o h number None probe p = absurd cc
probe_number o h number (Some m) probe p = ap (λ (o : Option Probe). number_or number o) p.2
  where
    number_or : ℕ → Option Probe → ℕ
    number_or n None = n
    number_or n (Some probe) = probe.number
