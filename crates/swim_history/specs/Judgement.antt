-- The judgement rule: a member is judged exactly at the end of a period aimed at it without an ack for
-- that period (section 3.1 of the SWIM paper).
use Rattle.std.specs.Prelude.{◌≡◌, ◌↔◌, ℕ, false, List, [], ◌∷◌, ◌++◌, Option, Some, true}
use Rattle.std.specs.List.{list_any}
use Rattle.std.specs.Option.{option_to_list, option_map}
use Rattle.swim_history.specs.declared.replies.Probe.{Probe}
use Rattle.swim_history.specs.declared.entries.Entry.{Entry}
use Rattle.swim_history.specs.declared.journals.Judged.{Judged}
use Rattle.swim_history.specs.Setting.{Setting}
use Rattle.swim_history.specs.Events.{is_start, probe_in, judged_in, removes, acks}
use Rattle.swim_history.specs.Clock.{period_number}

-- the history ends with a period aimed at the member: its last start probed the member, and after it stands
-- neither a removal of the member nor an ack of it for that period
pub record EndsUnheard (o : Setting) (h : List Entry) (m : ℕ) : Type 0 where
  pub period : List Entry
  pub start : Entry
  pub before : List Entry
  pub probe : Probe
  pub split : h ≡ period ++ start ∷ before
  pub starts : is_start start ≡ true
  pub last : list_any is_start period ≡ false
  pub probes : probe_in start.reply ≡ Some probe
  pub aimed : probe.target ≡ m
  pub stays : list_any (removes m) period ≡ false
  pub unheard : list_any (acks o.me m probe.number) period ≡ false

-- what a start judges, with the number of the period that it ends
abbrev pub judgement : ℕ → Option ℕ → Option Judged
judgement number judged = option_map (λ m. record { member = m; number = number }) judged

-- the judgements of a history, oldest first
abbrev pub judgements : Setting → List Entry → List Judged
judgements o [] = []
judgements o (e ∷ before) =
    judgements o before ++ option_to_list (judgement (period_number o before) (judged_in e.reply))

-- in a history, each judgement is one by the rule, and each case of the rule is judged
abbrev pub JudgesByRule : Setting → List Entry → Type 0
JudgesByRule o h =
    (newer : List Entry) → (e : Entry) → (before : List Entry) → h ≡ newer ++ e ∷ before → is_start e ≡ true →
    (m : ℕ) → (judged_in e.reply ≡ Some m) ↔ EndsUnheard o before m
