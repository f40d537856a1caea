-- Gaps between successive probes of a member that is listed all the time between.
use Rattle.std.specs.Prelude.{◌≡◌, ◌+◌, ◌-◌, ◌*◌, ◌<◌, ◌≤◌, ℕ, Bool, ◌||◌, true, false, ◌==◌, List, ◌∷◌, ◌++◌, length}
use Rattle.std.specs.Prelude.{filter, Option, Some, None}
use Rattle.std.specs.List.{list_any}
use Rattle.swim_history.specs.declared.calls.Call.{Call}
use Rattle.swim_history.specs.declared.replies.Reply.{Reply}
use Rattle.swim_history.specs.declared.replies.Probe.{Probe}
use Rattle.swim_history.specs.declared.entries.Entry.{Entry}
use Rattle.swim_history.specs.Setting.{Setting}
use Rattle.swim_history.specs.Events.{is_start, probe_in, judged_in, is_removing, joins}
use Rattle.swim_history.specs.Rows.{is_listed}
use Rattle.swim_history.specs.Round.{listed}

-- whether it is this member
abbrev pub is_member : ℕ → Option ℕ → Bool
is_member m None = false
is_member m (Some id) = id == m

abbrev pub is_probe_of : ℕ → Option Probe → Bool
is_probe_of m None = false
is_probe_of m (Some probe) = probe.target == m

-- the entry is a start that probes the member
abbrev pub probes_member : ℕ → Entry → Bool
probes_member m e = is_probe_of m (probe_in e.reply)

-- the member is no longer listed after the entry: it is removed or judged
abbrev pub is_unlisting : ℕ → Call → Reply → Bool
is_unlisting m call reply = is_removing m call reply || is_member m (judged_in reply)

abbrev pub unlists : ℕ → Entry → Bool
unlists m e = is_unlisting m e.call e.reply

-- two probes of the member, in the periods a and b, with none between, and the member listed all the time
-- between; n is how many were listed just after the first, and how many joined between
pub record IsGap (o : Setting) (h : List Entry) (m a b n : ℕ) : Type 0 where
  pub newer : List Entry
  pub second : Entry
  pub between : List Entry
  pub first : Entry
  pub before : List Entry
  pub split : h ≡ newer ++ second ∷ (between ++ first ∷ before)
  pub from : Probe
  pub to : Probe
  pub probed : probe_in first.reply ≡ Some from
  pub again : probe_in second.reply ≡ Some to
  pub members : (from.target ≡ m) × (to.target ≡ m)
  pub numbers : (from.number ≡ a) × (to.number ≡ b)
  pub none_between : list_any (probes_member m) between ≡ false
  pub stays : list_any (unlists m) between ≡ false
  pub count : n ≡ length (listed o (first ∷ before)) + length (filter joins between)

-- no two probes of the member make a gap
abbrev pub HasNoGap : Setting → List Entry → ℕ → Type 0
HasNoGap o h m = (a b n : ℕ) → IsGap o h m a b n → ⊥

-- a gap of the member such that none is wider and no earlier one is as wide
pub record IsWidest (o : Setting) (h : List Entry) (m a b n : ℕ) : Type 0 where
  pub gap : IsGap o h m a b n
  pub none_wider : (a' b' n' : ℕ) → IsGap o h m a' b' n' → b' - a' ≤ b - a
  pub earliest : (a' b' n' : ℕ) → IsGap o h m a' b' n' → a' < a → b' - a' < b - a

-- the gaps of each member are at most 2 n - 1 periods wide
abbrev pub AreGapsBounded : Setting → List Entry → Type 0
AreGapsBounded o h = (m a b n : ℕ) → IsGap o h m a b n → (a < b) × (b - a ≤ 2 * n - 1)

-- some entries of a history, one after the other, such that the member is listed from just before the first of them
-- until after the last; n is how many are listed just before the first, and how many join in them
pub record IsStretch (o : Setting) (h : List Entry) (m n : ℕ) (stretch : List Entry) : Type 0 where
  pub newer : List Entry
  pub before : List Entry
  pub split : h ≡ newer ++ (stretch ++ before)
  pub listed_at_first : is_listed o before m ≡ true
  pub stays : list_any (unlists m) stretch ≡ false
  pub count : n ≡ length (listed o before) + length (filter joins stretch)

-- where at least 2 n - 1 starts stand in such entries, as from one start until after another, one of them probes the
-- member
abbrev pub IsProbedInTime : Setting → List Entry → Type 0
IsProbedInTime o h =
    (m n : ℕ) → (stretch : List Entry) → IsStretch o h m n stretch → 2 * n - 1 ≤ length (filter is_start stretch) →
    list_any (probes_member m) stretch ≡ true
