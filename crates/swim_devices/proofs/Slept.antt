-- That each tick was slept before it was given.
use Rattle.std.proofs.Common.{◌≡◌, ℕ, ◌+◌, ◌-◌, ◌≤◌, List, [], ◌∷◌, ◌++◌, map, Option, Some, None, ap, ◌∙◌, arith}
use Rattle.std.specs.List.{sum_by}
use Rattle.std.proofs.lemmas.List.Sums.{sum_by-append}
use Rattle.swim_trail.specs.Noted.{map_more, value_in}
use Rattle.swim_work.specs.declared.paces.Beat.{Beat}
use Rattle.swim_work.specs.declared.paces.Beat.TheVariants.{Tick, Idle}
use Rattle.swim_devices.specs.Pacing.{HasSlept, IsSlept, over_with}

-- what is over once one more beat was noted
over_more : (tick : ℕ) (old new : List (Beat × List ℕ)) (b : Beat) (bytes : List ℕ) → new ≡ old ++ (b, bytes) ∷ [] →
    sum_by (over_with tick) (map value_in new) ≡ sum_by (over_with tick) (map value_in old) + over_with tick b
over_more tick old new b bytes is =
    let both = sum_by-append (over_with tick) (map value_in old) (b ∷ []) in
    ap (sum_by (over_with tick)) (map_more value_in old new (b, bytes) is) ∙ omega (arith, both)

sum_idle : (m m' tick left time left' old new : ℕ) → m' ≡ m + 0 → left' ≡ left - time → time ≤ left → left ≤ tick →
    m + (tick - left) ≤ old → new ≡ old + time → m' + (tick - left') ≤ new
sum_idle m m' tick left time left' old new is now within small s more = omega (arith, is, now, within, small, s, more)

sum_tick : (m m' tick left time old new : ℕ) → m' ≡ m + tick → left ≤ time → left ≤ tick →
    m + (tick - left) ≤ old → new ≡ old + time → m' + (tick - tick) ≤ new
sum_tick m m' tick left time old new is over small s more = omega (arith, is, over, small, s, more)

pub none_slept : (slept : Option ℕ) (tick : ℕ) → IsSlept slept tick tick []
none_slept None tick = tt
none_slept (Some slept) tick = (omega arith, omega arith)

pub idle_slept : (old new : Option ℕ) (tick left time left' : ℕ) (before after : List (Beat × List ℕ))
    (bytes : List ℕ) → left' ≡ left - time → time ≤ left → HasSlept old time new →
    after ≡ before ++ (Idle, bytes) ∷ [] → IsSlept old tick left (map value_in before) →
    IsSlept new tick left' (map value_in after)
idle_slept None None tick left time left' before after bytes now within has is s = tt
idle_slept None (Some new) tick left time left' before after bytes now within has is s = absurd has
idle_slept (Some old) None tick left time left' before after bytes now within has is s = absurd has
idle_slept (Some old) (Some new) tick left time left' before after bytes now within has is s = (
  omega (arith, now, s.0),
  sum_idle (sum_by (over_with tick) (map value_in before)) (sum_by (over_with tick) (map value_in after)) tick left time
      left' old new (over_more tick before after Idle bytes is) now within s.0 s.1 has,
)

pub tick_slept : (old new : Option ℕ) (tick left time : ℕ) (before after : List (Beat × List ℕ)) (bytes : List ℕ) →
    left ≤ time → HasSlept old time new → after ≡ before ++ (Tick, bytes) ∷ [] →
    IsSlept old tick left (map value_in before) → IsSlept new tick tick (map value_in after)
tick_slept None None tick left time before after bytes over has is s = tt
tick_slept None (Some new) tick left time before after bytes over has is s = absurd has
tick_slept (Some old) None tick left time before after bytes over has is s = absurd has
tick_slept (Some old) (Some new) tick left time before after bytes over has is s = (
  omega arith,
  sum_tick (sum_by (over_with tick) (map value_in before)) (sum_by (over_with tick) (map value_in after)) tick left time
      old new (over_more tick before after Tick bytes is) over s.0 s.1 has,
)
