-- The pings and the ticks of one entry more.
use Rattle.std.proofs.Common.{◌≡◌, ℕ, ◌+◌, ◌-◌, ◌^◌, ◌<◌, Bool, true, false, cond, List, ◌∷◌, length, min}
use Rattle.std.proofs.Common.{ap₂, ◌∙◌, arith}
use Rattle.std.specs.Prelude.{filter}
use Rattle.swim_history.specs.declared.entries.Entry.{Entry}
use Rattle.swim_history.specs.Clock.{ticks}
use Rattle.swim_history.specs.Events.{is_tick, is_ticking}
use Rattle.swim_history.specs.Laws.UntilProbed.{length-filter-le}
use Rattle.swim_trace.specs.declared.beats.Rhythm.{Rhythm}
use Rattle.swim_trace.specs.Beats.{Follows, beat_in, beats, kept_of, ticks_with, with_beat}
use Rattle.swim_trace.proofs.Reaches.{with_beat_is}

one_more_tick : (b : Bool) (count : ℕ) (e : Entry) (ticking : List Entry) → count ≡ length ticking → count < 2 ^ 32 →
    cond b (min (count + 1) (2 ^ 64 - 1)) count ≡ length (cond b (e ∷ ticking) ticking)
one_more_tick true count e ticking is few = omega (arith, is, few)
one_more_tick false count e ticking is few = is

-- where what an entry adds is added to what is known of those before it
pub one_more_follows : (me place : ℕ) (h : List Entry) (e : Entry) (old new : Rhythm) → Follows me h old →
    place ≡ length h → place < 2 ^ 32 →
    ((m : ℕ) → kept_of m new ≡ with_beat m (beat_in me place old.ticks e.call) (kept_of m old)) →
    new.ticks ≡ ticks_with old.ticks e.call e.reply → Follows me (e ∷ h) new
one_more_follows me place h e old new is counts fits added ticked = record {
  beats = λ m.
      let same : beat_in me place old.ticks e.call ≡ beat_in me (length h) (ticks h) e.call =
      ap₂ (λ p t. beat_in me p t e.call) counts is.ticks in
      added m ∙ (ap₂ (with_beat m) same (is.beats m)
      ∙ with_beat_is m (beats me h) (beat_in me (length h) (ticks h) e.call));
  ticks =
      let few : old.ticks < 2 ^ 32 = omega (arith, is.ticks, counts, fits, length-filter-le is_tick h) in
      ticked ∙ one_more_tick (is_ticking e.call e.reply) old.ticks e (filter is_tick h) is.ticks few;
}
