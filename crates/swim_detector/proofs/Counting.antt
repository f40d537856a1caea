-- How many calls of each seat stand in a history.
use Rattle.std.proofs.Common.{◌≡◌, ℕ, suc, ◌+◌, ◌<◌, ◌≤◌, Bool, true, false, List, [], ◌∷◌, length, get_or, set, cond}
use Rattle.std.proofs.Common.{refl, sym, subst, ◌∙◌, arith}
use Rattle.std.specs.Prelude.{◌==◌, filter}
use Rattle.std.proofs.lemmas.Bool.{eqb-true, eqb-false, eq-eqb}
use Rattle.std.proofs.lemmas.List.{get_or-set_same, get_or-set_other}
use Rattle.swim_history.specs.declared.entries.Entry.{Entry}
use Rattle.swim_history.specs.Run.{calls_of}
use Rattle.swim_detector.specs.Mirrors.{Counts}

-- there are no more than entries
pub calls_within : (seat : ℕ) (h : List Entry) → calls_of seat h ≤ length h
calls_within seat [] = omega arith
calls_within seat (e ∷ h) = by (e.seat == seat) (calls_within seat h)
  where
    by : (b : Bool) → calls_of seat h ≤ length h →
        length (cond b (e ∷ filter (λ e. e.seat == seat) h) (filter (λ e. e.seat == seat) h)) ≤ suc (length h)
    by true within = omega (arith, within)
    by false within = omega (arith, within)

-- one more call of a seat
pub counted : (h : List Entry) (e : Entry) (counts : List ℕ) (limit : ℕ) → Counts h counts limit → length counts ≡ 4 →
    e.seat < 4 → length h < limit →
    Counts (e ∷ h) (set counts e.seat (get_or counts e.seat 0 + 1)) limit
counted h e counts limit c four below room = record {
  seats = λ seat small. by seat small (e.seat == seat) refl;
  within = omega (arith, room);
}
  where
    by : (seat : ℕ) → seat < 4 → (b : Bool) → (e.seat == seat) ≡ b →
        get_or (set counts e.seat (get_or counts e.seat 0 + 1)) seat 0 ≡ calls_of seat (e ∷ h)
    by seat small true is =
        subst (λ s. get_or (set counts e.seat (get_or counts e.seat 0 + 1)) s 0 ≡ calls_of s (e ∷ h))
        (eqb-true e.seat seat is)
        (rw (eq-eqb e.seat e.seat refl)
        (get_or-set_same counts e.seat (get_or counts e.seat 0 + 1) 0 (omega (arith, four, below)) ∙
        omega (arith, c.seats e.seat below)))
    by seat small false is =
        rw is (get_or-set_other counts e.seat seat (get_or counts e.seat 0 + 1) 0
        (λ same. eqb-false e.seat seat is (sym same)) ∙ c.seats seat small)
