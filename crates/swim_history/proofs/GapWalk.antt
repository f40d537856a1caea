-- Along a run: what the last probe of a member is after each entry, and its widest gap.
use Rattle.std.proofs.Common.{◌≡◌, ℕ, ◌+◌, ◌-◌, ◌<◌, ◌≤◌, ◌⊎◌, ◌↔◌, inl, inr, Bool, true, false, cond, nat_lt, List, []}
use Rattle.std.proofs.Common.{◌∷◌, ◌++◌, length, Option, Some, None, refl, sym, ap, subst, ◌∙◌, arith}
use Rattle.std.proofs.lemmas.Bool.{ltb-true, ltb-false}
use Rattle.std.proofs.lemmas.Option.{same_Some}
use Rattle.std.specs.Prelude.{option_and_then, IfSome}
use Rattle.std.specs.Option.{option_map}
use Rattle.swim_history.specs.declared.replies.Probe.{Probe}
use Rattle.swim_history.specs.declared.entries.Entry.{Entry}
use Rattle.swim_history.specs.declared.gaps.Gap.{Gap}
use Rattle.swim_history.specs.declared.gaps.LastProbe.{LastProbe}
use Rattle.swim_history.specs.Setting.{Setting, IsSetting}
use Rattle.swim_history.specs.Events.{probe_in, joins}
use Rattle.swim_history.specs.Clock.{period_number}
use Rattle.swim_history.specs.Round.{listed}
use Rattle.swim_history.specs.Run.{IsRun}
use Rattle.swim_history.specs.Laws.Run.{IsRun-older}
use Rattle.swim_history.specs.Laws.Judgement.{started_number, map_some}
use Rattle.swim_history.specs.Gap.{probes_member, unlists, IsGap, HasNoGap, IsWidest}
use Rattle.swim_history.specs.Laws.Gap.{number_after, probing_starts, gap_bound}
use Rattle.swim_history.specs.LastProbe.{probed_at, with_joiner, kept, last_of, last_then, gap_since, gap_then, wider}
use Rattle.swim_history.specs.LastProbe.{last_probe, widest_gap}
use Rattle.swim_history.proofs.LastProbes.{IsLast, no_split, ProbesIt, probes_it, probes_other, last_new, only_last}
use Rattle.swim_history.proofs.LastProbes.{was_last, still_last, gap_older, gap_new, gap_cases}

-- what is known of them after a history
pub record IsWalked (o : Setting) (h : List Entry) (m : ℕ) (last : Option LastProbe) (widest : Option Gap) : Type
    0 where
  pub last_is : (l : LastProbe) → last ≡ Some l → IsLast o h m l.number l.n
  pub last_found : (a n : ℕ) → IsLast o h m a n → last ≡ Some (record { number = a; n = n })
  pub widest_is : (g : Gap) → widest ≡ Some g → IsWidest o h m g.a g.b g.n
  pub widest_found : widest ≡ None → HasNoGap o h m
  pub in_order : (l : LastProbe) (g : Gap) → last ≡ Some l → widest ≡ Some g → g.a ≤ l.number

pub walked_none : (o : Setting) (m : ℕ) → IsWalked o [] m None None
walked_none o m = record {
  last_is = λ l is. absurd cc;
  last_found = λ a n last. absurd (no_split last.between last.first last.before last.split);
  widest_is = λ g is. absurd cc;
  widest_found = λ is a b n gap. no_split gap.newer gap.second (gap.between ++ gap.first ∷ gap.before) gap.split;
  in_order = λ l g is are. absurd cc;
}

-- ---- what is kept after one more entry

joined_number : (joined : Bool) (l : LastProbe) → (with_joiner joined l).number ≡ l.number
joined_number true l = refl
joined_number false l = refl

joined_members : (joined : Bool) (l : LastProbe) → (with_joiner joined l).n ≡ l.n + cond joined 1 0
joined_members true l = refl
joined_members false l = omega arith

joined_is : (joined : Bool) (a n members : ℕ) → n ≡ members + cond joined 1 0 →
    with_joiner joined (record { number = a; n = members }) ≡ record { number = a; n = n }
joined_is true a n members more = ap (λ (x : ℕ). record { number = a; n = x }) (sym more)
joined_is false a n members more = let same : members ≡ n = omega arith in
    ap (λ (x : ℕ). record { number = a; n = x }) same

-- what is kept was kept before
record WasKept (m : ℕ) (e : Entry) (last : Option LastProbe) (l : LastProbe) : Type 0 where
  pub stays : unlists m e ≡ false
  pub before : LastProbe
  pub was : last ≡ Some before
  pub is : with_joiner (joins e) before ≡ l

was_kept : (m : ℕ) (e : Entry) (last : Option LastProbe) (l : LastProbe) → kept m e.call e.reply last ≡ Some l →
    WasKept m e last l
was_kept m e last l is = by (unlists m e) refl is
  where
    by : (b : Bool) → unlists m e ≡ b → cond b None (option_map (with_joiner (joins e)) last) ≡ Some l →
        WasKept m e last l
    by true gone is = absurd cc
    by false stays is =
        let found = map_some (with_joiner (joins e)) last l is in
        record { stays = stays; before = found.0; was = found.1; is = found.2 }

pub wider_none : (widest : Option Gap) → wider widest None ≡ widest
wider_none None = refl
wider_none (Some g) = refl

-- the widest gap stays so where no other is wider, and none that is as wide is earlier
still_widest : (o : Setting) (h : List Entry) (e : Entry) (m : ℕ) (g : Gap) → IsWidest o h m g.a g.b g.n
    → ((a b n : ℕ) → IsGap o (e ∷ h) m a b n → IsGap o h m a b n ⊎ ((b - a ≤ g.b - g.a) × (g.a ≤ a))) →
    IsWidest o (e ∷ h) m g.a g.b g.n
still_widest o h e m g w cases = record {
  gap = gap_older o h e m g.a g.b g.n w.gap;
  none_wider = λ a b n gap. elim (cases a b n gap) [ inl old ↦ w.none_wider a b n old | inr narrow ↦ narrow.0 ];
  earliest = λ a b n gap lt.
      elim (cases a b n gap) [ inl old ↦ w.earliest a b n old lt | inr narrow ↦ absurd (omega (arith, narrow.1, lt)) ];
}

-- an entry that doesn't probe the member
walked_past : (o : Setting) (h : List Entry) (e : Entry) (m : ℕ) (last : Option LastProbe) (widest : Option Gap) →
    probed_at m e.reply ≡ None → IsWalked o h m last widest → IsWalked o (e ∷ h) m (kept m e.call e.reply last) widest
walked_past o h e m last widest at w = record {
  last_is = λ l is.
      let was = was_kept m e last l is in
      let still = still_last o h e m was.before.number was.before.n other was.stays (w.last_is was.before was.was) in
      subst (λ (l : LastProbe). IsLast o (e ∷ h) m l.number l.n) was.is
      (rw (joined_number (joins e) was.before, joined_members (joins e) was.before) still);
  last_found = λ a n last.
      let was = was_last o h e m a n other last in
      rw (was.stays, w.last_found a was.members was.last)
      (ap (λ (l : LastProbe). Some l) (joined_is (joins e) a n was.members was.more));
  widest_is = λ g is. still_widest o h e m g (w.widest_is g is) (λ a b n gap. inl (no_new a b n gap));
  widest_found = λ is a b n gap. w.widest_found is a b n (no_new a b n gap);
  in_order = λ l g is are.
      let was = was_kept m e last l is in
      let same : was.before.number ≡ l.number = sym (joined_number (joins e) was.before) ∙
      ap (λ (l : LastProbe). l.number) was.is in
      omega (arith, w.in_order was.before g was.was are, same);
}
  where
    other : probes_member m e ≡ false
    other = probes_other m e at

    no_new : (a b n : ℕ) → IsGap o (e ∷ h) m a b n → IsGap o h m a b n
    no_new a b n gap = elim (gap_cases o h e m a b n gap) [ inl old ↦ old | inr new ↦ absurd cc (sym at ∙ new.1) ]

-- ---- numbers

-- a probe has a number that was used
probe_past : (o : Setting) (newer : List Entry) (e : Entry) (before : List Entry) (probe : Probe) → IsSetting o →
    IsRun o (newer ++ e ∷ before) → probe_in e.reply ≡ Some probe → probe.number ≤ period_number o (newer ++ e ∷ before)
probe_past o newer e before probe s run is =
    let began = IsRun-older o newer (e ∷ before) run in
    let number = started_number o before e probe s began.0 (probing_starts e.reply probe is) is in
    omega (arith, number, number_after o newer (e ∷ before) s run)

gap_past : (o : Setting) (h : List Entry) (m a b n : ℕ) → IsSetting o → IsRun o h → IsGap o h m a b n →
    b ≤ period_number o h
gap_past o h m a b n s run gap =
    let past = probe_past o gap.newer gap.second (gap.between ++ gap.first ∷ gap.before) gap.to s
    (subst (λ (h : List Entry). IsRun o h) gap.split run) gap.again in
    rw (gap.split, ← gap.numbers.1) past

-- the probe of the last entry has the last number
probe_now : (o : Setting) (h : List Entry) (e : Entry) (m b : ℕ) → IsSetting o → IsRun o (e ∷ h) → ProbesIt m e b →
    b ≡ period_number o (e ∷ h)
probe_now o h e m b s run it = sym it.number ∙
    started_number o h e it.probe s run.0 (probing_starts e.reply it.probe it.is) it.is

-- ---- an entry that probes the member

module _ (o : Setting) (h : List Entry) (e : Entry) (m b : ℕ) (last : Option LastProbe) (widest : Option Gap)
    (at : probed_at m e.reply ≡ Some b) (w : IsWalked o h m last widest) where
  -- a gap that it ends began with the last probe
  ends : (l : LastProbe) → last ≡ Some l → (a' b' n' : ℕ) → IsLast o h m a' n' × (probed_at m e.reply ≡ Some b') →
      (a' ≡ l.number) × (b' ≡ b)
  ends l is a' b' n' new =
      let same : record { number = a'; n = n' } ≡ l = same_Some _ l (sym (w.last_found a' n' new.0) ∙ is) in
      (ap (λ (x : LastProbe). x.number) same, same_Some b' b (sym new.1 ∙ at))

  -- it is the widest, where each that was there is narrower
  new_widest : (l : LastProbe) → last ≡ Some l → ((a' b' n' : ℕ) → IsGap o h m a' b' n' → b' - a' < b - l.number) →
      IsWidest o (e ∷ h) m l.number b l.n
  new_widest l is narrower = record {
    gap = gap_new o h e m l.number b l.n (probes_it m e b at) (w.last_is l is);
    none_wider = λ a' b' n' gap.
        elim (gap_cases o h e m a' b' n' gap) [
          | inl old ↦ omega (arith, narrower a' b' n' old)
          | inr new ↦ omega (arith, ends l is a' b' n' new)
        ];
    earliest = λ a' b' n' gap lt.
        elim (gap_cases o h e m a' b' n' gap) [
          | inl old ↦ narrower a' b' n' old
          | inr new ↦ absurd (omega (arith, ends l is a' b' n' new, lt))
        ];
  }

  -- no gap ends where none began
  none_ends : last ≡ None → (a' b' n' : ℕ) → IsGap o (e ∷ h) m a' b' n' → IsGap o h m a' b' n'
  none_ends none a' b' n' gap =
      elim (gap_cases o h e m a' b' n' gap) [
        | inl old ↦ old
        | inr new ↦ let found = w.last_found a' n' new.0 in absurd cc
      ]

  wider_is : (g : Gap) → wider widest (gap_since last b) ≡ Some g → IsWidest o (e ∷ h) m g.a g.b g.n
  wider_is g = by_last last refl
    where
      chosen : (l : LastProbe) → last ≡ Some l → (old : Gap) → widest ≡ Some old → (t : Bool) →
          nat_lt (old.b - old.a) (b - l.number) ≡ t
          → cond t (Some (record { a = l.number; b = b; n = l.n })) (Some old) ≡ Some g →
          IsWidest o (e ∷ h) m g.a g.b g.n
      chosen l was old are true less is =
          let lt = ltb-true (old.b - old.a) (b - l.number) less in
          subst (λ (g : Gap). IsWidest o (e ∷ h) m g.a g.b g.n) (same_Some _ g is)
          (new_widest l was (λ a' b' n' gap. omega (arith, lt, (w.widest_is old are).none_wider a' b' n' gap)))
      chosen l was old are false more is =
          let ge = ltb-false (old.b - old.a) (b - l.number) more in
          let order = w.in_order l old was are in
          subst (λ (g : Gap). IsWidest o (e ∷ h) m g.a g.b g.n) (same_Some old g is)
          (still_widest o h e m old (w.widest_is old are) (λ a' b' n' gap.
          elim (gap_cases o h e m a' b' n' gap) [
            | inl before ↦ inl before
            | inr new ↦ let same = ends l was a' b' n' new in inr (omega (arith, ge, same), omega (arith, order, same))
          ]))

      by_widest : (l : LastProbe) → last ≡ Some l → (found : Option Gap) → widest ≡ found →
          wider found (Some (record { a = l.number; b = b; n = l.n })) ≡ Some g → IsWidest o (e ∷ h) m g.a g.b g.n
      by_widest l was None none is =
          subst (λ (g : Gap). IsWidest o (e ∷ h) m g.a g.b g.n) (same_Some _ g is)
          (new_widest l was (λ a' b' n' gap. absurd (w.widest_found none a' b' n' gap)))
      by_widest l was (Some old) are is = chosen l was old are (nat_lt (old.b - old.a) (b - l.number)) refl is

      by_last : (found : Option LastProbe) → last ≡ found → wider widest (gap_since found b) ≡ Some g →
          IsWidest o (e ∷ h) m g.a g.b g.n
      by_last None none is =
          still_widest o h e m g (w.widest_is g (sym (wider_none widest) ∙ is))
          (λ a' b' n' gap. inl (none_ends none a' b' n' gap))
      by_last (Some l) was is = by_widest l was widest refl is

  wider_found : wider widest (gap_since last b) ≡ None → HasNoGap o (e ∷ h) m
  wider_found = by_last last refl
    where
      chosen : (t : Bool) (new old : Gap) → cond t (Some new) (Some old) ≡ None → ⊥
      chosen true new old is = absurd cc
      chosen false new old is = absurd cc

      by_widest : (new : Gap) (found : Option Gap) → wider found (Some new) ≡ None → ⊥
      by_widest new None is = absurd cc
      by_widest new (Some old) is = chosen (nat_lt (old.b - old.a) (new.b - new.a)) new old is

      by_last : (found : Option LastProbe) → last ≡ found → wider widest (gap_since found b) ≡ None →
          HasNoGap o (e ∷ h) m
      by_last None none is a' b' n' gap =
          w.widest_found (sym (wider_none widest) ∙ is) a' b' n' (none_ends none a' b' n' gap)
      by_last (Some l) was is a' b' n' gap = by_widest (record { a = l.number; b = b; n = l.n }) widest is

  walked_probe : IsSetting o → IsRun o (e ∷ h) →
      IsWalked o (e ∷ h) m (Some (record { number = b; n = length (listed o (e ∷ h)) }))
      (wider widest (gap_since last b))
  walked_probe s run = record {
    last_is = λ l is. subst (λ (l : LastProbe). IsLast o (e ∷ h) m l.number l.n) (same_Some _ l is)
        (last_new o h e m b it);
    last_found = λ a' n' found.
        let only = only_last o h e m a' b n' it found in
        ap (λ (x : ℕ). Some (record { number = x; n = length (listed o (e ∷ h)) })) (sym only.0) ∙
        ap (λ (x : ℕ). Some (record { number = a'; n = x })) (sym only.1);
    widest_is = wider_is;
    widest_found = wider_found;
    in_order = λ l g is are.
        let widest = wider_is g are in
        let now : l.number ≡ period_number o (e ∷ h) = ap (λ (x : LastProbe). x.number) (sym (same_Some _ l is)) ∙
        probe_now o h e m b s run it in
        omega (
          arith,
          now,
          gap_past o (e ∷ h) m g.a g.b g.n s run widest.gap,
          gap_bound o (e ∷ h) s run m g.a g.b g.n widest.gap,
        );
  }
    where
      it : ProbesIt m e b
      it = probes_it m e b at

-- ---- any entry

pub walked_then : (o : Setting) (h : List Entry) (e : Entry) (m : ℕ) (last : Option LastProbe) (widest : Option Gap) →
    IsSetting o → IsRun o (e ∷ h) → IsWalked o h m last widest
    → IsWalked o (e ∷ h) m (last_then m e.call e.reply (length (listed o (e ∷ h))) last)
    (wider widest (gap_then m e.reply last))
walked_then o h e m last widest s run w = by (probed_at m e.reply) refl
  where
    by : (found : Option ℕ) → probed_at m e.reply ≡ found →
        IsWalked o (e ∷ h) m (last_of found (length (listed o (e ∷ h))) (kept m e.call e.reply last))
        (wider widest (option_and_then (gap_since last) found))
    by None at = rw (wider_none widest) (walked_past o h e m last widest at w)
    by (Some b) at = walked_probe o h e m b last widest at w s run

-- a probe ends a gap that rises, and the widest gap rises
pub gap_rises : (o : Setting) (h : List Entry) (e : Entry) (m : ℕ) (last : Option LastProbe) (widest : Option Gap) →
    IsSetting o → IsRun o (e ∷ h) → IsWalked o h m last widest
    → IfSome (gap_then m e.reply last) (λ g. g.a ≤ g.b)
gap_rises o h e m last widest s run w = by (probed_at m e.reply) refl
  where
    with_last : (b : ℕ) → probed_at m e.reply ≡ Some b → (found : Option LastProbe) → last ≡ found →
        IfSome (gap_since found b) (λ g. g.a ≤ g.b)
    with_last b at None is = tt
    with_last b at (Some l) is =
        let gap = gap_new o h e m l.number b l.n (probes_it m e b at) (w.last_is l is) in
        omega (arith, gap_bound o (e ∷ h) s run m l.number b l.n gap)

    by : (found : Option ℕ) → probed_at m e.reply ≡ found →
        IfSome (option_and_then (gap_since last) found) (λ g. g.a ≤ g.b)
    by None at = tt
    by (Some b) at = with_last b at last refl

pub widest_rises : (o : Setting) (h : List Entry) (m : ℕ) (last : Option LastProbe) (widest : Option Gap) →
    IsSetting o → IsRun o h → IsWalked o h m last widest → IfSome widest (λ g. g.a ≤ g.b)
widest_rises o h m last widest s run w = by widest refl
  where
    by : (found : Option Gap) → widest ≡ found → IfSome found (λ g. g.a ≤ g.b)
    by None is = tt
    by (Some g) is = omega (arith, gap_bound o h s run m g.a g.b g.n (w.widest_is g is).gap)

-- so after each run
pub walked : (o : Setting) (h : List Entry) (m : ℕ) → IsSetting o → IsRun o h →
    IsWalked o h m (last_probe o m h) (widest_gap o m h)
walked o [] m s run = walked_none o m
walked o (e ∷ h) m s run = walked_then o h e m (last_probe o m h) (widest_gap o m h) s run (walked o h m s run.1)

-- so the widest gap is what it says
pub walked_widest : (o : Setting) (h : List Entry) (m : ℕ) (last : Option LastProbe) (widest : Option Gap) →
    IsWalked o h m last widest → IfSome widest (λ g. IsWidest o h m g.a g.b g.n)
walked_widest o h m last widest w = by widest refl
  where
    by : (found : Option Gap) → widest ≡ found → IfSome found (λ g. IsWidest o h m g.a g.b g.n)
    by None is = tt
    by (Some g) is = w.widest_is g is

pub walked_none_left : (o : Setting) (h : List Entry) (m : ℕ) (last : Option LastProbe) (widest : Option Gap) →
    IsWalked o h m last widest → (widest ≡ None) ↔ HasNoGap o h m
walked_none_left o h m last widest w = (w.widest_found, by widest refl)
  where
    by : (found : Option Gap) → widest ≡ found → HasNoGap o h m → found ≡ None
    by None is none = refl
    by (Some g) is none = absurd (none g.a g.b g.n (w.widest_is g is).gap)
