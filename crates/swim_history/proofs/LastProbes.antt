-- The last probe of a member since which it is listed, and its gaps, after one more entry.
use Rattle.std.proofs.Common.{◌≡◌, ℕ, ◌+◌, ◌⊎◌, inl, inr, Bool, true, false, cond, nat_eq, List, [], ◌∷◌, ◌++◌, length}
use Rattle.std.proofs.Common.{Option, Some, None, refl, sym, ap, ◌∙◌, arith}
use Rattle.std.proofs.lemmas.Bool.{false≢true, or_parts, or_from, eqb-true, eq-eqb}
use Rattle.std.proofs.lemmas.Option.{same_Some}
use Rattle.std.specs.Prelude.{filter, option_and_then}
use Rattle.std.specs.List.{list_any}
use Rattle.swim_history.specs.declared.replies.Probe.{Probe}
use Rattle.swim_history.specs.declared.entries.Entry.{Entry}
use Rattle.swim_history.specs.Setting.{Setting}
use Rattle.swim_history.specs.Events.{probe_in, joins}
use Rattle.swim_history.specs.Round.{listed}
use Rattle.swim_history.specs.Gap.{is_probe_of, probes_member, unlists, IsGap}
use Rattle.swim_history.specs.Laws.Gap.{counted}
use Rattle.swim_history.specs.LastProbe.{probed_at}

-- the last probe of the member, in the period a, since which it is listed; n is how many were listed just after it, and
-- how many joined since
pub record IsLast (o : Setting) (h : List Entry) (m a n : ℕ) : Type 0 where
  pub between : List Entry
  pub first : Entry
  pub before : List Entry
  pub split : h ≡ between ++ first ∷ before
  pub from : Probe
  pub probed : probe_in first.reply ≡ Some from
  pub member : from.target ≡ m
  pub number : from.number ≡ a
  pub none_between : list_any (probes_member m) between ≡ false
  pub stays : list_any (unlists m) between ≡ false
  pub count : n ≡ length (listed o (first ∷ before)) + length (filter joins between)

-- ---- splits

pub no_split : (newer : List Entry) (e : Entry) (before : List Entry) → [] ≡ newer ++ e ∷ before → ⊥
no_split [] e before is = absurd cc
no_split (x ∷ newer) e before is = absurd cc

-- ---- whom an entry probes

-- the probe of the member that an entry is
pub record ProbesIt (m : ℕ) (e : Entry) (b : ℕ) : Type 0 where
  pub probe : Probe
  pub is : probe_in e.reply ≡ Some probe
  pub member : probe.target ≡ m
  pub number : probe.number ≡ b

pub probes_it : (m : ℕ) (e : Entry) (b : ℕ) → probed_at m e.reply ≡ Some b → ProbesIt m e b
probes_it m e b at = by (probe_in e.reply) refl at
  where
    here : (probe : Probe) → probe_in e.reply ≡ Some probe → (t : Bool) → nat_eq probe.target m ≡ t →
        cond t (Some probe.number) None ≡ Some b → ProbesIt m e b
    here probe is true same at =
        record { probe = probe; is = is; member = eqb-true probe.target m same; number = same_Some probe.number b at }
    here probe is false same at = absurd cc

    by : (found : Option Probe) → probe_in e.reply ≡ found →
        option_and_then (λ (probe : Probe). cond (nat_eq probe.target m) (Some probe.number) None) found ≡ Some b →
        ProbesIt m e b
    by None is at = absurd cc
    by (Some probe) is at = here probe is (nat_eq probe.target m) refl at

pub probes_other : (m : ℕ) (e : Entry) → probed_at m e.reply ≡ None → probes_member m e ≡ false
probes_other m e at = by (probe_in e.reply) at
  where
    here : (t : Bool) (number : ℕ) → cond t (Some number) None ≡ None → t ≡ false
    here true number at = absurd cc
    here false number at = refl

    by : (found : Option Probe) →
        option_and_then (λ (probe : Probe). cond (nat_eq probe.target m) (Some probe.number) None) found ≡ None →
        is_probe_of m found ≡ false
    by None at = refl
    by (Some probe) at = here (nat_eq probe.target m) probe.number at

pub probing : (m : ℕ) (e : Entry) (probe : Probe) → probe_in e.reply ≡ Some probe → probe.target ≡ m →
    (probes_member m e ≡ true) × (probed_at m e.reply ≡ Some probe.number)
probing m e probe is same = let it = eq-eqb probe.target m same in (rw (is, it) refl, rw (is, it) refl)

-- ---- the last probe after one more entry

pub last_new : (o : Setting) (h : List Entry) (e : Entry) (m b : ℕ) → ProbesIt m e b →
    IsLast o (e ∷ h) m b (length (listed o (e ∷ h)))
last_new o h e m b it = record {
  between = [];
  first = e;
  before = h;
  split = refl;
  from = it.probe;
  probed = it.is;
  member = it.member;
  number = it.number;
  none_between = refl;
  stays = refl;
  count = omega arith;
}

-- a probe is the last until the next
pub only_last : (o : Setting) (h : List Entry) (e : Entry) (m a b n : ℕ) → ProbesIt m e b → IsLast o (e ∷ h) m a n →
    (a ≡ b) × (n ≡ length (listed o (e ∷ h)))
only_last o h e m a b n it last = by last.between last.split last.none_between last.count
  where
    by : (between : List Entry) → e ∷ h ≡ between ++ last.first ∷ last.before →
        list_any (probes_member m) between ≡ false →
        n ≡ length (listed o (last.first ∷ last.before)) + length (filter joins between)
        → (a ≡ b) × (n ≡ length (listed o (e ∷ h)))
    by [] split none count =
        let same : e ≡ last.first = cc in
        let members : n ≡ length (listed o (last.first ∷ last.before)) = omega (arith, count) in
        let probe : it.probe ≡ last.from =
        same_Some it.probe last.from (sym it.is ∙ ap (λ (x : Entry). probe_in x.reply) same ∙ last.probed) in (
          sym last.number ∙ ap (λ (p : Probe). p.number) (sym probe) ∙ it.number,
          members ∙
              ap (λ (x : List Entry). length (listed o x)) (sym split),
        )
    by (x ∷ between) split none count =
        let same : e ≡ x = cc in
        let probes = probing m e it.probe it.is it.member in
        absurd (false≢true (sym (or_parts (probes_member m x) (list_any (probes_member m) between) none).0 ∙
        ap (probes_member m) (sym same) ∙ probes.0))

-- what is the last after an entry that doesn't probe the member was the last before
pub record WasLast (o : Setting) (h : List Entry) (e : Entry) (m a n : ℕ) : Type 0 where
  pub stays : unlists m e ≡ false
  pub members : ℕ
  pub more : n ≡ members + cond (joins e) 1 0
  pub last : IsLast o h m a members

pub was_last : (o : Setting) (h : List Entry) (e : Entry) (m a n : ℕ) → probes_member m e ≡ false →
    IsLast o (e ∷ h) m a n → WasLast o h e m a n
was_last o h e m a n other last = by last.between last.split last.none_between last.stays last.count
  where
    by : (between : List Entry) → e ∷ h ≡ between ++ last.first ∷ last.before →
        list_any (probes_member m) between ≡ false → list_any (unlists m) between ≡ false →
        n ≡ length (listed o (last.first ∷ last.before)) + length (filter joins between)
        → WasLast o h e m a n
    by [] split none stays count =
        let same : e ≡ last.first = cc in
        let probes = probing m e last.from (ap (λ (x : Entry). probe_in x.reply) same ∙ last.probed) last.member in
        absurd (false≢true (sym other ∙ probes.0))
    by (x ∷ between) split none stays count =
        let same : x ≡ e = cc in
        let rest : h ≡ between ++ last.first ∷ last.before = cc in
        let stay = or_parts (unlists m x) (list_any (unlists m) between) stays in
        record {
          stays = ap (unlists m) (sym same) ∙ stay.0;
          members = length (listed o (last.first ∷ last.before)) + length (filter joins between);
          more = let one : length (filter joins (x ∷ between)) ≡ cond (joins e) 1 0 + length (filter joins between) =
              rw same (counted joins e between) in omega (arith, count, one);
          last = record {
            between = between;
            first = last.first;
            before = last.before;
            split = rest;
            from = last.from;
            probed = last.probed;
            member = last.member;
            number = last.number;
            none_between = (or_parts (probes_member m x) (list_any (probes_member m) between) none).1;
            stays = stay.1;
            count = refl;
          };
        }

pub still_last : (o : Setting) (h : List Entry) (e : Entry) (m a n : ℕ) → probes_member m e ≡ false →
    unlists m e ≡ false → IsLast o h m a n → IsLast o (e ∷ h) m a (n + cond (joins e) 1 0)
still_last o h e m a n other stays last = record {
  between = e ∷ last.between;
  first = last.first;
  before = last.before;
  split = ap (λ (x : List Entry). e ∷ x) last.split;
  from = last.from;
  probed = last.probed;
  member = last.member;
  number = last.number;
  none_between = or_from (probes_member m e) (list_any (probes_member m) last.between) other last.none_between;
  stays = or_from (unlists m e) (list_any (unlists m) last.between) stays last.stays;
  count = omega (arith, last.count, counted joins e last.between);
}

-- ---- the gaps after one more entry

-- a gap of one history is one of another that ends with the same entries
gap_within : (o : Setting) (h other newer : List Entry) (m a b n : ℕ) (gap : IsGap o h m a b n) →
    other ≡ newer ++ gap.second ∷ (gap.between ++ gap.first ∷ gap.before) → IsGap o other m a b n
gap_within o h other newer m a b n gap split = record {
  newer = newer;
  second = gap.second;
  between = gap.between;
  first = gap.first;
  before = gap.before;
  split = split;
  from = gap.from;
  to = gap.to;
  probed = gap.probed;
  again = gap.again;
  members = gap.members;
  numbers = gap.numbers;
  none_between = gap.none_between;
  stays = gap.stays;
  count = gap.count;
}

pub gap_older : (o : Setting) (h : List Entry) (e : Entry) (m a b n : ℕ) → IsGap o h m a b n → IsGap o (e ∷ h) m a b n
gap_older o h e m a b n gap =
    gap_within o h (e ∷ h) (e ∷ gap.newer) m a b n gap (ap (λ (x : List Entry). e ∷ x) gap.split)

pub gap_new : (o : Setting) (h : List Entry) (e : Entry) (m a b n : ℕ) → ProbesIt m e b → IsLast o h m a n →
    IsGap o (e ∷ h) m a b n
gap_new o h e m a b n it last = record {
  newer = [];
  second = e;
  between = last.between;
  first = last.first;
  before = last.before;
  split = ap (λ (x : List Entry). e ∷ x) last.split;
  from = last.from;
  to = it.probe;
  probed = last.probed;
  again = it.is;
  members = (last.member, it.member);
  numbers = (last.number, it.number);
  none_between = last.none_between;
  stays = last.stays;
  count = last.count;
}

-- a gap after an entry was one before, or the entry ends it
pub gap_cases : (o : Setting) (h : List Entry) (e : Entry) (m a b n : ℕ) → IsGap o (e ∷ h) m a b n →
    IsGap o h m a b n ⊎ (IsLast o h m a n × (probed_at m e.reply ≡ Some b))
gap_cases o h e m a b n gap = by gap.newer gap.split
  where
    by : (newer : List Entry) → e ∷ h ≡ newer ++ gap.second ∷ (gap.between ++ gap.first ∷ gap.before) →
        IsGap o h m a b n ⊎ (IsLast o h m a n × (probed_at m e.reply ≡ Some b))
    by [] split =
        let same : e ≡ gap.second = cc in
        let rest : h ≡ gap.between ++ gap.first ∷ gap.before = cc in
        let probes = probing m gap.second gap.to gap.again gap.members.1 in
        inr (
          record {
            between = gap.between;
            first = gap.first;
            before = gap.before;
            split = rest;
            from = gap.from;
            probed = gap.probed;
            member = gap.members.0;
            number = gap.numbers.0;
            none_between = gap.none_between;
            stays = gap.stays;
            count = gap.count;
          },
          ap (λ (x : Entry). probed_at m x.reply) same ∙ probes.1 ∙ ap (λ (x : ℕ). Some x) gap.numbers.1,
        )
    by (x ∷ newer) split =
        let rest : h ≡ newer ++ gap.second ∷ (gap.between ++ gap.first ∷ gap.before) = cc in
        inl (gap_within o (e ∷ h) h newer m a b n gap rest)
