-- What is kept with one entry more.
use Rattle.std.proofs.Common.{◌≡◌, ℕ, List, [], ◌∷◌, ◌++◌, Option, Some, None, length, refl, sym, ap, ◌∙◌, append_assoc}
use Rattle.std.proofs.Common.{ap₂, rules, subst, true}
use Rattle.std.proofs.lemmas.List.{append-nil}
use Rattle.std.specs.Prelude.{IfSome, is_some, nat_eq}
use Rattle.std.specs.HashMap.{get}
use Rattle.std.specs.Option.{option_map}
use Rattle.swim_history.specs.declared.entries.Entry.{Entry}
use Rattle.swim_trace.specs.declared.acts.Act.{Act}
use Rattle.swim_trace.specs.declared.index.ActIndex.{ActIndex}
use Rattle.swim_trace.specs.Acts.{Run, act_by, acts, acts_in, if_numbered, spot_at}
use Rattle.swim_trace.specs.Index.{KeepsWanted, Knows, with_more}

kept_with : {V : Type 0} (items : V → List Act) (old new : Option V) (xs more : List Act) →
    IfSome old (λ v. items v ≡ xs) → option_map items new ≡ with_more more (option_map items old) →
    IfSome new (λ v. items v ≡ xs ++ more)
kept_with items old None xs more is same = search rules
kept_with items None (Some w) xs more is same = absurd (cc same)
kept_with items (Some v) (Some w) xs more is same =
    let now : items w ≡ items v ++ more = cc same in
    now ∙ ap (λ l. l ++ more) is

some_with : {V : Type 0} (items : V → List Act) (old new : Option V) (more : List Act) →
    option_map items new ≡ with_more more (option_map items old) → is_some old ≡ true → is_some new ≡ true
some_with items old (Some w) more same some = refl
some_with items None None more same some = some
some_with items (Some v) None more same some = absurd (cc same)

-- a number that is wanted stays so where an entry's act is added
pub wanted_kept : (act : Option Act) (old new : ActIndex) →
    ((n : ℕ) → option_map (λ kept. kept.items) (get nat_eq new.acts n)
    ≡ with_more (if_numbered n act) (option_map (λ kept. kept.items) (get nat_eq old.acts n))) →
    KeepsWanted old new
wanted_kept act old new same =
    λ n wanted.
    some_with (λ kept. kept.items) (get nat_eq old.acts n) (get nat_eq new.acts n) (if_numbered n act) (same n) wanted

-- where an entry's act is added behind what is kept of those before it, what is kept is that of the entry, too
pub one_more_kept : (runs : List Run) (me file place : ℕ) (h : List Entry) (e : Entry) (old new : ActIndex) →
    file ≡ length runs → place ≡ length h → Knows (record { me = me; past = h } ∷ runs) old →
    ((n : ℕ) → option_map (λ kept. kept.items) (get nat_eq new.acts n)
    ≡ with_more (if_numbered n (act_by (spot_at file place) me e.call e.reply))
    (option_map (λ kept. kept.items) (get nat_eq old.acts n))) →
    Knows (record { me = me; past = e ∷ h } ∷ runs) new
one_more_kept runs me file place h e old new file_is place_is knows same = record {
  acts = λ n.
      let more = if_numbered n (act_by (spot_at (length runs) (length h)) me e.call e.reply) in
      let before = acts_in n (length runs) me h in
      let added : option_map (λ kept. kept.items) (get nat_eq new.acts n)
      ≡ with_more more (option_map (λ kept. kept.items) (get nat_eq old.acts n)) =
      same n ∙ ap₂ (λ f p. with_more (if_numbered n (act_by (spot_at f p) me e.call e.reply))
      (option_map (λ kept. kept.items) (get nat_eq old.acts n))) file_is place_is in
      subst (λ (l : List Act). IfSome (get nat_eq new.acts n) (λ kept. kept.items ≡ l))
      (append_assoc (acts n runs) before more)
      (kept_with (λ kept. kept.items) (get nat_eq old.acts n) (get nat_eq new.acts n) (acts n runs ++ before) more
      (knows.acts n) added);
}

-- of a file whose first entry is still to come, nothing is kept
pub none_kept : (runs : List Run) (me : ℕ) (index : ActIndex) → Knows runs index →
    Knows (record { me = me; past = [] } ∷ runs) index
none_kept runs me index knows = record {
  acts = λ n.
      subst (λ (l : List Act). IfSome (get nat_eq index.acts n) (λ kept. kept.items ≡ l))
      (sym (append-nil (acts n runs))) (knows.acts n);
}
