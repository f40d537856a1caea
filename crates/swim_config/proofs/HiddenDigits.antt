-- Lines in which nothing that has to be hidden stands.
use Rattle.std.proofs.Common.{◌≡◌, ℕ, suc, ◌+◌, ◌<◌, ◌≤◌, Bool, true, false, ◌&&◌, List, [], ◌∷◌, ◌++◌, length}
use Rattle.std.proofs.Common.{get_or, take, drop, map, refl, sym, ap, ◌∙◌, append-nil, append_assoc}
use Rattle.std.proofs.Common.{Result, Ok, Err, arith, length-append}
use Rattle.std.proofs.Math.Bool.{and_assoc}
use Rattle.std.proofs.Math.Seq.{take-suc}
use Rattle.std.proofs.lemmas.Bool.{and_from, and_parts}
use Rattle.std.specs.Result.{OnErr, OnOk}
use Rattle.arrayvec.specs.ArrayVec.{ArrayVec}
use Rattle.std.proofs.lemmas.List.Folds.{list_all-append}
use Rattle.std.proofs.lemmas.List.{length-map, length-take-le, map-append, take-append-drop, take_all}
use Rattle.swim_config.specs.Configuration.{is_printing}
use Rattle.swim_config.specs.Hiding.{Adds, AddsByte, Detail, IsDetail, detail_room, empty_end, end_behind, ends_at}
use Rattle.swim_config.specs.Hiding.{hides, hides_behind, may_be_shown, printed, shown_line}
use Rattle.swim_config.specs.declared.line_ends.LineEnd.{LineEnd}

-- ---- two texts, one behind the other

ends-append : (end : LineEnd) (a b : List ℕ) → ends_at end (a ++ b) ≡ ends_at (ends_at end a) b
ends-append end [] b = refl
ends-append end (x ∷ a) b = ends-append (end_behind end x) a b

pub hides-append : (end : LineEnd) (a b : List ℕ) →
    hides_behind end (a ++ b) ≡ (hides_behind end a && hides_behind (ends_at end a) b)
hides-append end [] b = refl
hides-append end (x ∷ a) b =
    ap (λ t. may_be_shown (end_behind end x) && t) (hides-append (end_behind end x) a b) ∙
    sym (and_assoc (may_be_shown (end_behind end x)) (hides_behind (end_behind end x) a)
    (hides_behind (ends_at (end_behind end x) a) b))

-- a byte more of a text
pub ends_at_more : (end : LineEnd) (text : List ℕ) (i : ℕ) (byte : ℕ) → i < length text → byte ≡ get_or text i 0 →
    ends_at end (take (i + 1) text) ≡ end_behind (ends_at end (take i text)) byte
ends_at_more end text i byte within is =
    let e : i + 1 ≡ suc i = omega arith in
    ap (λ n. ends_at end (take n text)) e ∙ ap (ends_at end) (take-suc text i 0 within) ∙
    ends-append end (take i text) (get_or text i 0 ∷ []) ∙
    ap (λ b. end_behind (ends_at end (take i text)) b) (sym is)

-- ---- lines

pub empty_detail : (text : List ℕ) → text ≡ [] → IsDetail text
empty_detail text e = rw e (record { prints = refl; hidden = refl })

-- with a byte more that may be shown
pub one_more : (old new : List ℕ) (byte : ℕ) → IsDetail old → is_printing byte ≡ true →
    may_be_shown (end_behind (ends_at empty_end old) byte) ≡ true → new ≡ old ++ byte ∷ [] → IsDetail new
one_more old new byte detail prints shown e = rw e (record {
  prints = list_all-append is_printing old (byte ∷ []) ∙ and_from _ _ detail.prints (and_from _ _ prints refl);
  hidden = hides-append empty_end old (byte ∷ []) ∙ and_from _ _ detail.hidden (and_from _ _ shown refl);
})

-- a part in front
front_of : (a b : List ℕ) → IsDetail (a ++ b) → IsDetail a
front_of a b detail = record {
  prints = (and_parts _ _ (sym (list_all-append is_printing a b) ∙ detail.prints)).0;
  hidden = (and_parts _ _ (sym (hides-append empty_end a b) ∙ detail.hidden)).0;
}

pub front_hides : (old new : List ℕ) (n : ℕ) → IsDetail old → new ≡ take n old → IsDetail new
front_hides old new n detail e = rw e (front_of (take n old) (drop n old) (rw (take-append-drop n old) detail))

-- with the mark of what is hidden
pub mark_hides : (old new : List ℕ) → IsDetail old → new ≡ old ++ 46 ∷ 46 ∷ [] → IsDetail new
mark_hides old new detail e = rw e (record {
  prints = list_all-append is_printing old (46 ∷ 46 ∷ []) ∙ and_from _ _ detail.prints refl;
  hidden = hides-append empty_end old (46 ∷ 46 ∷ []) ∙ and_from _ _ detail.hidden refl;
})

-- a vector that stayed as it was
pub same_hides : (old new : ArrayVec ℕ) → new ≡ old → IsDetail old.items → IsDetail new.items
same_hides old new e detail = rw e detail

-- whether something was done or not
pub done_or_not : {A E : Type 0} (result : Result A E) (P Q R : Type 0) → OnOk result P → OnErr result Q → (P → R) →
    (Q → R) → R
done_or_not (Ok value) P Q R done not f g = f done
done_or_not (Err fault) P Q R done not f g = g not

-- so many bytes stand in front of a longer one
pub full_front : (n : ℕ) (line : List ℕ) → n < length line → n ≡ length (take n line)
full_front n line longer = sym (length-take-le n line (omega (arith, longer)))

-- a line that is short enough is shown whole
pub whole_shown : (n : ℕ) (line : List ℕ) → length line ≤ n → line ≡ take n line
whole_shown n line short = sym (take_all n line short)

-- ---- what is added as it is

abbrev detail_of : List ℕ → Bool → Detail
detail_of text is_hiding = record { text = text; is_hiding = is_hiding }

is_shown_line : (d : Detail) → d.is_hiding ≡ false → d ≡ shown_line d.text
is_shown_line d free = ap (λ (b : Bool). detail_of d.text b) free

pub adds_nothing : (old : Detail) → Adds old [] old
adds_nothing old = record {
  as_is = λ free fits room. is_shown_line old free ∙ ap shown_line (sym (append-nil old.text));
}

-- a byte more of a text
more_added : (old mid new : Detail) (text : List ℕ) (i byte : ℕ) → i < length text → byte ≡ get_or text i 0 →
    Adds old (take i text) mid → AddsByte mid (printed byte) new → old.is_hiding ≡ false →
    hides (old.text ++ map printed (take (i + 1) text)) ≡ true →
    length old.text + length (take (i + 1) text) ≤ detail_room →
    new ≡ shown_line (old.text ++ map printed (take (i + 1) text))
more_added old mid new text i byte within is before added free fits room =
    let e : i + 1 ≡ suc i = omega arith in
    let front : take (i + 1) text ≡ take i text ++ byte ∷ [] =
    ap (λ n. take n text) e ∙ take-suc text i 0 within ∙ ap (λ b. take i text ++ b ∷ []) (sym is) in
    let split : map printed (take (i + 1) text) ≡ map printed (take i text) ++ printed byte ∷ [] =
    ap (map printed) front ∙ map-append printed (take i text) (byte ∷ []) in
    let whole : old.text ++ map printed (take (i + 1) text) ≡
    (old.text ++ map printed (take i text)) ++ printed byte ∷ [] =
    ap (λ t. old.text ++ t) split ∙ sym (append_assoc old.text (map printed (take i text)) (printed byte ∷ [])) in
    let parts : (hides (old.text ++ map printed (take i text)) ≡ true) ×
    (hides_behind (ends_at empty_end (old.text ++ map printed (take i text))) (printed byte ∷ []) ≡ true) =
    and_parts _ _
    (sym (hides-append empty_end (old.text ++ map printed (take i text)) (printed byte ∷ [])) ∙
    ap hides (sym whole) ∙ fits) in
    let shorter : length (take i text) ≡ i = length-take-le i text (omega (arith, within)) in
    let longer : length (take (i + 1) text) ≡ i + 1 = length-take-le (i + 1) text (omega (arith, within)) in
    let so_far : mid ≡ shown_line (old.text ++ map printed (take i text)) =
    before.as_is free parts.0 (omega (arith, room, shorter, longer)) in
    let many : length mid.text ≡ length old.text + i =
    ap (λ (d : Detail). length d.text) so_far ∙ length-append old.text (map printed (take i text)) ∙
    ap (λ n. length old.text + n) (length-map (take i text) printed ∙ shorter) in
    let shown : may_be_shown (end_behind (ends_at empty_end mid.text) (printed byte)) ≡ true =
    ap (λ (d : Detail). may_be_shown (end_behind (ends_at empty_end d.text) (printed byte))) so_far ∙
    (and_parts _ _ parts.1).0 in
    added (ap (λ (d : Detail). d.is_hiding) so_far) shown (omega (arith, room, longer, many)) ∙
    ap (λ (d : Detail). shown_line (d.text ++ printed byte ∷ [])) so_far ∙ ap shown_line (sym whole)

pub adds_more : (old mid new : Detail) (text : List ℕ) (i byte : ℕ) → i < length text → byte ≡ get_or text i 0 →
    Adds old (take i text) mid → AddsByte mid (printed byte) new → Adds old (take (i + 1) text) new
adds_more old mid new text i byte within is before added =
    record { as_is = more_added old mid new text i byte within is before added }
