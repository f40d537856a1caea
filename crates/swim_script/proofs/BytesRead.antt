-- How many bytes of a script are read: those of the lines before, and of the next one what the budget lets.
use Rattle.std.proofs.Common.{◌≡◌, ℕ, ◌+◌, ◌≤◌, Bool, true, false, cond, List, [], ◌∷◌, ◌++◌, length, reverse, Option}
use Rattle.std.proofs.Common.{Some, None, Result, Ok, Err, refl, sym, ap, ◌∙◌, arith}
use Rattle.std.specs.Prelude.{OnOk}
use Rattle.std.specs.List.{flat_map}
use Rattle.std.proofs.lemmas.List.{append_assoc, length-append, reverse-append, reverse-reverse}
use Rattle.swim_text.specs.Cutting.{lines_join}
use Rattle.swim_text.specs.Lines.{pieces, bare, TakesKnown}
use Rattle.swim_text.specs.Reads.{IsReadWithin, line_within}
use Rattle.swim_text.specs.declared.lines.Taken.{Taken}
use Rattle.swim_text.specs.declared.lines.Taken.TheVariants.{Over}
use Rattle.swim_script.specs.declared.forms.Form.{Form}
use Rattle.swim_script.specs.declared.forms.Form.TheVariants.{Script, Journal}
use Rattle.swim_script.specs.Forms.{is_mark, form_of, most_bytes}
use Rattle.swim_script.specs.Holds.{Played, Course, CourseKnown}
use Rattle.swim_script.specs.Reads.{IsReadWhole, ReadsKnown}
use Rattle.swim_script.specs.Script.{bytes_of, lines_of}
use Rattle.swim_script.proofs.Courses.{cut_more}

-- ---- the lines that were read are the front of the script

abbrev joined : List (List ℕ) → List ℕ
joined [] = []
joined (line ∷ before) = joined before ++ line

joined_length : (before : List (List ℕ)) → length (joined before) ≡ bytes_of before
joined_length [] = refl
joined_length (line ∷ before) = omega (arith, length-append (joined before) line, joined_length before)

all_joined : (before more : List (List ℕ)) →
    flat_map (λ piece. piece) (reverse before ++ more) ≡ joined before ++ flat_map (λ piece. piece) more
all_joined [] more = refl
all_joined (line ∷ before) more =
    ap (flat_map (λ piece. piece)) (sym (cut_more before line more)) ∙ all_joined before (line ∷ more) ∙
    sym (append_assoc (joined before) line (flat_map (λ piece. piece) more))

script_is : (script rest : List ℕ) (before : List (List ℕ)) → pieces script ≡ reverse before ++ pieces rest →
    script ≡ joined before ++ rest
script_is script rest before cut =
    sym (lines_join script) ∙ ap (flat_map (λ piece. piece)) cut ∙ all_joined before (pieces rest) ∙
    ap (λ l. joined before ++ l) (lines_join rest)

-- ---- later lines take nothing from what a script may have

most_of_all : (form : Form) → most_bytes form ≤ 1073741824
most_of_all Script = omega arith
most_of_all Journal = omega arith

form_grows : (more before : List (List ℕ)) → most_bytes (form_of before) ≤ most_bytes (form_of (more ++ before))
form_grows [] before = omega arith
form_grows (line ∷ more) before =
    by (is_mark (length (more ++ before)) (bare line)) (form_of (more ++ before)) (form_grows more before)
  where
    by : (is : Bool) (form : Form) → most_bytes (form_of before) ≤ most_bytes form →
        most_bytes (form_of before) ≤ most_bytes (cond is Journal form)
    by true form least = most_of_all (form_of before)
    by false form least = least

form_whole : (script rest : List ℕ) (before : List (List ℕ)) → pieces script ≡ reverse before ++ pieces rest →
    most_bytes (form_of before) ≤ most_bytes (form_of (reverse (pieces script)))
form_whole script rest before cut =
    let whole : reverse (pieces script) ≡ reverse (pieces rest) ++ before = ap reverse cut ∙
    reverse-append (reverse before) (pieces rest) ∙ ap (λ l. reverse (pieces rest) ++ l) (reverse-reverse before) in
    rw whole (form_grows (reverse (pieces rest)) before)

-- ---- a line more

reads : (script rest left : List ℕ) (old mid : Option (List ℕ)) (form : Form) (budget : ℕ) (s : Played) →
    Course script rest old mid form budget s → IsReadWithin (budget + 1) rest left →
    IsReadWithin (most_bytes (form_of (reverse (pieces script))) + 1) script left
reads script rest left old mid form budget s c r =
    let before = lines_of c.turns in
    record {
      read = joined before ++ r.read;
      whole = script_is script rest before c.cut ∙ ap (λ l. joined before ++ l) r.whole ∙
          sym (append_assoc (joined before) r.read left);
      within = omega (
        arith,
        length-append (joined before) r.read,
        joined_length before,
        r.within,
        c.spent,
        ap most_bytes c.form_is,
        form_whole script rest before c.cut,
      );
    }

pub reads_known : (taken : Taken) (script rest left old mid : Option (List ℕ)) (line : List ℕ) (form : Form)
    (limit budget after : ℕ) (s : Played) → CourseKnown script rest old mid form budget s →
    TakesKnown rest left taken line limit budget after → ReadsKnown script left
reads_known taken None rest left old mid line form limit budget after s c t = tt
reads_known taken (Some script) None left old mid line form limit budget after s c t = absurd c
reads_known taken (Some script) (Some rest) None old mid line form limit budget after s c t = absurd t
reads_known taken (Some script) (Some rest) (Some left) old mid line form limit budget after s c t =
    reads script rest left old mid form budget s c (line_within taken rest left line limit budget after t)

-- ---- where a script ends, nothing of it is left

whole_known : (script rest left old mid : Option (List ℕ)) (line : List ℕ) (form : Form) (limit budget after : ℕ)
    (s : Played) → CourseKnown script rest old mid form budget s → TakesKnown rest left Over line limit budget after →
    IsReadWhole script left
whole_known None rest left old mid line form limit budget after s c t = tt
whole_known (Some script) None left old mid line form limit budget after s c t = absurd c
whole_known (Some script) (Some rest) None old mid line form limit budget after s c t = absurd t
whole_known (Some script) (Some rest) (Some left) old mid line form limit budget after s c t = t.1

pub whole_if_ok : {A E : Type 0} (result : Result A E) (script rest left old mid : Option (List ℕ)) (line : List ℕ)
    (form : Form) (limit budget after : ℕ) (s : Played) → CourseKnown script rest old mid form budget s →
    TakesKnown rest left Over line limit budget after → OnOk result (IsReadWhole script left)
whole_if_ok (Ok value) script rest left old mid line form limit budget after s c t =
    whole_known script rest left old mid line form limit budget after s c t
whole_if_ok (Err error) script rest left old mid line form limit budget after s c t = tt
