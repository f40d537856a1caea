use Rattle.std.proofs.Common.{List, ℕ, [], ◌++◌, flat_map, sym, ap, ◌∙◌, rules, append_assoc, append-nil}
use Rattle.std.proofs.Output.{has_written_append, has_written_of_eq}
use Rattle.std.proofs.lemmas.List.{nil_from_length}
use Rattle.std.proofs.lemmas.Str.{IsUtf8-past_char, chars_from_encodes, chars_past_char}
use Rattle.swim_verdicts.specs.JsonTexts.{json_letter}
use Rattle.swim_verdicts.proofs.json_texts.show_letters.Goals as goal

pub loop-letter-preserved : goal.loop-letter-preserved
loop-letter-preserved g c =
    let held = c.loop-letter.invariant in
    let parts = c.in-Some.ensures.steps.0 in
    let step = chars_past_char _ _ c.in-Some.letter held.0 parts in (
      IsUtf8-past_char _ _ c.in-Some.letter held.0 parts,
      λ plain.
          let so_far = held.1 plain in (
            so_far.0 ++ json_letter c.in-Some.letter,
            has_written_append _ _ _ _ _ _ so_far.1 (search rules),
            append_assoc so_far.0 _ _
                ∙ (ap (λ (cs : List ℕ). so_far.0 ++ flat_map json_letter cs) (sym step) ∙ so_far.2),
          ),
    )

pub returns : goal.returns
returns g c = λ plain _.
    let held = c.loop-letter.invariant in
    let so_far = held.1 plain in
    let none = chars_from_encodes [] _ held.0 (sym (nil_from_length _ c.in-None.ensures.steps.0.0)) in
    has_written_of_eq _ _ _ _ _
    (sym (append-nil _) ∙ (ap (λ (cs : List ℕ). so_far.0 ++ flat_map json_letter cs) none ∙ so_far.2)) so_far.1
