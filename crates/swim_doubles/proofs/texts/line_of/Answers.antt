use Rattle.std.proofs.Common.{[], ◌∷◌, ◌+◌, length, take, arith, sym, ap, ◌∙◌, length-append, length-take}
use Rattle.swim_text.specs.Parts.{cut_joined, first_with, through_first}
use Rattle.swim_doubles.proofs.texts.line_of.Goals as goal

pub slice_bounds-result-end : goal.slice_bounds-result-end
slice_bounds-result-end c =
    let text = c.args.text.now in
    let line = c.in-Some.line.now in
    let rest = c.in-Some.field-0-1.now in
    let joined = cut_joined 10 text (line, rest) c.in-Some.ensures in
    omega (arith, length-take (length line + 1) text, ap length joined, length-append line (10 ∷ rest))

pub returns-in-Some : goal.returns-in-Some
returns-in-Some c =
    let text = c.args.text.now in
    let line = c.in-Some.line.now in
    let through = rw c.in-Some.ensures at (through_first 10 text) in
    ap (λ n. take n text) (sym (length-append line (10 ∷ []))) ∙
    first_with 10 text (line, c.in-Some.field-0-1.now) c.in-Some.ensures ∙ sym through

pub returns-in-None : goal.returns-in-None
returns-in-None c = sym (rw c.in-None.ensures at (through_first 10 c.args.text.now))
