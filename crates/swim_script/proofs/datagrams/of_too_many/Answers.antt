use Rattle.std.proofs.Common.{sym, ◌∙◌}
use Rattle.std.proofs.lemmas.Bool.{false≢true}
use Rattle.swim_script.proofs.Digits.{too_many_digits, others_spell_nothing}
use Rattle.swim_script.proofs.datagrams.of_too_many.Goals as goal

pub returns-then-are_digits : goal.returns-then-are_digits
returns-then-are_digits c =
    sym (too_many_digits c.args.text.now c.requires.even (c.are_digits.ensures.0 c.if-are_digits.true) c.requires.many)

pub returns-else-are_digits : goal.returns-else-are_digits
returns-else-are_digits c =
    sym (others_spell_nothing c.args.text.now
    (λ digits. false≢true (sym c.if-are_digits.false ∙ c.are_digits.ensures.1 digits)))
