use Rattle.std.proofs.Common.{sym, ap, ◌∙◌}
use Rattle.std.specs.Option.{option_copied}
use Rattle.swim_text.specs.Words.{words_left, words_after, words_cut}
use Rattle.swim_text.proofs.words.Words.next.Goals as goal

pub returns-in-Some : goal.returns-in-Some
returns-in-Some c =
    let separator = c.self.inside.separator in
    let text = c.in_ok-text.text.now in
    sym c.self.view_is ∙ (ap (λ left. words_left separator (option_copied left)) c.in_ok-text.was ∙
    (words_cut separator text ∙ ap (words_after separator text) c.in-Some.ensures))

pub returns-in-None : goal.returns-in-None
returns-in-None c =
    let separator = c.self.inside.separator in
    let text = c.in_ok-text.text.now in
    sym c.self.view_is ∙ (ap (λ left. words_left separator (option_copied left)) c.in_ok-text.was ∙
    (words_cut separator text ∙ ap (words_after separator text) c.in-None.ensures))
