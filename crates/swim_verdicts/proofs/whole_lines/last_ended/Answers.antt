use Rattle.std.proofs.Common.{◌≡◌, ◌∷◌, [], ◌++◌, take, get_or, ap, ◌∙◌}
use Rattle.std.proofs.lemmas.Bool.{eqb-true}
use Rattle.std.proofs.lemmas.List.{take_more}
use Rattle.swim_verdicts.proofs.Feeds.{no_feed}
use Rattle.swim_verdicts.proofs.whole_lines.last_ended.Goals as goal

pub returns-in-Some-clause-ends : goal.returns-in-Some-clause-ends
returns-in-Some-clause-ends c =
    let bytes = c.args.bytes.now in
    let last = c.in-Some.last in
    let feed : get_or bytes last 0 ≡ 10 = eqb-true (get_or bytes last 0) 10 c.in-Some.ensures.1 in
    (take last bytes, take_more bytes last 0 c.in-Some.ensures.0.high ∙ ap (λ b. take last bytes ++ b ∷ []) feed)

pub returns-in-None-clause-ends : goal.returns-in-None-clause-ends
returns-in-None-clause-ends c = no_feed c.args.bytes.now c.in-None.ensures
