use Rattle.std.proofs.Common.{◌∙◌, ◌-◌, ◌^◌, ap, min}
use Rattle.swim_ticker.proofs.laws.each_reply_is_posted.Goals as goal

pub returns : goal.returns
returns g c = λ o limit old new seat seen end life.
    let sent = life.sent in (
      sent.posted.posted,
      sent.posted.grows,
      sent.posted.each,
      sent.counted ∙ ap (λ n. min n (2 ^ 64 - 1)) sent.posted.unsent,
    )
