use Rattle.std.proofs.Common.{◌≡◌, true, ◌∷◌, [], ◌++◌, rules}
use Rattle.swim_config.specs.Hiding.{IsDetail, empty_end, end_behind, ends_at, may_be_shown}
use Rattle.swim_config.proofs.HiddenDigits.{done_or_not, one_more, same_hides}
use Rattle.swim_config.proofs.detail_lines.DetailLine.show.Goals as goal

pub invariant_of-self : goal.invariant_of-self
invariant_of-self c =
    let shown : may_be_shown (end_behind (ends_at empty_end c.self.inside.text.items) c.args.byte) ≡ true =
    search rules in
    done_or_not c.try_push.result (c.try_push.new.self.items ≡ c.self.inside.text.items ++ c.args.byte ∷ [])
    (c.try_push.new.self ≡ c.self.inside.text) (IsDetail c.try_push.new.self.items)
    c.try_push.ensures.ok c.try_push.ensures.err
    (λ e. one_more c.self.inside.text.items c.try_push.new.self.items c.args.byte c.self.invariant c.requires.prints
    shown e)
    (λ e. same_hides c.self.inside.text c.try_push.new.self e c.self.invariant)
