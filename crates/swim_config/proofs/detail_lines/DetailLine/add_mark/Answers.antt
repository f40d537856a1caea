use Rattle.std.proofs.Common.{◌≡◌, ◌∷◌, [], ◌++◌}
use Rattle.swim_config.specs.Hiding.{IsDetail}
use Rattle.swim_config.proofs.HiddenDigits.{done_or_not, mark_hides, same_hides}
use Rattle.swim_config.proofs.detail_lines.DetailLine.add_mark.Goals as goal

pub invariant_of-self : goal.invariant_of-self
invariant_of-self c =
    done_or_not c.try_extend_from_slice.result
    (c.try_extend_from_slice.new.self.items ≡ c.self.inside.text.items ++ 46 ∷ 46 ∷ [])
    (c.try_extend_from_slice.new.self ≡ c.self.inside.text) (IsDetail c.try_extend_from_slice.new.self.items)
    c.try_extend_from_slice.ensures.ok c.try_extend_from_slice.ensures.err
    (λ e. mark_hides c.self.inside.text.items c.try_extend_from_slice.new.self.items c.self.invariant e)
    (λ e. same_hides c.self.inside.text c.try_extend_from_slice.new.self e c.self.invariant)
