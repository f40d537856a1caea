use Rattle.std.proofs.Common.{◌≡◌, take, refl, rules}
use Rattle.swim_config.specs.Hiding.{IsDetail}
use Rattle.swim_config.proofs.HiddenDigits.{front_hides, full_front, whole_shown}
use Rattle.swim_config.proofs.detail_lines.DetailLine.shown.Goals as goal

pub slice_bounds-result-end : goal.slice_bounds-result-end
slice_bounds-result-end c = full_front 160 c.as_slice-text.result.now c.if-text-le-DETAIL_BYTES.false

pub returns-then-text-le-DETAIL_BYTES-clause-text : goal.returns-then-text-le-DETAIL_BYTES-clause-text
returns-then-text-le-DETAIL_BYTES-clause-text c =
    let same : c.as_slice-text.result.now ≡ c.args.self.now.text = search rules in
    rw (← same) (whole_shown 160 c.as_slice-text.result.now c.if-text-le-DETAIL_BYTES.true)

pub returns-else-text-le-DETAIL_BYTES-clause-detail : goal.returns-else-text-le-DETAIL_BYTES-clause-detail
returns-else-text-le-DETAIL_BYTES-clause-detail c =
    let detail : IsDetail c.as_slice-text.result.now = rw c.as_slice-text.ensures.value c.self.invariant in
    front_hides c.as_slice-text.result.now (take 160 c.as_slice-text.result.now) 160 detail refl
