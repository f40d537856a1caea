use Rattle.std.proofs.Common.{◌++◌, ◌∷◌, [], true, take, length, ap, ◌∙◌, arith}
use Rattle.std.specs.List.{flat_map}
use Rattle.swim_devices.specs.Trails.{bytes_in}
use Rattle.swim_devices.proofs.Streamed.{left_more, rest_of, within_held}
use Rattle.swim_devices.proofs.unix_streams.StreamSink.write_once.Goals as goal

pub invariant_of-self : goal.invariant_of-self
invariant_of-self c =
    let s = c.self.inside in
    let rest = rest_of s.held.items c.as_slice.result.now s.sent c.as_slice.ensures.value in
    let most = ap length rest in
    let count = c.min-count.result in (
      within_held s.held.items s.sent count c.self.invariant.0 (omega (arith, c.min-count.ensures, most)),
      left_more (flat_map bytes_in s.put.items) s.left.items c.note.new.self.items true s.held.items s.sent count
          c.self.invariant.1 (c.note.ensures ∙ ap (λ xs. s.left.items ++ (true, take count xs) ∷ []) rest),
    )
