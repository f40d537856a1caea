use Rattle.std.proofs.Common.{◌≡◌, ◌+◌, ◌≤◌, length, ap, subst, sym}
use Rattle.std.specs.Prelude.{slice_range}
use Rattle.std.specs.List.{flat_map}
use Rattle.swim_devices.specs.Trails.{bytes_in}
use Rattle.swim_devices.proofs.Streamed.{still_found, within_ready}
use Rattle.swim_devices.proofs.unix_streams.StreamSource.take.Goals as goal

pub invariant_of-self : goal.invariant_of-self
invariant_of-self c =
    let s = c.self.inside in
    let ready : c.args.self.now.ready ≡ slice_range s.bytes s.start s.end =
    sym (ap (λ v. v.ready) c.self.view_is) in
    let most : c.args.count ≤ length (slice_range s.bytes s.start s.end) =
    subst (λ l. c.args.count ≤ length l) ready c.requires in (
      within_ready s.bytes s.start s.end c.args.count c.self.invariant.0 most,
      c.self.invariant.1,
      still_found (flat_map bytes_in s.found.items) s.taken.items c.note.new.self.items _ s.bytes s.start s.end
          c.args.count c.self.invariant.2 c.self.invariant.0 most c.note.ensures,
    )
