use Rattle.std.proofs.Common.{refl, ◌+◌, ◌-◌, ◌≤◌, ◌++◌, length, take, drop, sym, ap, ◌∙◌, arith, length-take}
use Rattle.std.proofs.lemmas.List.{drop-append-le}
use Rattle.std.proofs.lemmas.Slice.{between_is, take-put_mid}
use Rattle.swim_text.proofs.buffers.Buffer.append.Goals as goal

pub returns-clause-held : goal.returns-clause-held
returns-clause-held c =
    let b = c.self.inside in
    let text = c.args.text.now in
    let end = b.end + length text in
    let whole = take-put_mid b.end (end - b.end) b.bytes text end refl (omega arith) in
    let front : b.start ≤ length (take b.end b.bytes) = omega (arith, length-take b.end b.bytes) in
    rw (← c.self.view_is, c.copy_from_slice.ensures.after)
    (between_is _ b.start end ∙ ap (drop b.start) whole ∙ drop-append-le b.start (take b.end b.bytes) text front ∙
    ap (λ held. held ++ text) (sym (between_is b.bytes b.start b.end)))
