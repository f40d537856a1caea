use Rattle.std.proofs.Common.{◌≤◌, length, nat_eq, lit<, arith}
use Rattle.std.proofs.lemmas.List.Sums.{prefix_len-le-length}
use Rattle.swim_relays.specs.declared.waiting.DueRequest.{DueRequest}
use Rattle.swim_relays.proofs.waiting.expire.Goals as goal

pub drain-requires : goal.drain-requires
drain-requires c =
    let within : c.count_due-due.result ≤ length c.args.entries.now.items =
    omega (
      arith,
      rw c.as_slice.ensures.value at c.count_due-due.ensures,
      prefix_len-le-length (λ (entry : DueRequest). nat_eq entry.due c.args.count) c.args.entries.now.items,
    ) in
    (lit< tt, (lit< tt, (tt, (omega arith, within))))
