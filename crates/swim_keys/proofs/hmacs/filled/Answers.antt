use Rattle.std.proofs.Common.{◌++◌, ◌∙◌, List, ℕ, length, drop, ap, replicate}
use Rattle.std.proofs.lemmas.List.{drop-replicate}
use Rattle.swim_keys.proofs.hmacs.filled.Goals as goal

pub returns : goal.returns
returns c =
    let bytes = c.args.bytes.now in
    ap (λ (front : List ℕ). front ++ drop (length bytes) (replicate 64 0)) c.copy_from_slice.ensures.after
    ∙ ap (λ (rest : List ℕ). bytes ++ rest) (drop-replicate (length bytes) 64 0)
