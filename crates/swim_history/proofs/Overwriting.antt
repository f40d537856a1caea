-- What a write to a part of some bytes leaves from the part's start on.
use Rattle.std.proofs.Common.{◌≡◌, ℕ, ◌+◌, ◌≤◌, List, ◌++◌, length, take, drop, ap, ◌∙◌, arith}
use Rattle.std.proofs.lemmas.List.{drop_at, drop-drop, length-take}
use borrow.Rule.Slice.PartMut.{put_mid}

pub drop_from_put : (at count : ℕ) (bytes part : List ℕ) → at ≤ length bytes →
    drop at (put_mid at count bytes part) ≡ part ++ drop (at + count) bytes
drop_from_put at count bytes part within =
    drop_at (take at bytes) (part ++ drop count (drop at bytes)) at (omega (arith, length-take at bytes)) ∙
    ap (λ l. part ++ l) (drop-drop count at bytes)
