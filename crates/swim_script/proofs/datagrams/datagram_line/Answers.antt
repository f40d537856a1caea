use Rattle.std.proofs.Common.{◌≡◌, ◌∷◌, ◌++◌, ◌*◌, List, ℕ, length, Result, Ok, Err, sym, ap, ◌∙◌, arith}
use Rattle.std.specs.Prelude.{IsOk, OnOk}
use Rattle.hex.specs.Hex.{encode_lower, lower_digits}
use Rattle.hex.proofs.HexLemmas.{length-encode_with}
use Rattle.swim_history.specs.Texts.{feed}
use Rattle.swim_script.proofs.Digits.{line_is}
use Rattle.swim_script.proofs.datagrams.datagram_line.Goals as goal

on_ok : {T E : Type 0} (result : Result T E) (P : Type 0) → IsOk result → OnOk result P → P
on_ok (Ok done) P ok holds = holds
on_ok (Err fault) P ok holds = absurd cc

pub returns : goal.returns
returns c =
    let bytes = c.as_slice.ensures.value in
    let count : c.len.result ≡ length c.as_slice.result.now = c.len.ensures.value ∙ ap length (sym bytes) in
    let fits = c.encode_to_slice.ensures.fits.1 (omega (arith, count)) in
    let written = on_ok c.encode_to_slice.result (c.encode_to_slice.new.output ≡ encode_lower c.as_slice.result.now)
    fits c.encode_to_slice.ensures.written in
    let long : length c.encode_to_slice.new.output ≡ 2 * c.len.result =
    omega (arith, ap length written, length-encode_with lower_digits c.as_slice.result.now, count) in
    c.truncate.ensures.items
    ∙ line_is c.len.result c.encode_to_slice.new.output c.from-line.result.items c.len.ensures.fits long
    c.from-line.ensures.0
    ∙ ap (λ (digits : List ℕ). 32 ∷ (digits ++ feed))
    (written ∙ ap encode_lower (bytes ∙ c.encode-bytes.ensures.layout))
