use Rattle.std.proofs.Common.{◌∙◌, sym, ap, Some}
use Rattle.swim_script.proofs.Digits.{decoded_digits, refused_digits}
use Rattle.swim_script.proofs.datagrams.decode_into.Goals as goal

pub returns-in-Ok : goal.returns-in-Ok
returns-in-Ok c =
    ap Some c.decode.ensures.exact
    ∙ sym (decoded_digits c.args.text.now c.decode_to_slice.new.out _ c.decode_to_slice.result c.requires
    c.decode_to_slice.ensures.value c.in-Ok.is)

pub returns-in-Err : goal.returns-in-Err
returns-in-Err c = sym
    (refused_digits c.args.text.now c.decode_to_slice.new.out _ _ c.decode_to_slice.result c.requires
    c.decode_to_slice.ensures.value c.in-Err.is)
