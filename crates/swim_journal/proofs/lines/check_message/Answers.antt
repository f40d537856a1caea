use Rattle.std.proofs.Common.{sym, ap, subst, ◌∙◌, List, ℕ}
use Rattle.hex.specs.Hex.{IsBytes}
use Rattle.swim_wire.specs.Layout.{decoded, IsTextOf}
use Rattle.swim_journal.proofs.lines.check_message.Goals as goal

pub returns : goal.returns
returns c =
    let m = c.args.message.now in
    let bytes = c.as_slice.ensures.value ∙ c.encode-text.ensures.layout in
    let spelled = subst (λ (text : List ℕ). IsTextOf text m) (sym c.as_slice.ensures.value) c.encode-text.ensures in
    let again = c.as_slice-2.ensures.value ∙ c.encode-text.ensures.layout in (
      ap decoded (sym bytes) ∙ sym c.decode-message.ensures.exact ∙ c.decode-message.ensures.only m spelled,
      subst IsBytes again c.check_bytes.ensures,
    )
