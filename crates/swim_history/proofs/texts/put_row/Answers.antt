use Rattle.std.proofs.Common.{◌≡◌, ◌-◌, ◌∙◌, take, drop, arith}
use Rattle.std.proofs.lemmas.List.{take_all, length-drop}
use Rattle.swim_history.specs.Texts.{row_text}
use Rattle.swim_history.proofs.texts.put_row.Goals as goal

pub returns-clause-bytes : goal.returns-clause-bytes
returns-clause-bytes g c =
    let start = c.write_row-start.result in
    let line = c.write_row-start.new.line in
    let whole : take (61 - start) (drop start line) ≡ row_text c.args.row.now =
    take_all (61 - start) (drop start line) (omega (arith, length-drop start line))
    ∙ c.write_row-start.ensures.written in
    rw whole at c.put.ensures.bytes
