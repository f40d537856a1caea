use Rattle.swim_pages.specs.Doubts.{Doubted}
use Rattle.swim_pages.proofs.Doubting.{one_more_doubted}
use Rattle.swim_pages.proofs.web_shelves.FileShelf.find_at.Goals as goal

pub returns-in-Some-blank_at-clause-nothing : goal.returns-in-Some-blank_at-clause-nothing
returns-in-Some-blank_at-clause-nothing g c = λ nothing.
    let doubted : Doubted = record { path = c.path.result.now; objection = c.objection.result } in
    one_more_doubted c.args.member c.args.number c.args.text.now.text c.doubt.new.text.text doubted c.requires
    (record {
      played = c.in-Some-blank_at.file.now.played;
      objection = c.objection.ensures.is;
      lacks = c.in-Some-blank_at.ensures.lacks;
    })
    (c.doubt.ensures.nothing nothing)
