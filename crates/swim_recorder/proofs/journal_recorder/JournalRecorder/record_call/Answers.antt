use Rattle.std.proofs.Common.{◌≡◌, ap, sym}
use Rattle.swim_node.specs.Cells.{Filing}
use Rattle.swim_recorder.proofs.Told.{next_told}
use Rattle.swim_recorder.proofs.journal_recorder.JournalRecorder.record_call.Goals as goal

pub returns : goal.returns
returns g c = λ read number o start is.
    let old = c.args.self.now in
    let told = c.tell_next-change in
    let kept : c.args.next.now.kept ≡ c.next.inside.kept = sym (ap (λ (f : Filing). f.kept) c.next.view_is) in record {
      writes = c.write_call.ensures start.transcript read c.args.next.now kept is.writes;
      tells = next_told number o start.gallery start.heard (g.Y.Reporter.heard old.reporter)
          (g.Y.Reporter.heard c.hear.new.self) read c.args.next.now c.next.inside.kept told.result old.watching
          told.new.watching old.gallery told.new.gallery kept told.ensures.known told.ensures.told
          told.ensures.guests told.ensures.change c.hear.ensures is.tells;
    }
