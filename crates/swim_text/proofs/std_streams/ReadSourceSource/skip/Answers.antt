use Rattle.swim_text.specs.Buffers.{skips}
use Rattle.swim_text.proofs.std_streams.ReadSourceSource.skip.Goals as goal

pub returns-clause-bytes : goal.returns-clause-bytes
returns-clause-bytes g c =
    rw (← c.self.view_is, c.advance.ensures.held)
    (skips (g.R.Read.remaining c.self.inside.reader) c.self.inside.buffer.held c.args.count)
