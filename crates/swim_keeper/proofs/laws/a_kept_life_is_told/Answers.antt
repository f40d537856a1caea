use Rattle.swim_keeper.proofs.Told.{life_told}
use Rattle.swim_keeper.proofs.laws.a_kept_life_is_told.Goals as goal

pub returns : goal.returns
returns g c =
    λ fresh terms life o past k l m d e f h lived opened recorded closed.
    life_told g.V.Sink.written g.V.Sink.held fresh terms life o past k l m d e f h
    c.a_recorded_life_is_its_file.ensures lived opened recorded closed
