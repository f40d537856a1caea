use Rattle.swim_recorder.proofs.Files.{life_file}
use Rattle.swim_recorder.proofs.laws.a_recorded_life_is_its_file.Goals as goal

pub returns : goal.returns
returns c =
    λ fresh page now opening limit seed number past was whole tellable drawn within head has.
    life_file fresh page now opening limit seed number past was whole
    (λ back. c.a_header_tells_its_opening.ensures.file opening limit seed number past tellable drawn within back)
    head has
