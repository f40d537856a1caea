-- What is told in lines for people.
use Rattle.swim_telling.specs.Notices.{Notices, notices_both}
use Rattle.swim_telling.specs.Telling.{Written}

pub two_noticed : (old then new : Written) → Notices old then → Notices then new → Notices old new
two_noticed old then new a b = notices_both old then new a b
