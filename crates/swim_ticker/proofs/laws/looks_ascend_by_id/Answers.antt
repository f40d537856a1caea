use Rattle.swim_ticker.proofs.Looked.{looks_ascend}
use Rattle.swim_ticker.proofs.laws.looks_ascend_by_id.Goals as goal

pub returns : goal.returns
returns c = looks_ascend
