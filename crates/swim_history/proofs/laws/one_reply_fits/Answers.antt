use Rattle.swim_history.specs.Laws.Determined.{fits_once, starts_once}
use Rattle.swim_history.proofs.laws.one_reply_fits.Goals as goal

pub returns-clause-settled : goal.returns-clause-settled
returns-clause-settled c = fits_once

pub returns-clause-started : goal.returns-clause-started
returns-clause-started c = starts_once
