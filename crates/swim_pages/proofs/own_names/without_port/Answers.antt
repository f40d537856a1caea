use Rattle.swim_pages.proofs.OwnNames.{port_cut}
use Rattle.swim_pages.proofs.own_names.without_port.Goals as goal

pub returns : goal.returns
returns c = port_cut c.args.name.now c.strip_suffix.result c.strip_suffix.ensures.cases
