use Rattle.swim_journal.proofs.Headed.{header_is}
use Rattle.swim_journal.proofs.HeadFaultless.{header_faultless, header_file}
use Rattle.swim_journal.proofs.PlainFile.{file_plain}
use Rattle.swim_journal.proofs.laws.a_header_tells_its_opening.Goals as goal

pub returns-clause-tells : goal.returns-clause-tells
returns-clause-tells c = header_is

pub returns-clause-well : goal.returns-clause-well
returns-clause-well c = header_faultless

pub returns-clause-file : goal.returns-clause-file
returns-clause-file c = header_file

pub returns-clause-plain : goal.returns-clause-plain
returns-clause-plain c = file_plain
