use Rattle.swim_verdicts.proofs.ShellReading.{word_read}
use Rattle.swim_verdicts.proofs.laws.a_shell_reads_the_path.Goals as goal

pub returns : goal.returns
returns c = λ path. word_read path
