use Rattle.swim_writer.proofs.Documented.{one_more_file}
use Rattle.swim_writer.proofs.metrics_files.MetricsFiles.write.Goals as goal

pub returns-in-Ok : goal.returns-in-Ok
returns-in-Ok g c = one_more_file _ _ _ _ _ _ c.note.ensures c.as_bytes.ensures.value c.in-Ok.ensures
