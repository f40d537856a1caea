-- What is known of the entries that were gone through.
use Rattle.std.specs.Prelude.{◌≡◌, List}
use Rattle.swim_history.specs.declared.entries.Entry.{Entry}
use Rattle.swim_history.specs.Setting.{Setting}
use Rattle.swim_evidence.specs.Evidence.{probing, asked, strays, judged_by_starts, findings}
use Rattle.swim_evidence.specs.declared.trails.Trail.{Trail}

pub record Follows (o : Setting) (h : List Entry) (t : Trail) : Type 0 where
  pub last : t.last ≡ o.last
  pub probing : t.probing ≡ probing h
  pub ask : t.ask ≡ asked h
  pub strays : t.strays.items ≡ strays h
  pub judged : t.judged.items ≡ judged_by_starts h
  pub findings : t.findings.items ≡ findings o h
