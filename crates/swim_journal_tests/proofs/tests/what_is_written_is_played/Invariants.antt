use Rattle.swim_journal_tests.proofs.tests.what_is_written_is_played.Given as goal

-- the node of these parts and this opening
abbrev pub ghosts-write_calls : goal.ghosts-write_calls
ghosts-write_calls g a =
    record {
      opening = a.opening;
      limit = a.parts.limit;
      ledgers = a.parts.ledgers;
      log = a.parts.log;
      cells = a.parts.cells;
      drawn = λ h. Unit {0};
    }
