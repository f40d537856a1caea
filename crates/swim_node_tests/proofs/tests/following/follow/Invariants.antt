use Rattle.swim_node_tests.proofs.tests.following.follow.Given as goal

-- the node of these parts and this opening
abbrev pub ghosts-read_in_threads : goal.ghosts-read_in_threads
ghosts-read_in_threads g a =
    record {
      opening = a.opening;
      limit = a.parts.limit;
      ledgers = a.parts.ledgers;
      log = a.parts.log;
      cells = a.parts.cells;
      drawn = λ h. Unit {0};
    }
