use Rattle.swim_node_tests.proofs.tests.threads.two_threads.Given as goal

-- the node of these parts and this opening
abbrev pub ghosts-two_in_threads : goal.ghosts-two_in_threads
ghosts-two_in_threads g a =
    record {
      opening = a.opening;
      limit = a.parts.limit;
      ledgers = a.parts.ledgers;
      log = a.parts.log;
      cells = a.parts.cells;
      drawn = λ h. Unit {0};
    }
