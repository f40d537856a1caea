use Rattle.swim_node_tests.proofs.tests.holding.no_datagram_waits_for_the_lock.Given as goal

-- the node of these parts and this opening
abbrev pub ghosts-join_and_hear : goal.ghosts-join_and_hear
ghosts-join_and_hear g a =
    record {
      opening = a.opening;
      limit = a.parts.limit;
      ledgers = a.parts.ledgers;
      log = a.parts.log;
      cells = a.parts.cells;
      drawn = λ h. Unit {0};
    }
