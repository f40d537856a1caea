use Rattle.swim_node_tests.proofs.tests.trials.try_on_node.Given as goal

-- the node of these parts and this opening
abbrev pub ghosts-try_on_parts : goal.ghosts-try_on_parts
ghosts-try_on_parts g a =
    record {
      opening = a.opening;
      limit = a.parts.limit;
      ledgers = a.parts.ledgers;
      log = a.parts.log;
      cells = a.parts.cells;
      drawn = λ h. Unit {0};
    }
