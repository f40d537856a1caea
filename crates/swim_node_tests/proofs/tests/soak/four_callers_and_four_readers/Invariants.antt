use Rattle.swim_node_tests.proofs.tests.soak.four_callers_and_four_readers.Given as goal

-- the node of these parts and this opening
abbrev pub ghosts-soaked : goal.ghosts-soaked
ghosts-soaked g a = record {
  opening = a.start;
  limit = a.parts.limit;
  ledgers = a.parts.ledgers;
  log = a.parts.log;
  cells = a.parts.cells;
  drawn = λ h. Unit {0};
}
