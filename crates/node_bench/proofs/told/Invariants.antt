use Rattle.node_bench.proofs.told.Given as goal

-- the node of these parts and this opening
abbrev pub ghosts-work : goal.ghosts-work
ghosts-work g a = record {
  opening = a.opening;
  limit = a.parts.limit;
  ledgers = a.parts.ledgers;
  log = a.parts.log;
  cells = a.parts.cells;
  drawn = λ h. Unit {0};
}
