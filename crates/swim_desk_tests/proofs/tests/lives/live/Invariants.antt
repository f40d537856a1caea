use Rattle.swim_desk_tests.proofs.tests.lives.live.Given as goal

-- the node of these parts and this opening
abbrev pub ghosts-live_so : goal.ghosts-live_so
ghosts-live_so g a = record {
  opening = a.opening;
  limit = a.parts.limit;
  ledgers = a.parts.ledgers;
  log = a.parts.log;
  cells = a.parts.cells;
  drawn = λ h. Unit {0};
}
