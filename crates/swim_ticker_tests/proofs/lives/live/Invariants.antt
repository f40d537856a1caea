use Rattle.swim_ticker_tests.proofs.lives.live.Given as goal

-- the node of these parts and this opening
abbrev pub ghosts-live_by : goal.ghosts-live_by
ghosts-live_by g a =
    record {
      opening = a.opening;
      limit = a.parts.limit;
      ledgers = a.parts.ledgers;
      log = a.parts.log;
      cells = a.parts.cells;
      drawn = λ h. Unit {0};
    }
